-- `sfc::session::marks::barred_count` meets its contract. The loop's invariant: what is barred of the marks before the index is counted. Assumes nothing.
use Rattle.std.proofs.Common.{◌≡◌, ◌≤◌, take, eqb}
use Rattle.std.specs.List.{count_by}
use Rattle.sfc.proofs.session.marks.barred_count.Given as goal

abbrev pub invariant-loop-mark : goal.invariant-loop-mark
invariant-loop-mark l = (l.barred ≤ l.mark-index) × (l.barred ≡ count_by (λ mark. eqb mark 2) (take l.mark-index l.marks))
