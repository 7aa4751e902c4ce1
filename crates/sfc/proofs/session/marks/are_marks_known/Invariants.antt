-- `sfc::session::marks::are_marks_known` meets its contract. The loop's invariant: whether the marks before the index are known. Assumes nothing.
use Rattle.std.proofs.Common.{◌≡◌, take, ltb}
use Rattle.std.specs.List.{list_all}
use Rattle.sfc.proofs.session.marks.are_marks_known.Given as goal

abbrev pub invariant-loop-mark : goal.invariant-loop-mark
invariant-loop-mark l = l.known ≡ list_all (λ mark. ltb mark 3) (take l.mark-index l.marks)
