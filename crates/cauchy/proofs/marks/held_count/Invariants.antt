-- `held_count` meets its contract. The loop's invariant: what is held of the marks before the index is counted. Assumes nothing.
use mathlib.Core.Path.{◌≡◌}
use Prim.Native.Nat.{◌≤◌, ℕ}
use lib.ListN.{take}
use lib.Dec.{eqb}
use Rattle.std.specs.List.{count_by}
use Rattle.cauchy.proofs.marks.held_count.Given as goal

abbrev pub invariant-loop-mark : goal.invariant-loop-mark
invariant-loop-mark l = (l.found ≤ l.mark-index) × (l.found ≡ count_by (λ (mark : ℕ). eqb mark 1) (take l.mark-index l.marks))
