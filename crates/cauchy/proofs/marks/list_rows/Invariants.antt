-- `list_rows` meets its contract. Assumes nothing.
use Prim.Native.Nat.{◌-◌, ◌≤◌}
use Rattle.cauchy.proofs.marks.ListLaws.{Picked}
use Rattle.cauchy.proofs.marks.list_rows.Given as goal

abbrev pub invariant-loop-got : goal.invariant-loop-got
invariant-loop-got l = Picked l.n l.m l.marks l.out l.e l.got l.k × (l.k ≤ l.m)

abbrev pub decreases-loop-got : goal.decreases-loop-got
decreases-loop-got l = l.m - l.k
