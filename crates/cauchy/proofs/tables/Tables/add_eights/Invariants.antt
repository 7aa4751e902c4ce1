-- `add_eights` meets its contract. Assumes nothing.
use mathlib.Core.Path.{◌≡◌}
use Prim.Native.Nat.{◌-◌, ◌%◌, ◌≤◌}
use Rattle.cauchy.specs.inner.Packed.{AddedTo}
use Rattle.cauchy.proofs.tables.Tables.add_eights.Given as goal

abbrev pub invariant-loop-w : goal.invariant-loop-w
invariant-loop-w l = (l.w ≤ l.end) × (l.w % 8 ≡ 0) × AddedTo l.self.low l.self.high l.src l.w l.initial.acc l.acc

abbrev pub decreases-loop-w : goal.decreases-loop-w
decreases-loop-w l = l.end - l.w
