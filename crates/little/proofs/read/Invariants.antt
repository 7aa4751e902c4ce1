-- `little::read` meets its contract. The loop's invariant: v is the number that the bytes from place i on make. Assumes nothing.
use Prim.Native.Nat.{◌+◌, ◌-◌, ◌≤◌, ◌<◌}
use mathlib.Core.Path.{◌≡◌}
use lib.ListN.{length}
use Rattle.little.specs.Fields.{le}
use Rattle.little.proofs.read.Given as goal

abbrev pub invariant-loop-i : goal.invariant-loop-i
invariant-loop-i l = (l.i ≤ l.width) × (0 < l.i → l.at + l.i ≤ length l.s) × (l.v ≡ le l.s (l.at + l.i) (l.width - l.i))
