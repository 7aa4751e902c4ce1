-- `sfc::note::big::read_big` meets its contract. The loop's invariant: the number is that of the first i bytes. Assumes nothing.
use Prim.Native.Nat.{◌≤◌}
use mathlib.Core.Path.{◌≡◌}
use Rattle.sfc.specs.note.Note.{be}
use Rattle.sfc.proofs.note.big.read_big.Given as goal

abbrev pub invariant-loop-i : goal.invariant-loop-i
invariant-loop-i l = (l.i ≤ l.width) × (l.v ≡ be l.b l.at l.i)
