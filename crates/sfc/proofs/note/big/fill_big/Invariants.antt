-- `sfc::note::big::fill_big` meets its contract. The loop's invariant: the bytes left to store and those stored are the bytes of the number. Assumes nothing.
use Prim.Native.Nat.{◌≤◌}
use mathlib.Core.Path.{◌≡◌}
use lib.ListN.{length, drop}
use mathlib.Core.List.{◌++◌}
use Rattle.sfc.specs.note.Note.{big_bytes}
use Rattle.sfc.proofs.note.big.fill_big.Given as goal

abbrev pub invariant-loop-i : goal.invariant-loop-i
invariant-loop-i l = (l.i ≤ length l.initial.d) × (length l.d ≡ length l.initial.d) × (big_bytes l.i l.rest ++ drop l.i l.d ≡ big_bytes (length l.initial.d) l.v)
