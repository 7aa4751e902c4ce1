-- `sfc::note::resend::is_maximal` meets its contract. The loop's invariant: what is known of the first k pairs, and the rest from `least` on, are the whole. Assumes nothing.
use Prim.Native.Nat.{◌+◌, ◌-◌, ◌≤◌}
use mathlib.Core.Path.{◌≡◌}
use mathlib.Core.Bool.{◌&&◌}
use Prim.Native.Nat.{◌*◌}
use Rattle.sfc.specs.note.Ranges.{apart_from, maximal}
use Rattle.sfc.specs.note.Note.{pairs_from}
use Rattle.sfc.proofs.note.resend.is_maximal.Given as goal

abbrev pub invariant-loop-k : goal.invariant-loop-k
invariant-loop-k l = (l.k ≤ l.count) × ((l.apart && apart_from l.least (pairs_from l.note (23 + 8 * l.k) (l.count - l.k))) ≡ maximal (pairs_from l.note 23 l.count))
