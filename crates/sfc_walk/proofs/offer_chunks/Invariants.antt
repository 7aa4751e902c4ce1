-- `sfc_walk::offer_chunks` meets its contract. The loop's invariant: the chunks that are left make of what is kept by then what all
-- of them make of what was kept at first. Assumes nothing.
use Prim.Native.Nat.{◌-◌}
use mathlib.Core.Path.{◌≡◌}
use lib.ListN.{length}
use Rattle.sfc.specs.session.Offer.{logged_of}
use Rattle.sfc_walk.proofs.LoopLaws.{Walking}
use Rattle.sfc_walk.proofs.offer_chunks.Given as goal

abbrev pub invariant-loop-length : goal.invariant-loop-length
invariant-loop-length l =
    Walking l.h (logged_of l.initial.store l.initial.marks l.initial.walked.tallies l.initial.scratch l.initial.walked.finished.0) l.bytes l.walked.end (logged_of l.store l.marks l.walked.tallies l.scratch l.walked.finished.0) × (length l.store ≡ length l.initial.store) × (length l.marks ≡ length l.initial.marks) × (length l.scratch ≡ length l.initial.scratch)

abbrev pub decreases-loop-length : goal.decreases-loop-length
decreases-loop-length l = length l.bytes - l.walked.end
