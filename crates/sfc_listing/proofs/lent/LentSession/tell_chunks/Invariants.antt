-- `sfc_listing::lent::LentSession::tell_chunks` meets its contract. The loop's invariant: the chunks that are left, offered to the
-- session at hand, end the walk and the lines as all of them do from the start. Assumes nothing.
use Prim.Native.Nat.{◌-◌}
use lib.ListN.{length}
use Rattle.sfc_listing.specs.Lent.{logged_in, SameSession}
use Rattle.sfc_listing.proofs.TellLaws.{Telling}
use Rattle.sfc_listing.proofs.lent.LentSession.tell_chunks.Given as goal

abbrev pub invariant-loop-length : goal.invariant-loop-length
invariant-loop-length l =
    Telling l.initial.self.head (logged_in l.initial.self) l.bytes l.from l.initial.page l.at (logged_in l.self) l.page × SameSession l.initial.self l.self

abbrev pub decreases-loop-length : goal.decreases-loop-length
decreases-loop-length l = length l.bytes - l.at
