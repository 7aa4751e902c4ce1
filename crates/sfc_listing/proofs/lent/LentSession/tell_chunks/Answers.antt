-- `sfc_listing::lent::LentSession::tell_chunks` meets its contract. The loop's invariant: the chunks that are left, offered to the
-- session at hand, end the walk and the lines as all of them do from the start. Assumes nothing.
use Prim.Native.Nat.{ℕ, ◌+◌, ◌<◌, ◌≤◌}
use mathlib.Core.Path.{ap}
use native.Mathlib.Nat.{add-sub_cancel_left}
use native.Mathlib.Omega.{arith}
use lib.ListN.{length, take, drop}
use Rattle.little.proofs.Laws.{part_laws}
use Rattle.sfc_listing.specs.Lent.{logged_in}
use Rattle.sfc_listing.specs.Page.{HasRoom}
use Rattle.sfc_listing.proofs.TellLaws.{telling_end, chunk_inside, telling_on, same_then}
use Rattle.sfc_listing.proofs.lent.LentSession.tell_chunks.Goals.{In-Some, In_default}
use Rattle.sfc_listing.proofs.lent.LentSession.tell_chunks.Goals as goal

-- the chunk lies in the bytes, and its line on the page
inside : (c : In-Some) → (c.loop-length.at + c.in-Some.length ≤ length c.args.bytes.now) × (c.args.from + c.loop-length.at ≤ 65536) × HasRoom 50 c.loop-length.page × (0 < c.in-Some.length)
inside c =
    let a = c.args in
    let l = c.loop-length in
    chunk_inside a.self.now.head (logged_in a.self.now) a.bytes.now a.from a.page.now l.at (logged_in l.self) l.page l.invariant.0 _ (part_laws.part-rest a.bytes.now l.at)
    _ (rw l.invariant.1.head at c.length_at_front.ensures) c.requires.near c.requires.room c.in-Some.length c.in-Some.is

pub overflow_add-end : goal.overflow_add-end
overflow_add-end c = record { fits = omega (arith, inside (goal.at.overflow_add-end c).In-Some) }

pub slice_bounds-tell_offer-end : goal.slice_bounds-tell_offer-end
slice_bounds-tell_offer-end c = omega (arith, inside (goal.at.slice_bounds-tell_offer-end c).In-Some)

pub tell_offer-requires-clause-room : goal.tell_offer-requires-clause-room
tell_offer-requires-clause-room c = (inside (goal.at.tell_offer-requires-clause-room c).In-Some).2

pub loop-length-smaller : goal.loop-length-smaller
loop-length-smaller c = omega (arith, inside (goal.at.loop-length-smaller c).In-Some)

pub loop-length-preserved : goal.loop-length-preserved
loop-length-preserved c =
    let a = c.args in
    let l = c.loop-length in
    let o = c.tell_offer.ensures in
    let m = l.invariant.1 in
    let k = o.memory in (
      telling_on a.self.now.head (logged_in a.self.now) a.bytes.now a.from a.page.now l.at (logged_in l.self) l.page l.invariant.0 _ (part_laws.part-rest a.bytes.now l.at)
          _ (rw m.head at c.length_at_front.ensures) c.requires.near c.requires.room c.in-Some.length c.in-Some.is _ _ _
          (ap (λ (n : ℕ). take n (drop l.at a.bytes.now)) (add-sub_cancel_left l.at c.in-Some.length)) (rw m.head at o.told),
      same_then m k,
    )

pub returns-clause-told : goal.returns-clause-told
returns-clause-told c =
    let a = c.args in
    let l = c.loop-length in
    telling_end a.self.now.head (logged_in a.self.now) a.bytes.now a.from a.page.now l.at (logged_in l.self) l.page l.invariant.0 _ (part_laws.part-rest a.bytes.now l.at)
    _ (rw l.invariant.1.head at c.length_at_front.ensures) c.in_default.is
