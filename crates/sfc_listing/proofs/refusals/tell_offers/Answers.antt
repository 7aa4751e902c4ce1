-- `sfc_listing::refusals::tell_offers` meets its contract: from zeros, over all chunks, to the stop. Assumes nothing.
use Prim.Native.Nat.{◌+◌, ◌≤◌}
use native.Mathlib.Omega.{arith}
use borrow.Author.Rules.{rules}
use lib.ListN.{length}
use Rattle.little.proofs.Laws.{part_laws}
use Rattle.sfc_listing.specs.Page.{HasRoom}
use Rattle.sfc_listing.proofs.TellLaws.{none_rebuilt, stop_inside, offers_told}
use Rattle.sfc_listing.proofs.refusals.tell_offers.Goals.{After-tell_chunks-end}
use Rattle.sfc_listing.proofs.refusals.tell_offers.Goals as goal

pub invariant_of-session : goal.invariant_of-session
invariant_of-session c = record { beside = none_rebuilt c.args.h c.args.desk.now.scratch.now c.requires.scratch_long }

-- what is left lies in the bytes, and its line on the page
inside : (c : After-tell_chunks-end) → (c.tell_chunks-end.result ≤ length c.args.chunks.now) × (c.args.from + c.tell_chunks-end.result ≤ 65536) × HasRoom 50 c.tell_chunks-end.new.page
inside c =
    let a = c.args in
    let d = a.desk.now in
    stop_inside a.h d.store.now d.marks.now d.scratch.now a.chunks.now a.from a.page.now c.requires _ _ _ (c.fill.ensures.after (λ y e. e)) (c.fill-2.ensures.after (λ y e. e)) c.new.ensures
    _ _ _ c.tell_chunks-end.ensures.told

pub slice_bounds-tell_stop-count : goal.slice_bounds-tell_stop-count
slice_bounds-tell_stop-count c = omega (arith, inside (goal.at.slice_bounds-tell_stop-count c).After-tell_chunks-end)

pub slice_bounds-tell_stop-start : goal.slice_bounds-tell_stop-start
slice_bounds-tell_stop-start c = omega (arith, inside (goal.at.slice_bounds-tell_stop-start c).After-tell_chunks-end)

pub overflow_add-from : goal.overflow_add-from
overflow_add-from c = record { fits = omega (arith, inside (goal.at.overflow_add-from c).After-tell_chunks-end) }

pub tell_stop-requires-clause-near : goal.tell_stop-requires-clause-near
tell_stop-requires-clause-near c = omega (arith, inside (goal.at.tell_stop-requires-clause-near c).After-tell_chunks-end)

pub returns-clause-told : goal.returns-clause-told
returns-clause-told c =
    let a = c.args in
    let d = a.desk.now in
    let t = offers_told a.h d.store.now d.marks.now d.scratch.now a.chunks.now a.from a.page.now c.requires _ _ _ (c.fill.ensures.after (λ y e. e)) (c.fill-2.ensures.after (λ y e. e)) c.new.ensures
    _ _ _ c.tell_chunks-end.ensures.told _ _ _ _ (part_laws.part-rest a.chunks.now _) (rw c.tell_chunks-end.ensures.memory.head at c.tell_stop.ensures.told) in
    record {
      store-left = search (rules, t.store-left, c.tell_stop.ensures.memory, c.tell_chunks-end.ensures.memory);
      marks-left = search (rules, t.marks-left, c.tell_stop.ensures.memory, c.tell_chunks-end.ensures.memory);
      told = t.told;
    }
