-- `sfc_walk::offer_chunks` meets its contract. The loop's invariant: the chunks that are left make of what is kept by then what all
-- of them make of what was kept at first. Assumes nothing.
use Prim.Native.Nat.{ℕ, ◌+◌, ◌<◌, ◌≤◌}
use mathlib.Core.Path.{refl, ap, ◌∙◌}
use native.Mathlib.Nat.{add-sub_cancel_left}
use native.Mathlib.Omega.{arith}
use lib.ListN.{length, take, drop}
use Rattle.little.proofs.Laws.{part_laws}
use Rattle.sfc.specs.session.Offer.{logged_of}
use Rattle.sfc_walk.proofs.LoopLaws.{walking_start, walking_stop, front_inside, walking_on}
use Rattle.sfc_walk.proofs.offer_chunks.Goals.{In-Some}
use Rattle.sfc_walk.proofs.offer_chunks.Goals as goal

pub loop-length-init : goal.loop-length-init
loop-length-init c = let a = c.args in (walking_start a.h (logged_of a.store.now a.marks.now a.tallies a.scratch.now a.finished.0) a.bytes.now, refl, refl, refl)

-- the chunk lies in the bytes
inside : (c : In-Some) → (c.loop-length.walked.end + c.in-Some.length ≤ length c.args.bytes.now) × (0 < c.in-Some.length)
inside c =
    let a = c.args in
    let l = c.loop-length in
    front_inside a.h (logged_of a.store.now a.marks.now a.tallies a.scratch.now a.finished.0) a.bytes.now l.walked.end (logged_of l.store l.marks l.walked.tallies l.scratch l.walked.finished.0) _ l.invariant.0 (part_laws.part-rest a.bytes.now l.walked.end)
    _ c.length_at_front.ensures c.in-Some.length c.in-Some.is

pub overflow_add-end : goal.overflow_add-end
overflow_add-end c = record { fits = omega (arith, (inside (goal.at.overflow_add-end c).In-Some).0) }

pub slice_bounds-chunk-end : goal.slice_bounds-chunk-end
slice_bounds-chunk-end c = omega (arith, (inside (goal.at.slice_bounds-chunk-end c).In-Some).0)

pub loop-length-smaller : goal.loop-length-smaller
loop-length-smaller c = omega (arith, inside (goal.at.loop-length-smaller c).In-Some)

pub loop-length-preserved : goal.loop-length-preserved
loop-length-preserved c =
    let a = c.args in
    let l = c.loop-length in
    let o = c.offer-answer in (
      walking_on a.h (logged_of a.store.now a.marks.now a.tallies a.scratch.now a.finished.0) a.bytes.now l.walked.end (logged_of l.store l.marks l.walked.tallies l.scratch l.walked.finished.0) _ l.invariant.0 (part_laws.part-rest a.bytes.now l.walked.end)
          _ c.length_at_front.ensures c.in-Some.length c.in-Some.is _ _ _ _
          (ap (λ (n : ℕ). take n (drop l.walked.end a.bytes.now)) (add-sub_cancel_left l.walked.end c.in-Some.length)) o.ensures,
      o.auto.store ∙ l.invariant.1,
      o.auto.marks ∙ l.invariant.2,
      o.auto.scratch ∙ l.invariant.3,
    )

pub returns : goal.returns
returns c =
    let a = c.args in
    let l = c.loop-length in
    walking_stop a.h (logged_of a.store.now a.marks.now a.tallies a.scratch.now a.finished.0) a.bytes.now l.walked.end (logged_of l.store l.marks l.walked.tallies l.scratch l.walked.finished.0) _ l.invariant.0 (part_laws.part-rest a.bytes.now l.walked.end)
    _ c.length_at_front.ensures c.in_default.is
