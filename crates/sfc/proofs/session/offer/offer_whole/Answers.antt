-- `sfc::session::offer::offer_whole` meets its contract, in each case by what the step told. Assumes nothing.
use native.Mathlib.Nat.{add-sub_cancel_left}
use native.Mathlib.Omega.{arith}
use Rattle.sfc.proofs.session.TallyLaws.{room_left}
use Rattle.sfc.proofs.session.SessionLaws.{in_store, lent_lengths, whole-laid, whole_copy, whole_differs, whole_barred}
use Rattle.sfc.specs.session.Session.{session_of}
use Rattle.sfc.proofs.session.offer.offer_whole.Goals as goal

pub overflow_mul-at : goal.overflow_mul-at
overflow_mul-at c = let i = in_store c.args.h (session_of c.args.store.now c.args.marks.now c.args.tallies) c.args.chunk.now c.requires c.index_of-index.result c.index_of-index.ensures in omega (arith, i.end_in, i.small, i.mark_in, i.payload_in)

pub overflow_add-end : goal.overflow_add-end
overflow_add-end c = let i = in_store c.args.h (session_of c.args.store.now c.args.marks.now c.args.tallies) c.args.chunk.now c.requires c.index_of-index.result c.index_of-index.ensures in omega (arith, i.end_in, i.small, i.mark_in, i.payload_in)

pub slice_bounds-offer_block-end : goal.slice_bounds-offer_block-end
slice_bounds-offer_block-end c = let i = in_store c.args.h (session_of c.args.store.now c.args.marks.now c.args.tallies) c.args.chunk.now c.requires c.index_of-index.result c.index_of-index.ensures in omega (arith, i.end_in, i.small, i.mark_in, i.payload_in)

pub bounds-marks-i : goal.bounds-marks-i
bounds-marks-i c = let i = in_store c.args.h (session_of c.args.store.now c.args.marks.now c.args.tallies) c.args.chunk.now c.requires c.index_of-index.result c.index_of-index.ensures in omega (arith, i.end_in, i.small, i.mark_in, i.payload_in)

pub slice_bounds-offer_block-end-2 : goal.slice_bounds-offer_block-end-2
slice_bounds-offer_block-end-2 c = let i = in_store c.args.h (session_of c.args.store.now c.args.marks.now c.args.tallies) c.args.chunk.now c.requires c.index_of-index.result c.index_of-index.ensures in omega (arith, i.end_in, i.small, i.mark_in, i.payload_in)

pub offer_block-step-requires : goal.offer_block-step-requires
offer_block-step-requires c = lent_lengths c.args.h (session_of c.args.store.now c.args.marks.now c.args.tallies) c.args.chunk.now c.requires c.index_of-index.result c.index_of-index.ensures

pub overflow_cast-place : goal.overflow_cast-place
overflow_cast-place c = let i = in_store c.args.h (session_of c.args.store.now c.args.marks.now c.args.tallies) c.args.chunk.now c.requires c.index_of-index.result c.index_of-index.ensures in omega (arith, i.end_in, i.small, i.mark_in, i.payload_in)

pub bounds-marks-i-in-Laid : goal.bounds-marks-i-in-Laid
bounds-marks-i-in-Laid c = let i = in_store c.args.h (session_of c.args.store.now c.args.marks.now c.args.tallies) c.args.chunk.now c.requires c.index_of-index.result c.index_of-index.ensures in omega (arith, i.end_in, i.small, i.mark_in, i.payload_in)

pub with_fresh-requires : goal.with_fresh-requires
with_fresh-requires c = room_left c.args.tallies c.requires.room

pub with_repeat-requires : goal.with_repeat-requires
with_repeat-requires c = room_left c.args.tallies c.requires.room

pub bounds-marks-i-in-Differs : goal.bounds-marks-i-in-Differs
bounds-marks-i-in-Differs c = let i = in_store c.args.h (session_of c.args.store.now c.args.marks.now c.args.tallies) c.args.chunk.now c.requires c.index_of-index.result c.index_of-index.ensures in omega (arith, i.end_in, i.small, i.mark_in, i.payload_in)

pub with_refusal-requires : goal.with_refusal-requires
with_refusal-requires c = (room_left c.args.tallies c.requires.room, omega arith, omega arith)

pub with_refusal-requires-in-Barred : goal.with_refusal-requires-in-Barred
with_refusal-requires-in-Barred c = (room_left c.args.tallies c.requires.room, omega arith, omega arith)

pub returns-in-Laid : goal.returns-in-Laid
returns-in-Laid c =
    rw c.index_of-index.ensures
    (whole-laid c.args.h (session_of c.args.store.now c.args.marks.now c.args.tallies) c.args.chunk.now c.requires _ _ (add-sub_cancel_left _ _) _
    (rw (c.in-Laid.is, c.index_of-index.ensures) at c.offer_block-step.ensures) c.with_fresh.ensures)

pub returns-in-Copy : goal.returns-in-Copy
returns-in-Copy c =
    rw c.index_of-index.ensures
    (whole_copy c.args.h (session_of c.args.store.now c.args.marks.now c.args.tallies) c.args.chunk.now c.requires _ _ (add-sub_cancel_left _ _) _
    (rw (c.in-Copy.is, c.index_of-index.ensures) at c.offer_block-step.ensures) c.with_repeat.ensures)

pub returns-in-Differs : goal.returns-in-Differs
returns-in-Differs c =
    rw (c.refused.ensures, c.index_of-index.ensures)
    (whole_differs c.args.h (session_of c.args.store.now c.args.marks.now c.args.tallies) c.args.chunk.now c.requires _ _ (add-sub_cancel_left _ _) _
    (rw (c.in-Differs.is, c.index_of-index.ensures) at c.offer_block-step.ensures) c.with_refusal.ensures)

pub returns-in-Barred : goal.returns-in-Barred
returns-in-Barred c =
    rw (c.refused-in-Barred.ensures, c.index_of-index.ensures)
    (whole_barred c.args.h (session_of c.args.store.now c.args.marks.now c.args.tallies) c.args.chunk.now c.requires _ _ (add-sub_cancel_left _ _) _
    (rw (c.in-Barred.is, c.index_of-index.ensures) at c.offer_block-step.ensures) c.with_refusal-in-Barred.ensures)
