-- `sfc::session::offer::offer_chunk` meets its contract: 71, 43, the checks of the chunk, and then its block. Assumes nothing.
use mathlib.Core.Path.{sym, ◌∙◌}
use native.Mathlib.Omega.{arith}
use Rattle.sfc.proofs.session.TallyLaws.{room_left}
use Rattle.sfc.proofs.session.SessionLaws.{lent_refused, full_refused, chunk-number, chunk_refused}
use Rattle.sfc.specs.session.Session.{session_of}
use Rattle.sfc.proofs.session.offer.offer_chunk.Goals as goal

pub returns-then-is_lent_wrong : goal.returns-then-is_lent_wrong
returns-then-is_lent_wrong c = rw c.refused.ensures (lent_refused c.args.h (session_of c.args.store.now c.args.marks.now c.args.tallies) c.args.chunk.now (sym c.is_lent_wrong.ensures ∙ c.if-is_lent_wrong.true))

pub returns-then-is_full : goal.returns-then-is_full
returns-then-is_full c = rw c.refused-then-is_full.ensures (full_refused c.args.h (session_of c.args.store.now c.args.marks.now c.args.tallies) c.args.chunk.now (sym c.is_lent_wrong.ensures ∙ c.if-is_lent_wrong.false) (sym c.is_full.ensures ∙ c.if-is_full.true))

pub with_refusal-requires : goal.with_refusal-requires
with_refusal-requires c =
    let k = chunk-number c.args.h (session_of c.args.store.now c.args.marks.now c.args.tallies) c.args.chunk.now _ (sym c.check_all-checked.ensures ∙ c.in-Err.is) in
    (room_left c.args.tallies (sym c.is_full.ensures ∙ c.if-is_full.false), k.0, omega arith)

pub offer_whole-requires : goal.offer_whole-requires
offer_whole-requires c =
    record { lent = (sym c.is_lent_wrong.ensures ∙ c.if-is_lent_wrong.false); room = (sym c.is_full.ensures ∙ c.if-is_full.false); whole = sym c.check_all-checked.ensures ∙ c.in-Ok.is }

pub returns-in-Err : goal.returns-in-Err
returns-in-Err c =
    rw c.refused-in-Err.ensures
    (chunk_refused c.args.h (session_of c.args.store.now c.args.marks.now c.args.tallies) c.args.chunk.now (sym c.is_lent_wrong.ensures ∙ c.if-is_lent_wrong.false) (sym c.is_full.ensures ∙ c.if-is_full.false) _ (sym c.check_all-checked.ensures ∙ c.in-Err.is) _ c.with_refusal.ensures)
