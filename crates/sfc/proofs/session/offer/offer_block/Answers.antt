-- `sfc::session::offer::offer_block` meets its contract, by the mark and the comparison. Assumes nothing.
use mathlib.Core.Path.{sym, ◌∙◌}
use Rattle.sfc.proofs.session.SessionLaws.{block-laid, step_copy, step_differs, step_barred}
use Rattle.sfc.proofs.session.offer.offer_block.Goals as goal

pub returns-then-mark-eq-ABSENT : goal.returns-then-mark-eq-ABSENT
returns-then-mark-eq-ABSENT c = block-laid c.args.mark c.args.block.now c.args.payload.now _ c.if-mark-eq-ABSENT.true c.copy_from_slice.ensures.after

pub returns-then-is_same : goal.returns-then-is_same
returns-then-is_same c = step_copy c.args.mark c.args.block.now c.args.payload.now c.if-mark-eq-HELD.true (sym c.is_same.ensures ∙ c.if-is_same.true)

pub returns-then-mark-eq-HELD : goal.returns-then-mark-eq-HELD
returns-then-mark-eq-HELD c = rw c.clear.ensures (step_differs c.args.mark c.args.block.now c.args.payload.now c.if-mark-eq-HELD.true (sym c.is_same.ensures ∙ c.if-is_same.false))

pub returns : goal.returns
returns c = step_barred c.args.mark c.args.block.now c.args.payload.now c.if-mark-eq-ABSENT.false c.if-mark-eq-HELD.false
