-- `sfc::session::offer::offer` meets its contract: the place is found after the verdict, and fits; then the rebuild goes on or begins
-- anew. Assumes nothing.
use mathlib.Core.Path.{sym, ◌∙◌}
use Rattle.sfc.specs.session.Session.{session_of}
use Rattle.sfc.specs.session.Offer.{logged_of}
use Rattle.sfc.proofs.session.BreakLaws.{offer_fits}
use Rattle.sfc.proofs.session.KeptLaws.{offered-beside, verdict-judged, offered-judged}
use Rattle.sfc.proofs.session.offer.offer.Goals as goal

pub returns-then-is_rebuilding_wrong : goal.returns-then-is_rebuilding_wrong
returns-then-is_rebuilding_wrong c =
    let a = c.args in
    offered-beside a.h (logged_of a.store.now a.marks.now a.tallies a.scratch.now a.finished.0) a.chunk.now (sym c.is_rebuilding_wrong.ensures ∙ c.if-is_rebuilding_wrong.true)

pub spot_of-spot-requires : goal.spot_of-spot-requires
spot_of-spot-requires c =
    let a = c.args in
    offer_fits a.h (session_of a.store.now a.marks.now a.tallies) a.chunk.now _
    (verdict-judged a.h (logged_of a.store.now a.marks.now a.tallies a.scratch.now a.finished.0) a.chunk.now (sym c.is_rebuilding_wrong.ensures ∙ c.if-is_rebuilding_wrong.false) _ c.offer_chunk-judgement.ensures)

pub returns : goal.returns
returns c =
    let a = c.args in
    offered-judged a.h (logged_of a.store.now a.marks.now a.tallies a.scratch.now a.finished.0) a.chunk.now (sym c.is_rebuilding_wrong.ensures ∙ c.if-is_rebuilding_wrong.false) _ c.offer_chunk-judgement.ensures _ _ _
    c.spot_of-spot.ensures c.finished_after.ensures.0 c.finished_after.ensures.1
