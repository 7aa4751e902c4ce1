-- `sfc_listing::session::last_word` meets its contract: one word for each answer of the release. Assumes nothing.
use mathlib.Core.Path.{ap, ◌∙◌}
use Rattle.std.specs.Prelude.{Err}
use Rattle.sfc_listing.proofs.ReportLaws.{word_whole, word_differs, word_few}
use Rattle.sfc_listing.proofs.session.last_word.Goals as goal

pub returns-in-Ok : goal.returns-in-Ok
returns-in-Ok c =
    let a = c.args in
    word_whole a.h a.store.now a.marks.now a.scratch.now a.numbers.now a.content.now c.requires.0 c.requires.1 _ c.rebuild_turn-turn.ensures _ _ _ _ c.release-released.ensures _ c.in-Ok.is

pub returns-in-ContentHash : goal.returns-in-ContentHash
returns-in-ContentHash c =
    let a = c.args in
    word_differs a.h a.store.now a.marks.now a.scratch.now a.numbers.now a.content.now c.requires.0 c.requires.1 _ c.rebuild_turn-turn.ensures _ _ _ _ c.release-released.ensures (c.in-Err.is ∙ ap Err c.in-ContentHash.is)

pub returns-in_default : goal.returns-in_default
returns-in_default c =
    let a = c.args in
    word_few a.h a.store.now a.marks.now a.scratch.now a.numbers.now a.content.now c.requires.0 c.requires.1 _ c.rebuild_turn-turn.ensures _ _ _ _ c.release-released.ensures _ c.in-Err.is c.in_default.not-ContentHash
