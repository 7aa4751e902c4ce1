-- `sfc::session::offer::finished_after` meets its contract: what was rebuilt stays, or is cleared. Assumes nothing.
use mathlib.Core.Path.{refl, sym, ◌∙◌}
use borrow.Author.Tests.{not-true, not-false}
use Rattle.sfc.proofs.session.offer.finished_after.Goals as goal

pub returns-then-not-is_restart : goal.returns-then-not-is_restart
returns-then-not-is_restart c = let e = sym c.is_restart.ensures ∙ not-true _ c.if-not-is_restart.true-raw in rw e (refl, refl)

pub returns : goal.returns
returns c = let e = sym c.is_restart.ensures ∙ not-false _ c.if-not-is_restart.false-raw in rw e (c.clear.ensures, refl)
