-- `sfc::session::offer::is_restart` computes its definition, by the three verdicts. Assumes nothing.
use mathlib.Core.Path.{◌∙◌}
use Rattle.sfc.specs.session.Offer.{restarts}
use Rattle.sfc.proofs.answer.Numbered.{is_conflict}
use Rattle.sfc.proofs.session.offer.is_restart.Goals as goal

pub returns-in-Fresh : goal.returns-in-Fresh
unfolding restarts
returns-in-Fresh c = rw c.in-Fresh.is

pub returns-in-Repeat : goal.returns-in-Repeat
unfolding restarts
returns-in-Repeat c = rw c.in-Repeat.is

pub returns-in-Refused : goal.returns-in-Refused
unfolding restarts
returns-in-Refused c = rw c.in-Refused.is (c.eq.ensures ∙ is_conflict c.in-Refused.reason)
