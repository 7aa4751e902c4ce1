-- `length_or_number` gives a length as it is, and a refusal its number. Assumes nothing.
use mathlib.Core.Path.{sym, ap, ◌∙◌}
use Rattle.sfc_native.specs.Answers.{length_for}
use Rattle.sfc_native.proofs.length_or_number.Goals as goal

pub returns-in-Ok : goal.returns-in-Ok
unfolding length_for
returns-in-Ok c = sym (ap length_for c.in-Ok.is)

pub returns-in-Err : goal.returns-in-Err
unfolding length_for
returns-in-Err c = c.from.ensures ∙ sym (ap length_for c.in-Err.is)
