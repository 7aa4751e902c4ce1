-- `answer_number` gives an answer its number. Assumes nothing.
use mathlib.Core.Path.{sym, ap, ◌∙◌}
use Rattle.sfc_native.specs.Answers.{answer_number}
use Rattle.sfc_native.proofs.answer_number.Goals as goal

pub returns-in-Ok : goal.returns-in-Ok
unfolding answer_number
returns-in-Ok g c = sym (ap answer_number c.in-Ok.is)

pub returns-in-Err : goal.returns-in-Err
unfolding answer_number
returns-in-Err g c = c.from.ensures ∙ sym (ap answer_number c.in-Err.is)
