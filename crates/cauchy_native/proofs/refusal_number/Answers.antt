-- `refusal_number` gives each refusal its number.
use mathlib.Core.Path.{sym, ap}
use Rattle.std.specs.Prelude.{Err}
use Rattle.cauchy_native.specs.Number.{said_number, number_of}
use Rattle.cauchy_native.proofs.refusal_number.Goals as goal

pub returns-in-BadShape : goal.returns-in-BadShape
unfolding number_of said_number
returns-in-BadShape c = sym (ap (λ r. number_of (Err r)) c.in-BadShape.is)

pub returns-in-TooFew : goal.returns-in-TooFew
unfolding number_of said_number
returns-in-TooFew c = sym (ap (λ r. number_of (Err r)) c.in-TooFew.is)
