-- `number` gives each answer its number.
use mathlib.Core.Path.{sym, ap}
use Rattle.cauchy_native.specs.Number.{said_number, number_of}
use Rattle.cauchy_native.proofs.number.Goals as goal

pub returns-in-Ok : goal.returns-in-Ok
unfolding number_of said_number
returns-in-Ok c = sym (ap number_of c.in-Ok.is)
