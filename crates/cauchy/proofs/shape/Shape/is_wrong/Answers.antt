-- `is_wrong` meets its contract. Assumes nothing.
use mathlib.Core.Path.{refl}
use Rattle.cauchy.specs.Calls.{wrong_shape}
use Rattle.cauchy.proofs.shape.Shape.is_wrong.Goals as goal

pub returns : goal.returns
unfolding wrong_shape
returns c = refl
