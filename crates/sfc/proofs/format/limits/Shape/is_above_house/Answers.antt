-- `sfc::format::limits::Shape::is_above_house` computes its definition. Assumes nothing.
use mathlib.Core.Path.{refl}
use Rattle.sfc.specs.format.Limits.{above_house}
use Rattle.sfc.proofs.format.limits.Shape.is_above_house.Goals as goal

pub returns : goal.returns
unfolding above_house
returns c = refl
