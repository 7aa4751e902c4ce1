-- `sfc::format::limits::Shape::is_wrong` computes its definition. Assumes nothing.
use Rattle.sfc.specs.session.Lent.{shape_wrong}
use Rattle.sfc.proofs.format.limits.Shape.is_wrong.Goals as goal

pub returns : goal.returns
unfolding shape_wrong
returns c = simp (
  c.is_above_house.ensures,
  c.is_unlawful.ensures,
)
