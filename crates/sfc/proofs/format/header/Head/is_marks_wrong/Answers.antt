-- `sfc::format::header::Head::is_marks_wrong` computes its definition. Assumes nothing.
use Rattle.sfc.specs.session.Lent.{marks_wrong}
use Rattle.sfc.proofs.format.header.Head.is_marks_wrong.Goals as goal

pub returns : goal.returns
unfolding marks_wrong
returns c = simp (
  c.are_marks_known.ensures,
  c.is_shape_wrong.ensures,
)
