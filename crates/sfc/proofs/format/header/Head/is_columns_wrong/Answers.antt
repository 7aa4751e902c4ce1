-- `sfc::format::header::Head::is_columns_wrong` computes its definition. Assumes nothing.
use Rattle.sfc.specs.session.Lent.{columns_wrong}
use Rattle.sfc.proofs.format.header.Head.is_columns_wrong.Goals as goal

pub returns : goal.returns
unfolding columns_wrong
returns c = simp (c.is_rebuilding_wrong.ensures, c.is_lent_wrong.ensures)
