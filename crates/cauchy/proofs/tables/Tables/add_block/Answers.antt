-- `add_block` meets its contract. Assumes nothing.
use Rattle.cauchy.proofs.tables.Tables.add_block.Goals as goal

pub returns : goal.returns
returns c x y z u p = c.add_words.ensures x y z u p.first p.second p.third p.fourth (c.fill.ensures x y z u p)
