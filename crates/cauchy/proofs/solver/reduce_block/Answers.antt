-- `reduce_block` meets its contract. Assumes nothing.
use Rattle.cauchy.proofs.solver.reduce_block.Goals as goal

pub returns : goal.returns
returns c = rw (c.mul-c.ensures, c.mul-d.ensures, c.inv-o.ensures) at c.mix.ensures
