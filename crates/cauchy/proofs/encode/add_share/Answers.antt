-- `add_share` meets its contract. Assumes nothing.
use Rattle.cauchy.proofs.encode.add_share.Goals as goal

pub returns : goal.returns
returns c = c.add_block.ensures _ _ _ _ c.weights-x.ensures
