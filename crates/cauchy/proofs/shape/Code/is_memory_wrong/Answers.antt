-- `is_memory_wrong` meets its contract. Assumes nothing.
use Rattle.cauchy.specs.Calls.{wrong_memory}
use Rattle.cauchy.proofs.shape.Code.is_memory_wrong.Goals as goal

pub returns : goal.returns
unfolding wrong_memory
returns c = rw c.saturating_sub-left.ensures
