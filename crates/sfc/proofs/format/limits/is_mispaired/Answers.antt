-- `sfc::format::limits::is_mispaired` computes its definition. Assumes nothing.
use mathlib.Core.Path.{refl}
use Rattle.sfc.specs.format.Header.{mispaired}
use Rattle.sfc.proofs.format.limits.is_mispaired.Goals as goal

pub returns : goal.returns
unfolding mispaired
returns c = refl
