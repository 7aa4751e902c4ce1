-- `sfc::format::limits::is_length_wrong` computes its definition. Assumes nothing.
use mathlib.Core.Path.{refl}
use Rattle.sfc.specs.format.Limits.{length_wrong}
use Rattle.sfc.proofs.format.limits.is_length_wrong.Goals as goal

pub returns : goal.returns
unfolding length_wrong
returns c = refl
