-- `sfc::format::extension::is_known` computes its definition. Assumes nothing.
use mathlib.Core.Path.{refl}
use Rattle.sfc.specs.format.Extension.{is_known}
use Rattle.sfc.proofs.format.extension.is_known.Goals as goal

pub returns : goal.returns
unfolding is_known
returns c = refl
