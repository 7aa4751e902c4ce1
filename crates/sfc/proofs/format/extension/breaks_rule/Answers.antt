-- `sfc::format::extension::breaks_rule` computes its definition. Assumes nothing.
use mathlib.Core.Path.{refl}
use Rattle.sfc.specs.format.Extension.{rule_broken}
use Rattle.sfc.proofs.format.extension.breaks_rule.Goals as goal

pub returns : goal.returns
unfolding rule_broken
returns c = refl
