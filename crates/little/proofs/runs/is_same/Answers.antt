-- `little::runs::is_same` meets its contract: the library compares byte by byte. Assumes nothing.
use Rattle.std.proofs.Common.{◌∙◌}
use Rattle.little.proofs.RunLaws.{same_pointwise}
use Rattle.little.proofs.runs.is_same.Goals as goal

pub returns : goal.returns
returns c = c.eq.ensures ∙ same_pointwise c.args.a.now c.args.b.now
