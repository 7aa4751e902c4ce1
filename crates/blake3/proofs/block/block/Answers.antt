-- `blake3::block::block` meets its contract. Assumes nothing.
use Rattle.std.proofs.Common.{◌∙◌}
use Rattle.blake3.proofs.CompressLaws.{block_front}
use Rattle.blake3.proofs.block.block.Goals as goal

pub returns-in-Some : goal.returns-in-Some
returns-in-Some c = rw c.in-Some.ensures.cases.same at c.whole_block.ensures ∙ block_front c.args.b.now

pub returns-in-None : goal.returns-in-None
returns-in-None c = c.short_block.ensures
