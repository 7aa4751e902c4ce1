-- `blake3::block::word` meets its contract. Assumes nothing.
use Rattle.blake3.proofs.CompressLaws.{word-made}
use Rattle.blake3.proofs.block.word.Goals as goal

pub returns : goal.returns
returns c = word-made c.args.b.now c.args.j c.from_le_bytes.ensures
