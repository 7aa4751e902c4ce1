-- `blake3::hash` meets its contract. Assumes nothing.
use Rattle.std.proofs.Common.{ap, ◌∙◌}
use Rattle.blake3.specs.Compress.{bytes_of_words}
use Rattle.blake3.specs.Tree.{hash}
use Rattle.blake3.proofs.hash.Goals as goal

pub returns : goal.returns
unfolding hash
returns c = c.bytes_of.ensures ∙ ap bytes_of_words c.tree.ensures
