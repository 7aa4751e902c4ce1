-- `blake3::tree::tree` meets its contract: each part is shorter than the text. Assumes nothing.
use Rattle.std.proofs.Common.{length}
use Rattle.blake3.proofs.tree.+tree.Given as goal

abbrev pub decreases-tree : goal.decreases-tree
decreases-tree l = length l.s.now
