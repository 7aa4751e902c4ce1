-- `blake3::tree::piece` meets its contract. Assumes nothing.
use Rattle.std.proofs.Common.{◌≡◌}
use Rattle.blake3.specs.Tree.{chain}
use Rattle.blake3.proofs.tree.piece.Given as goal

abbrev pub invariant-loop-k : goal.invariant-loop-k
invariant-loop-k l = l.cv ≡ chain l.i l.k l.s
