-- `blake3::tree::tree` meets its contract. Assumes nothing.
use Rattle.std.proofs.Common.{◌<◌, length, ◌∙◌, arith}
use Rattle.blake3.specs.Tree.{flag_of}
use Rattle.blake3.proofs.Splits.{tree-whole, tree_split}
use Rattle.blake3.proofs.tree.+tree.Goals as goal

pub returns-then-s-le-PIECE_LENGTH : goal.returns-then-s-le-PIECE_LENGTH
returns-then-s-le-PIECE_LENGTH t c = let a = c.args in c.piece.ensures ∙ tree-whole (length a.s.now) a.i (flag_of a.extent) a.s.now c.if-s-le-PIECE_LENGTH.true

pub returns : goal.returns
returns t c =
    let a = c.args in
    let p = c.left_pieces-pieces.result in
    let lt : 1024 < length a.s.now = omega arith in
    let l = rw c.split_at.ensures.front at c.tree-l.ensures in
    let r = rw c.split_at.ensures.back at c.tree-r.ensures in
    tree_split (length a.s.now) a.i (flag_of a.extent) p a.s.now lt (omega arith) c.left_pieces-pieces.ensures.count l r c.parent.ensures
