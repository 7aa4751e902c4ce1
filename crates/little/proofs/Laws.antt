-- The laws that the crates above cite, as the records of specs/Laws.antt state them, and no others. Assumes nothing.
use Prim.Native.Nat.{ℕ}
use Rattle.little.specs.Laws.{TestLaws, PartLaws, PutLaws, BlockLaws, SameLaws, SaidLaws, LittleLaws, ByteLaws}
use Rattle.little.proofs.TestLaws.{or-false, and_both, ltb_suc}
use Rattle.little.proofs.PartLaws.{below_or, length_part, get_or-part, part-rest, part-whole, part-append-left, part-append_right, part-part, drop_down, lent, put_none, length-put, put-before, put_inside, put-after, part-put, part-put_apart, put_same, put-put, put_swap, block_inside, blocks_apart, length-block, length-put_block, block-put, block-put-other}
use Rattle.little.proofs.ListLaws.{length_cut, cut_long, drop-zeros, next, piece, byte_after, put_next, drop-set, copied, copied_in, copied_front}
use Rattle.little.proofs.RunLaws.{either_least, same_refl, same-eq, same_differ, same_apart}
use Rattle.little.proofs.SaidLaws.{told_apart}
use Rattle.little.proofs.FieldLaws.{laws, bytes_append, bytes_part, bytes_put, le_same, le-part, le-drop, put-fits}

pub test_laws : TestLaws
test_laws = record {
  or-false = or-false;
  and_both = and_both;
  ltb_suc = ltb_suc;
  below_or = below_or;
  either_least = either_least;
}

pub part_laws : PartLaws
part_laws = record {
  length_part = length_part;
  length_cut = length_cut;
  cut_long = cut_long;
  get_or-part = get_or-part;
  part-rest = part-rest;
  part-whole = part-whole;
  part-append-left = part-append-left;
  part-append_right = part-append_right;
  part-part = part-part;
  drop_down = drop_down;
  drop-zeros = drop-zeros;
  next = next;
  piece = piece;
  byte_after = byte_after;
}

pub put_laws : PutLaws
put_laws = record {
  lent = lent;
  put_none = put_none;
  length-put = length-put;
  put-before = put-before;
  put_inside = put_inside;
  put-after = put-after;
  part-put = part-put;
  part-put_apart = part-put_apart;
  put_same = put_same;
  put-put = put-put;
  put_swap = put_swap;
  put_next = put_next;
  drop-set = drop-set;
  copied = copied;
  copied_in = copied_in;
  copied_front = copied_front;
}

pub block_laws : BlockLaws
block_laws = record {
  block_inside = block_inside;
  blocks_apart = blocks_apart;
  length-block = length-block;
  length-put_block = length-put_block;
  block-put = block-put;
  block-put-other = block-put-other;
}

pub same_laws : SameLaws
same_laws = record {
  same_refl = same_refl;
  same-eq = same-eq;
  same_differ = same_differ;
  same_apart = same_apart;
}

pub said_laws : SaidLaws
said_laws = record { told_apart = λ said back b v w e. told_apart said back b v w e }

pub little_laws : (width : ℕ) → LittleLaws width
little_laws = laws

pub byte_laws : ByteLaws
byte_laws = record {
  bytes_append = bytes_append;
  bytes_part = bytes_part;
  bytes_put = bytes_put;
  le_same = le_same;
  le-part = le-part;
  le-drop = le-drop;
  put-fits = put-fits;
}
