-- `blake3::compress::fold` meets its contract: each word, by the call that made it. Assumes nothing.
use Rattle.std.proofs.Common.{◌≡◌, sym, ◌∙◌, slice_index_or, rules}
use lib.Bits.{bit_xor}
use Rattle.blake3.specs.Compress.{at, folded}
use Rattle.blake3.proofs.CompressLaws.{all_eight}
use Rattle.blake3.proofs.compress.fold.Goals as goal

pub returns : goal.returns
unfolding folded
returns c =
    let e0 : slice_index_or c.from_fn.result 0 0 ≡ bit_xor (at c.args.v 0) (at c.args.v 8) = search rules in
    let e1 : slice_index_or c.from_fn.result 1 0 ≡ bit_xor (at c.args.v 1) (at c.args.v 9) = search rules in
    let e2 : slice_index_or c.from_fn.result 2 0 ≡ bit_xor (at c.args.v 2) (at c.args.v 10) = search rules in
    let e3 : slice_index_or c.from_fn.result 3 0 ≡ bit_xor (at c.args.v 3) (at c.args.v 11) = search rules in
    let e4 : slice_index_or c.from_fn.result 4 0 ≡ bit_xor (at c.args.v 4) (at c.args.v 12) = search rules in
    let e5 : slice_index_or c.from_fn.result 5 0 ≡ bit_xor (at c.args.v 5) (at c.args.v 13) = search rules in
    let e6 : slice_index_or c.from_fn.result 6 0 ≡ bit_xor (at c.args.v 6) (at c.args.v 14) = search rules in
    let e7 : slice_index_or c.from_fn.result 7 0 ≡ bit_xor (at c.args.v 7) (at c.args.v 15) = search rules in
    sym (all_eight c.from_fn.result c.from_fn.ensures.items.long) ∙ rw (e0, e1, e2, e3, e4, e5, e6, e7)
