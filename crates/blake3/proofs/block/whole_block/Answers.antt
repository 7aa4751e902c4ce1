-- `blake3::block::whole_block` meets its contract: each word, by the call that made it. Assumes nothing.
use Rattle.std.proofs.Common.{◌≡◌, sym, ◌∙◌, slice_index_or, rules}
use Rattle.little.specs.Fields.{le}
use Rattle.blake3.proofs.CompressLaws.{all_sixteen, block_made}
use Rattle.blake3.proofs.block.whole_block.Goals as goal

pub returns : goal.returns
returns c =
    let e0 : slice_index_or c.from_fn.result 0 0 ≡ le c.args.b.now 0 4 = search rules in
    let e1 : slice_index_or c.from_fn.result 1 0 ≡ le c.args.b.now 4 4 = search rules in
    let e2 : slice_index_or c.from_fn.result 2 0 ≡ le c.args.b.now 8 4 = search rules in
    let e3 : slice_index_or c.from_fn.result 3 0 ≡ le c.args.b.now 12 4 = search rules in
    let e4 : slice_index_or c.from_fn.result 4 0 ≡ le c.args.b.now 16 4 = search rules in
    let e5 : slice_index_or c.from_fn.result 5 0 ≡ le c.args.b.now 20 4 = search rules in
    let e6 : slice_index_or c.from_fn.result 6 0 ≡ le c.args.b.now 24 4 = search rules in
    let e7 : slice_index_or c.from_fn.result 7 0 ≡ le c.args.b.now 28 4 = search rules in
    let e8 : slice_index_or c.from_fn.result 8 0 ≡ le c.args.b.now 32 4 = search rules in
    let e9 : slice_index_or c.from_fn.result 9 0 ≡ le c.args.b.now 36 4 = search rules in
    let e10 : slice_index_or c.from_fn.result 10 0 ≡ le c.args.b.now 40 4 = search rules in
    let e11 : slice_index_or c.from_fn.result 11 0 ≡ le c.args.b.now 44 4 = search rules in
    let e12 : slice_index_or c.from_fn.result 12 0 ≡ le c.args.b.now 48 4 = search rules in
    let e13 : slice_index_or c.from_fn.result 13 0 ≡ le c.args.b.now 52 4 = search rules in
    let e14 : slice_index_or c.from_fn.result 14 0 ≡ le c.args.b.now 56 4 = search rules in
    let e15 : slice_index_or c.from_fn.result 15 0 ≡ le c.args.b.now 60 4 = search rules in
    sym (all_sixteen c.from_fn.result c.from_fn.ensures.items.long) ∙ block_made c.args.b.now e0 e1 e2 e3 e4 e5 e6 e7 e8 e9 e10 e11 e12 e13 e14 e15
