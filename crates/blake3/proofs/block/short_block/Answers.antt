-- `blake3::block::short_block` meets its contract. Assumes nothing.
use Rattle.std.proofs.Common.{ℕ, ◌*◌, sym, ◌∙◌, arith}
use Rattle.little.specs.Fields.{le}
use Rattle.blake3.proofs.CompressLaws.{all_sixteen, block_made, one_more}
use Rattle.blake3.proofs.block.short_block.Goals as goal

pub loop-k-preserved : goal.loop-k-preserved
loop-k-preserved c =
    let l = c.loop-k in
    let m = one_more l.words (λ (i : ℕ). le c.args.b.now (4 * i) 4) 16 l.k l.invariant.long (omega arith) l.invariant.read c.read32.ensures in
    record { long = m.0; read = m.1 }

pub returns : goal.returns
returns c =
    let l = c.loop-k in
    let r = l.invariant.read in
    sym (all_sixteen l.words l.invariant.long)
    ∙ block_made c.args.b.now (r 0 (omega arith)) (r 1 (omega arith)) (r 2 (omega arith)) (r 3 (omega arith)) (r 4 (omega arith)) (r 5 (omega arith)) (r 6 (omega arith)) (r 7 (omega arith)) (r 8 (omega arith)) (r 9 (omega arith)) (r 10 (omega arith)) (r 11 (omega arith)) (r 12 (omega arith)) (r 13 (omega arith)) (r 14 (omega arith)) (r 15 (omega arith))
