-- `blake3::block::bytes_of` meets its contract. Assumes nothing.
use Rattle.std.proofs.Common.{◌≡◌, ℕ, List, length, refl, ◌∙◌, ap, arith, rules}
use Rattle.blake3.specs.Compress.{bytes_of_words}
use Rattle.blake3.proofs.CompressLaws.{word_stored, long_still, words_all}
use Rattle.blake3.proofs.block.bytes_of.Goals as goal

pub loop-k-init : goal.loop-k-init
unfolding bytes_of_words
loop-k-init c = record { long = refl; stored = refl }

pub loop-k-preserved : goal.loop-k-preserved
loop-k-preserved c =
    let l = c.loop-k in
    let n : length c.args.v ≡ 8 = search rules in
    let e = c.copy_from_slice.ensures.after ∙ c.to_le_bytes.ensures in
    record {
      long = long_still l.k l.out c.copy_from_slice.new.self (omega arith) (ap (λ (ys : List ℕ). length ys) e) ∙ l.invariant.long;
      stored = word_stored l.k c.args.v l.out c.copy_from_slice.new.self (omega arith) (omega arith) e l.invariant.stored;
    }

pub returns : goal.returns
returns c =
    let l = c.loop-k in
    words_all l.k c.args.v l.out c.loop-k-test.false (search rules) l.invariant.long l.invariant.stored
