-- The rows come out of their sums: a row of the packed words is a recovery block. Assumes nothing.
use mathlib.Core.Path.{◌≡◌, sym, ap, ap₂, ◌∙◌}
use mathlib.Core.List.{List, ◌++◌}
use Prim.Native.Nat.{ℕ, zero, suc, ◌+◌, ◌-◌, ◌*◌, ◌/◌, ◌%◌, ◌≤◌, ◌<◌}
use native.Mathlib.Omega.{arith}
use lib.ListN.{length, get_or}
use lib.Bits.{bit_xor}
use Rattle.gf16.specs.Field.{mul}
use Rattle.cauchy.proofs.blocks.CodeLaws.{first_shares, front_shares, last_part}
use Rattle.cauchy.proofs.encode.SumLaws.{shares_lt, weight_lt, share-turn, sums-turn}
use Rattle.cauchy.specs.Code.{word_at, word_bytes, joined, recovery_word, recovery_block}
use Rattle.cauchy.proofs.blocks.BlockLaws.{length-word_bytes, word_bytes_ext, joined_ext}
use Rattle.cauchy.specs.inner.Packed.{pack, Parts, Added, Sums, weight_of, unit_of, row_bytes}
use Rattle.cauchy.proofs.tables.PackLaws.{out_0, out_1, out_2, out_3}

pub row_at : (r n u : ℕ) (acc out : List ℕ) → r ≡ n → unit_of n ≡ u → out ≡ word_bytes (λ w. get_or acc w 0 / u % 65536) 0 (length acc) → out ≡ row_bytes r acc
unfolding row_bytes
row_at r n u acc out e f h = h ∙ ap (λ (x : ℕ). word_bytes (λ w. get_or acc w 0 / x % 65536) 0 (length acc)) (sym (ap unit_of e ∙ f))

pub length-row : (r : ℕ) (acc : List ℕ) → length (row_bytes r acc) ≡ 2 * length acc
unfolding row_bytes
length-row r acc = length-word_bytes (λ w. get_or acc w 0 / unit_of r % 65536) 0 (length acc)

-- word r of four
pub word_out : (g : ℕ → ℕ) (k r : ℕ) → r < 4 → ((i : ℕ) → i < k + 4 → g i < 65536) → pack (g k) (g (k + 1)) (g (k + 2)) (g (k + 3)) / unit_of r % 65536 ≡ g (k + r)
word_out g k zero h small =
    let e : k + 0 ≡ k = omega arith in
    rw e (ap (λ (x : ℕ). x % 65536) (omega arith) ∙ out_0 (g k) (g (k + 1)) (g (k + 2)) (g (k + 3)) (small k (omega arith)))
word_out g k (suc zero) h small = out_1 (g k) (g (k + 1)) (g (k + 2)) (g (k + 3)) (small k (omega arith)) (small (k + 1) (omega arith))
word_out g k (suc (suc zero)) h small = out_2 (g k) (g (k + 1)) (g (k + 2)) (g (k + 3)) (small k (omega arith)) (small (k + 1) (omega arith)) (small (k + 2) (omega arith))
word_out g k (suc (suc (suc zero))) h small =
    ap (λ (x : ℕ). x % 65536) (out_3 (g k) (g (k + 1)) (g (k + 2)) (g (k + 3)) (small k (omega arith)) (small (k + 1) (omega arith)) (small (k + 2) (omega arith)) (small (k + 3) (omega arith)))
    ∙ low (g (k + 3)) (small (k + 3) (omega arith))
  where
    low : (x : ℕ) → x < 65536 → x % 65536 ≡ x
    low x h = omega arith
word_out g k (suc (suc (suc (suc r)))) h small = absurd (omega arith)

row_out : (g : ℕ → ℕ → ℕ) (k W r : ℕ) (acc : List ℕ) → r < 4 → ((i w : ℕ) → i < k + 4 → g i w < 65536) → Sums g k W acc → row_bytes r acc ≡ word_bytes (g (k + r)) 0 W
unfolding row_bytes
row_out g k W r acc h small sums =
    ap (word_bytes (λ w. get_or acc w 0 / unit_of r % 65536) 0) sums.size
    ∙ word_bytes_ext (λ w. get_or acc w 0 / unit_of r % 65536) (g (k + r)) W
    (λ w m. ap (λ (x : ℕ). x / unit_of r % 65536) (sums.made w m) ∙ word_out (λ i. g i w) k r h (λ i q. small i w q))

words-lt : (n m s k : ℕ) (blocks : List ℕ) (w : ℕ) → k < 65536 → m + n ≤ 65536 → recovery_word n m s blocks k w < 65536
unfolding recovery_word
words-lt n m s k blocks w hk hm = shares_lt m s k blocks n w hk hm

-- the last block comes into the sums of those before it
pub parts_last : (n m s k : ℕ) (front last acc acc' : List ℕ) → Parts n m s k front last
    → Sums (λ r w. recovery_word (n - 1) m s front r w) k (s / 2) acc
    → Added (weight_of k m (n - 1)) (weight_of (k + 1) m (n - 1)) (weight_of (k + 2) m (n - 1)) (weight_of (k + 3) m (n - 1)) last acc acc'
    → Sums (λ r w. recovery_word n m s (front ++ last) r w) k (s / 2) acc'
unfolding recovery_word
parts_last n m s k front last acc acc' p old new =
    sums-turn (λ r w. first_shares m s r front (n - 1) w) (λ r w. first_shares m s r (front ++ last) n w) (λ r. weight_of r m (n - 1)) k (s / 2) last acc acc'
    (λ r h. weight_lt r m (n - 1) (omega (arith, p)) (omega (arith, p))) (λ r w h. shares_lt m s r front (n - 1) w (omega (arith, p)) (omega (arith, p)))
    (λ r w h.
    let e : n - 1 + 1 ≡ n = omega (arith, p.n_least) in
    ap₂ (λ (x : ℕ) (l : List ℕ). bit_xor x (mul (weight_of r m (n - 1)) (word_at l (2 * w)))) (front_shares (n - 1) m s r front last w p.even p.front_long h) (sym (last_part (n - 1) s front last p.front_long p.last_long))
    ∙ share-turn m s r (front ++ last) (n - 1) w p.even h ∙ ap (λ (x : ℕ). first_shares m s r (front ++ last) x w) e)
    old new

-- as many of the four rows as are wanted
pub rows_out : (n m s k count : ℕ) (blocks acc out : List ℕ) → count ≤ 4 → k + 4 ≤ 65536 → m + n ≤ 65536 → Sums (λ r w. recovery_word n m s blocks r w) k (s / 2) acc
    → out ≡ joined (λ r. row_bytes r acc) 0 count → out ≡ joined (λ r. recovery_block n m s blocks (k + r)) 0 count
unfolding recovery_block
rows_out n m s k count blocks acc out hc hk hm sums e =
    e ∙ joined_ext (λ r. row_bytes r acc) _ count (λ r h. row_out (λ r w. recovery_word n m s blocks r w) k (s / 2) r acc (omega arith) (λ i w q. words-lt n m s i blocks w (omega arith) hm) sums)
