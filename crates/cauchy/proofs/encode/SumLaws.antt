-- Four rows of sums over blocks: a block comes in. Assumes nothing.
use mathlib.Core.Path.{◌≡◌, sym, ap, ◌∙◌}
use mathlib.Core.List.{List}
use Prim.Native.Nat.{ℕ, zero, suc, ◌+◌, ◌*◌, ◌/◌, ◌%◌, ◌≤◌, ◌<◌, suc-le-suc}
use native.Mathlib.Omega.{arith}
use native.Mathlib.Numerals.{add-one}
use lib.ListN.{length, get_or, take, drop, replicate, get_or-replicate, length-replicate}
use lib.Bits.{bit_xor, xor_lt}
use Rattle.gf16.specs.Field.{mul}
use Rattle.little.specs.Parts.{block}
use Rattle.cauchy.specs.Code.{word_at, share, field_sum, recovery_word}
use Rattle.cauchy.proofs.blocks.BlockLaws.{word_block}
use Rattle.cauchy.proofs.blocks.CodeLaws.{first_shares, sum_more}
use Rattle.cauchy.specs.inner.Packed.{pack, Added, Sums, weight_of}
use Rattle.cauchy.proofs.tables.PackLaws.{pack-same, pack-xor}
use Rattle.cauchy.proofs.tables.TableLaws.{zero-pack}
use Rattle.gf16.proofs.Laws.{laws}

pub sum_lt : (f : ℕ → ℕ) (c n : ℕ) → ((i : ℕ) → i < n → f (c + i) < 65536) → field_sum f c n < 65536
unfolding field_sum
sum_lt f c zero h = omega arith
sum_lt f c (suc n) h =
    let e : c + 0 ≡ c = omega arith in
    xor_lt 16 (f c) (field_sum f (suc c) n) (rw e at (h 0 (omega arith)))
    (sum_lt f (suc c) n (λ i m. let e₁ : suc c + i ≡ c + suc i = omega arith in rw e₁ (h (suc i) (suc-le-suc m))))

pub weight_lt : (k m j : ℕ) → k < 65536 → m + j < 65536 → weight_of k m j < 65536
weight_lt k m j hk hm = laws.inv-closed (bit_xor k (m + j)) (xor_lt 16 k (m + j) hk hm)

pub shares_lt : (m s k : ℕ) (store : List ℕ) (j w : ℕ) → k < 65536 → m + j ≤ 65536 → first_shares m s k store j w < 65536
shares_lt m s k store j w hk hm =
    sum_lt (λ i. share m s store k w i) 0 j
    (λ i h. let e : 0 + i ≡ i = omega arith in rw e (laws.mul_below (weight_of k m i) (word_at store (i * s + 2 * w)) (weight_lt k m i hk (omega arith))))

pub share-turn : (m s k : ℕ) (store : List ℕ) (j w : ℕ) → s % 2 ≡ 0 → w < s / 2
    → bit_xor (first_shares m s k store j w) (mul (weight_of k m j) (word_at (block s store j) (2 * w))) ≡ first_shares m s k store (j + 1) w
share-turn m s k store j w hs h =
    let e : s ≡ 2 * (s / 2) = omega arith in
    ap (λ (x : ℕ). bit_xor (first_shares m s k store j w) (mul (weight_of k m j) x)) (word_block s (s / 2) store j w e h)
    ∙ sym (ap (λ (x : ℕ). first_shares m s k store x w) (add-one j) ∙ sum_more (λ i. share m s store k w i) 0 j
    ∙ ap (λ (x : ℕ). bit_xor (first_shares m s k store j w) (share m s store k w x)) (omega arith))

-- ---- four rows

pub sums-turn : (g g' : ℕ → ℕ → ℕ) (c : ℕ → ℕ) (k W : ℕ) (src acc acc' : List ℕ)
    → ((r : ℕ) → r < k + 4 → c r < 65536) → ((r w : ℕ) → r < k + 4 → g r w < 65536)
    → ((r w : ℕ) → w < W → bit_xor (g r w) (mul (c r) (word_at src (2 * w))) ≡ g' r w)
    → Sums g k W acc → Added (c k) (c (k + 1)) (c (k + 2)) (c (k + 3)) src acc acc' → Sums g' k W acc'
sums-turn g g' c k W src acc acc' hc hg turn old new =
    record {
      size = new.size ∙ old.size;
      made = λ w h.
          new.made w (omega (arith, old.size))
          ∙ ap (λ (x : ℕ). bit_xor x (pack (p k w) (p (k + 1) w) (p (k + 2) w) (p (k + 3) w))) (old.made w h)
          ∙ pack-xor (g k w) (g (k + 1) w) (g (k + 2) w) (g (k + 3) w) (p k w) (p (k + 1) w) (p (k + 2) w) (p (k + 3) w)
          (hg k w (omega arith)) (hg (k + 1) w (omega arith)) (hg (k + 2) w (omega arith)) (small k w (omega arith)) (small (k + 1) w (omega arith)) (small (k + 2) w (omega arith))
          ∙ pack-same (turn k w h) (turn (k + 1) w h) (turn (k + 2) w h) (turn (k + 3) w h);
    }
  where
    p : ℕ → ℕ → ℕ
    p r w = mul (c r) (word_at src (2 * w))

    small : (r w : ℕ) → r < k + 4 → p r w < 65536
    small r w h = laws.mul_below (c r) (word_at src (2 * w)) (hc r h)

-- ---- the turns of the encoder

pub four_start : (m s k W : ℕ) (store acc : List ℕ) (n : ℕ) → n ≡ W → acc ≡ replicate n 0 → Sums (λ r w. first_shares m s r store 0 w) k W acc
unfolding field_sum
four_start m s k W store acc n en e =
    record {
      size = ap length e ∙ length-replicate n 0 ∙ en;
      made = λ w h. ap (λ (l : List ℕ). get_or l w 0) e ∙ get_or-replicate n w 0 0 (omega arith) ∙ sym zero-pack;
    }

pub four-turn : (m s k j width : ℕ) (store acc acc' : List ℕ) → k + 4 ≤ 65536 → m + j < 65536 → s % 2 ≡ 0 → width ≡ s
    → Sums (λ r w. first_shares m s r store j w) k (s / 2) acc
    → Added (weight_of k m j) (weight_of (k + 1) m j) (weight_of (k + 2) m j) (weight_of (k + 3) m j) (take width (drop (j * s) store)) acc acc'
    → Sums (λ r w. first_shares m s r store (j + 1) w) k (s / 2) acc'
four-turn m s k j width store acc acc' hk hm hs ew old new =
    sums-turn (λ r w. first_shares m s r store j w) (λ r w. first_shares m s r store (j + 1) w) (λ r. weight_of r m j) k (s / 2) (block s store j) acc acc'
    (λ r h. weight_lt r m j (omega arith) hm) (λ r w h. shares_lt m s r store j w (omega arith) (omega arith)) (λ r w h. share-turn m s r store j w hs h)
    old (rw ew at new)

pub four-end : (n m s k j : ℕ) (store acc : List ℕ) → j ≡ n → Sums (λ r w. first_shares m s r store j w) k (s / 2) acc → Sums (λ r w. recovery_word n m s store r w) k (s / 2) acc
unfolding recovery_word
four-end n m s k j store acc e h = rw e at h
