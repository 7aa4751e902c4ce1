-- Sums of shares: what the first data blocks bring to a recovery word, and how long the blocks are. Assumes nothing.
use mathlib.Core.Path.{◌≡◌, refl, sym, ◌∙◌, ap, ap₂}
use mathlib.Core.Bool.{cond}
use mathlib.Core.List.{List, ◌++◌}
use Prim.Native.Nat.{ℕ, zero, suc, ◌+◌, ◌-◌, ◌*◌, ◌/◌, ◌%◌, ◌<◌, suc-le-suc}
use native.Mathlib.Omega.{arith}
use native.Mathlib.Decide.{dec_lt}
use borrow.Author.Tests.{lt-ltb, le-ltb}
use lib.Dec.{ltb}
use lib.ListN.{length, take, drop}
use lib.Bits.{bit_xor, xor_comm}
use Rattle.gf16.specs.Field.{mul, inv}
use Rattle.gf16.proofs.Laws.{laws}
use Rattle.cauchy.proofs.blocks.BlockLaws.{length-word_bytes, word_block, length-block}
use Rattle.cauchy.specs.Code.{field_sum, share, word_at, recovery_word, recovery_block, code_block}
use Rattle.little.specs.Parts.{part, block}
use Rattle.little.proofs.Laws.{part_laws, block_laws}

-- word w of the sum of the shares of the first j data blocks
abbrev pub first_shares : ℕ → ℕ → ℕ → List ℕ → ℕ → ℕ → ℕ
first_shares m s k store j w = field_sum (λ i. share m s store k w i) 0 j

pub sum_ext : (f g : ℕ → ℕ) (c n : ℕ) → ((i : ℕ) → i < n → f (c + i) ≡ g (c + i)) → field_sum f c n ≡ field_sum g c n
unfolding field_sum
sum_ext f g c zero h = refl
sum_ext f g c (suc n) h =
    let e₀ : c + 0 ≡ c = omega arith in
    ap₂ bit_xor (rw e₀ at (h 0 (omega arith))) (sum_ext f g (suc c) n (λ i m. let e₁ : suc c + i ≡ c + suc i = omega arith in rw e₁ (h (suc i) (suc-le-suc m))))

-- a sum of nothing
pub sum_none : (f : ℕ → ℕ) (c n : ℕ) → ((i : ℕ) → i < n → f (c + i) ≡ 0) → field_sum f c n ≡ 0
unfolding field_sum
sum_none f c zero h = refl
sum_none f c (suc n) h =
    let e : c + 0 ≡ c = omega arith in
    ap₂ bit_xor (rw e at (h 0 (omega arith))) (sum_none f (suc c) n (λ i m. let e₁ : suc c + i ≡ c + suc i = omega arith in rw e₁ (h (suc i) (suc-le-suc m))))

-- one share more, at the end
pub sum_more : (f : ℕ → ℕ) (c j : ℕ) → field_sum f c (suc j) ≡ bit_xor (field_sum f c j) (f (c + j))
unfolding field_sum
sum_more f c zero = let e : c ≡ c + 0 = omega arith in xor_comm (f c) 0 ∙ ap (λ (x : ℕ). bit_xor 0 (f x)) e
sum_more f c (suc j) =
    let e : suc c + j ≡ c + suc j = omega arith in
    ap (bit_xor (f c)) (sum_more f (suc c) j)
    ∙ sym (laws.add_assoc (f c) (field_sum f (suc c) j) (f (suc c + j)))
    ∙ ap (λ (x : ℕ). bit_xor (bit_xor (f c) (field_sum f (suc c) j)) (f x)) e

pub length_recovery : (n m s : ℕ) (blocks : List ℕ) (k : ℕ) → s % 2 ≡ 0 → length (recovery_block n m s blocks k) ≡ s
unfolding recovery_block
length_recovery n m s blocks k even = length-word_bytes (λ w. recovery_word n m s blocks k w) 0 (s / 2) ∙ omega arith

pub length_code : (n m s : ℕ) (blocks : List ℕ) (i : ℕ) → s % 2 ≡ 0 → length blocks ≡ n * s → length (code_block n m s blocks i) ≡ s
unfolding code_block
length_code n m s blocks i even l = go (dec_lt i n)
  where
    go : Dec (i < n) → length (cond (ltb i n) (block s blocks i) (recovery_block n m s blocks (i - n))) ≡ s
    go (yes h) = rw (lt-ltb i n h) (length-block n s blocks i l h)
    go (no h) = rw (le-ltb i n (omega arith)) (length_recovery n m s blocks (i - n) even)

pub length_part : (n s j width : ℕ) (store : List ℕ) → length store ≡ n * s → j < n → width ≡ s → length (take width (drop (j * s) store)) ≡ s
length_part n s j width store l h e = ap (λ (x : ℕ). length (take x (drop (j * s) store))) e ∙ length-block n s store j l h

-- ---- the last block apart from those before it

-- what the first blocks bring, alone and with the last one after them
pub front_shares : (c m s k : ℕ) (front last : List ℕ) (w : ℕ) → s % 2 ≡ 0 → length front ≡ c * s → w < s / 2
    → first_shares m s k front c w ≡ first_shares m s k (front ++ last) c w
front_shares c m s k front last w even l hw =
    let e : s ≡ 2 * (s / 2) = omega arith in
    sum_ext (λ j. share m s front k w j) (λ j. share m s (front ++ last) k w j) 0 c
    (λ j hj.
    let z : 0 + j ≡ j = omega arith in
    rw z (ap (mul (inv (bit_xor k (m + j))))
    (sym (word_block s (s / 2) front j w e hw)
    ∙ ap (λ (x : List ℕ). word_at x (2 * w)) (sym (part_laws.part-append-left front last (j * s) s (omega (arith, block_laws.block_inside s c j hj))))
    ∙ word_block s (s / 2) (front ++ last) j w e hw)))

pub last_part : (c s : ℕ) (front last : List ℕ) → length front ≡ c * s → length last ≡ s → part (front ++ last) (c * s) s ≡ last
last_part c s front last lf ll =
    let e : c * s ≡ length front + 0 = omega arith in
    ap (λ (x : ℕ). part (front ++ last) x s) e ∙ part_laws.part-append_right front last 0 s ∙ ap (part last 0) (sym ll) ∙ part_laws.part-whole last
