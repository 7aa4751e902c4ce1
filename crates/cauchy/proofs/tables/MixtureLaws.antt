-- Loops over the words of a block that write what two tables have for them: rows 0 and 1 of the tables are the products with two
-- numbers. Assumes nothing.
use mathlib.Core.Path.{◌≡◌, ap, ap₂, ◌∙◌}
use mathlib.Core.List.{List}
use Prim.Native.Nat.{ℕ, ◌+◌, ◌*◌, ◌/◌, ◌%◌, ◌<◌}
use native.Mathlib.Omega.{arith}
use lib.ListN.{length, get_or}
use lib.Bits.{bit_xor, xor_lt}
use Rattle.gf16.specs.Field.{Elem, mul}
use Rattle.cauchy.specs.Code.{word_at, word_bytes}
use Rattle.cauchy.proofs.blocks.BlockLaws.{word_bytes_ext}
use Rattle.cauchy.proofs.blocks.MixLaws.{mixed, mixed_read}
use Rattle.cauchy.proofs.blocks.WordBytes.{word_is}
use Rattle.cauchy.specs.inner.Packed.{products, Tables, looked, mixed_word, times_word, plus_times}
use Rattle.cauchy.proofs.tables.PackLaws.{out_0, out_1}
use Rattle.cauchy.proofs.tables.WordLaws.{looked-products}
use Rattle.gf16.proofs.Laws.{laws}

-- ---- what the loops write

abbrev pub zero_row : List ℕ → List ℕ → List ℕ → ℕ → ℕ
zero_row low high dst w = looked low high dst w % 65536

abbrev pub one_row : List ℕ → List ℕ → List ℕ → ℕ → ℕ
one_row low high dst w = looked low high dst w / 65536 % 65536

-- the two rows of two blocks in one; and row 1 added to a block
abbrev pub picked : List ℕ → List ℕ → List ℕ → List ℕ → ℕ → ℕ
picked low high dst src w = bit_xor (zero_row low high dst w) (one_row low high src w)

abbrev pub plus_row : List ℕ → List ℕ → List ℕ → List ℕ → ℕ → ℕ
plus_row low high one dst w = bit_xor (word_at one (2 * w)) (one_row low high dst w)

pub picked-lt : (x y : ℕ) → bit_xor (x % 65536) (y / 65536 % 65536) < 65536
picked-lt x y = xor_lt 16 (x % 65536) (y / 65536 % 65536) (omega arith) (omega arith)

-- ---- a word that a loop reads is as it was

module _ (f : ℕ → ℕ) (l d : List ℕ) (w : ℕ) (e : d ≡ mixed f w l) (m : 2 * w + 1 < length l) where
  low_kept : get_or d (2 * w) 0 ≡ get_or l (2 * w) 0
  low_kept = let z : 2 * w + 0 ≡ 2 * w = omega arith in rw z at (mixed_read f w l d 0 e (omega arith) m)

  high_kept : get_or d (2 * w + 1) 0 ≡ get_or l (2 * w + 1) 0
  high_kept = mixed_read f w l d 1 e (omega arith) m

  pub looked-kept : (low high : List ℕ) (p : ℕ) → p ≡ bit_xor (get_or low (get_or d (2 * w) 0) 0) (get_or high (get_or d (2 * w + 1) 0) 0) → p ≡ looked low high l w
  looked-kept low high p ep = ep ∙ ap₂ (λ (x y : ℕ). bit_xor (get_or low x 0) (get_or high y 0)) low_kept high_kept

  pub word_kept : (r : ℕ) → r ≡ get_or d (2 * w) 0 + 256 * get_or d (2 * w + 1) 0 → r ≡ word_at l (2 * w)
  word_kept r er = rw (word_is l (2 * w)) (er ∙ ap₂ (λ (x y : ℕ). x + 256 * y) low_kept high_kept)

-- ---- the rows are products

module _ (low high : List ℕ) (c d : ℕ) (hc : Elem c) (hd : Elem d) (t : Tables c d 0 0 low high) where
  two-looked : (l : List ℕ) → ((p : ℕ) → get_or l p 0 < 256) → (w : ℕ) → looked low high l w ≡ products c d 0 0 (word_at l (2 * w))
  two-looked l small w = looked-products c d 0 0 w low high l hc hd (omega arith) (omega arith) t.0 t.1 (small (2 * w)) (small (2 * w + 1))

  module _ (l : List ℕ) (small : (p : ℕ) → get_or l p 0 < 256) where
    row_zero : (w : ℕ) → zero_row low high l w ≡ times_word c l w
    row_zero w =
        ap (λ (x : ℕ). x % 65536) (two-looked l small w)
        ∙ out_0 (mul c (word_at l (2 * w))) (mul d (word_at l (2 * w))) (mul 0 (word_at l (2 * w))) (mul 0 (word_at l (2 * w))) (laws.mul_below c (word_at l (2 * w)) hc)

    row_one : (w : ℕ) → one_row low high l w ≡ times_word d l w
    row_one w =
        ap (λ (x : ℕ). x / 65536 % 65536) (two-looked l small w)
        ∙ out_1 (mul c (word_at l (2 * w))) (mul d (word_at l (2 * w))) (mul 0 (word_at l (2 * w))) (mul 0 (word_at l (2 * w)))
        (laws.mul_below c (word_at l (2 * w)) hc) (laws.mul_below d (word_at l (2 * w)) hd)

    pub times_all : (out : List ℕ) (n : ℕ) → out ≡ word_bytes (zero_row low high l) 0 n → out ≡ word_bytes (times_word c l) 0 n
    times_all out n e = e ∙ word_bytes_ext (zero_row low high l) (times_word c l) n (λ w h. row_zero w)

    pub plus-all : (one out : List ℕ) (n : ℕ) → out ≡ word_bytes (plus_row low high one l) 0 n → out ≡ word_bytes (plus_times d one l) 0 n
    plus-all one out n e = e ∙ word_bytes_ext (plus_row low high one l) (plus_times d one l) n (λ w h. ap (bit_xor (word_at one (2 * w))) (row_one w))

  pub mixed-all : (dst src out : List ℕ) (n : ℕ) → ((p : ℕ) → get_or dst p 0 < 256) → ((p : ℕ) → get_or src p 0 < 256)
      → out ≡ word_bytes (picked low high dst src) 0 n → out ≡ word_bytes (mixed_word c d dst src) 0 n
  mixed-all dst src out n bd bs e =
      e ∙ word_bytes_ext (picked low high dst src) (mixed_word c d dst src) n (λ w h. ap₂ bit_xor (row_zero dst bd w) (row_one src bs w))
