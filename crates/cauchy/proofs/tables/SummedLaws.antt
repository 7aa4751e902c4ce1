-- Two blocks added byte by byte are added word by word. Assumes nothing.
use mathlib.Core.Path.{◌≡◌, sym, ap, ap₂, ◌∙◌}
use mathlib.Core.List.{List}
use Prim.Native.Nat.{ℕ, ◌+◌, ◌*◌, ◌/◌, ◌%◌, ◌<◌}
use native.Mathlib.Omega.{arith}
use lib.ListN.{length, get_or}
use lib.Bits.{bit_xor, xor_lt, xor_block}
use Rattle.little.specs.Fields.{Bytes}
use Rattle.gf16.specs.Field.{mul}
use Rattle.gf16.proofs.Laws.{laws}
use Rattle.cauchy.specs.Code.{word_at, word_bytes}
use Rattle.cauchy.specs.inner.Promises.{Below}
use Rattle.cauchy.specs.inner.Packed.{mixed_word, times_word, Summed}
use Rattle.cauchy.proofs.blocks.BlockLaws.{length-word_bytes, word_bytes_ext, word_back_small, below_word_bytes, words_same}
use Rattle.cauchy.proofs.blocks.WordBytes.{word_is}

two_bytes : (p q r s : ℕ) → p < 256 → r < 256 → bit_xor p r + 256 * bit_xor q s ≡ bit_xor (p + 256 * q) (r + 256 * s)
two_bytes p q r s hp hr =
    let e : q * 256 + p ≡ p + 256 * q = omega arith in
    let f : s * 256 + r ≡ r + 256 * s = omega arith in
    omega (arith, xor_block 8 q s p r hp hr) ∙ ap₂ bit_xor e f

module _ (dst src made : List ℕ) (bd : Bytes dst) (bs : Bytes src) (r : Summed dst src made) where
  pub summed_word : (w : ℕ) → 2 * w + 1 < length dst → word_at made (2 * w) ≡ bit_xor (word_at dst (2 * w)) (word_at src (2 * w))
  summed_word w h =
      word_is made (2 * w)
      ∙ ap₂ (λ (x y : ℕ). x + 256 * y) (r.each (2 * w) (omega arith)) (r.each (2 * w + 1) h)
      ∙ two_bytes (get_or dst (2 * w) 0) (get_or dst (2 * w + 1) 0) (get_or src (2 * w) 0) (get_or src (2 * w + 1) 0) (bd (2 * w)) (bs (2 * w))
      ∙ sym (ap₂ bit_xor (word_is dst (2 * w)) (word_is src (2 * w)))

  below : Below 256 made
  below i h = rw (r.each i (omega (arith, r.size))) (xor_lt 8 (get_or dst i 0) (get_or src i 0) (bd i) (bs i))

  pub summed_words : (n : ℕ) (f : ℕ → ℕ) → length dst ≡ 2 * n → ((w : ℕ) → w < n → f w < 65536)
      → ((w : ℕ) → w < n → bit_xor (word_at dst (2 * w)) (word_at src (2 * w)) ≡ f w) → made ≡ word_bytes f 0 n
  summed_words n f l small e =
      words_same n made (word_bytes f 0 n) (r.size ∙ l) (length-word_bytes f 0 n) below (below_word_bytes f n)
      (λ w m. summed_word w (omega arith) ∙ e w m ∙ sym (word_back_small f n w m (small w m)))

  -- and then multiplied
  pub summed_times : (c : ℕ) (out : List ℕ) → length dst % 2 ≡ 0 → out ≡ word_bytes (times_word c made) 0 (length made / 2)
      → out ≡ word_bytes (mixed_word c c dst src) 0 (length dst / 2)
  summed_times c out even e =
      e ∙ ap (λ (x : ℕ). word_bytes (times_word c made) 0 (x / 2)) r.size
      ∙ word_bytes_ext (times_word c made) (mixed_word c c dst src) (length dst / 2)
      (λ w m. ap (mul c) (summed_word w (omega arith)) ∙ laws.mul-add c (word_at dst (2 * w)) (word_at src (2 * w)))
