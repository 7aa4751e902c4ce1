-- `decode` does not see what lies at an index that is not held. Assumes nothing.
use mathlib.Core.Path.{◌≡◌, refl, sym, ◌∙◌, ap, ap₂}
use mathlib.Core.Bool.{cond}
use mathlib.Core.List.{List, [], ◌∷◌}
use Prim.Native.Nat.{ℕ, suc, ◌+◌, ◌*◌, ◌/◌, ◌%◌, ◌≤◌, ◌<◌, suc-le-suc}
use native.Mathlib.Decide.{ℕ_discrete}
use native.Mathlib.Omega.{arith}
use lib.ListN.{length, get_or, take}
use lib.Dec.{eqb}
use lib.Bits.{bit_xor}
use borrow.Author.Tests.{eq-eqb, ne_eqb}
use Rattle.little.specs.Parts.{block}
use Rattle.gf16.specs.Field.{mul, inv}
use Rattle.cauchy.specs.Code.{word_at, word_of, word_bytes, share, Held}
use Rattle.cauchy.specs.inner.System.{field, solve}
use Rattle.cauchy.specs.Decode.{held, holding, missing, rows_used, held_sum, side, sides, found_words, rank, decode}
use Rattle.cauchy.specs.Theorems.{Blind}
use Rattle.cauchy.proofs.blocks.BlockLaws.{word_bytes_ext, word_block}
use Rattle.cauchy.proofs.blocks.CodeLaws.{sum_ext}
use Rattle.cauchy.proofs.decoding.Known.{UsedRows, rows_used_lem}

module _ (n m s : ℕ) (marks store other : List ℕ) (even : s % 2 ≡ 0) (agree : (i : ℕ) → i < n + m → Held marks i → block s store i ≡ block s other i) where
  -- a word of a held block
  same_word : (i w : ℕ) → i < n + m → Held marks i → w < s / 2 → word_of s store i w ≡ word_of s other i w
  same_word i w hi o hw =
      let e : s ≡ 2 * (s / 2) = omega arith in
      sym (word_block s (s / 2) store i w e hw) ∙ ap (λ (x : List ℕ). word_at x (2 * w)) (agree i hi o) ∙ word_block s (s / 2) other i w e hw

  same-share : (k w j : ℕ) → j < n → w < s / 2 → cond (eqb (get_or marks j 0) 1) (share m s store k w j) 0 ≡ cond (eqb (get_or marks j 0) 1) (share m s other k w j) 0
  same-share k w j hj hw = go (ℕ_discrete (get_or marks j 0) 1)
    where
      go : Dec (get_or marks j 0 ≡ 1) → cond (eqb (get_or marks j 0) 1) (share m s store k w j) 0 ≡ cond (eqb (get_or marks j 0) 1) (share m s other k w j) 0
      go (yes o) = ap (λ (x : ℕ). cond (eqb (get_or marks j 0) 1) (mul (inv (bit_xor k (m + j))) x) 0) (same_word j w (omega arith) o hw)
      go (no o) = rw (ne_eqb (get_or marks j 0) 1 o)

  same_sum : (k w : ℕ) → w < s / 2 → held_sum n m s marks store k w ≡ held_sum n m s marks other k w
  unfolding held_sum
  same_sum k w hw =
      sum_ext (λ j. cond (eqb (get_or marks j 0) 1) (share m s store k w j) 0) (λ j. cond (eqb (get_or marks j 0) 1) (share m s other k w j) 0) 0 n
      (λ j hj. same-share k w (0 + j) (omega arith) hw)

  same-sides : (w : ℕ) → w < s / 2 → (ks : List ℕ) → ((i : ℕ) → i < length ks → (get_or ks i 0 < m) × Held marks (n + get_or ks i 0))
      → sides n m s marks store w ks ≡ sides n m s marks other w ks
  unfolding sides side
  same-sides w hw [] h = refl
  same-sides w hw (k ∷ ks) h =
      let h₀ : (k < m) × Held marks (n + k) = h 0 (omega arith) in
      ap₂ ◌∷◌ (ap₂ bit_xor (same_sum k w hw) (same_word (n + k) w (omega (arith, h₀.0)) h₀.1 hw)) (same-sides w hw ks (λ i q. h (suc i) (suc-le-suc q)))

-- the words found are the same
pub same-words : (n m s : ℕ) (marks store other : List ℕ) → s % 2 ≡ 0 → length marks ≡ n + m → n ≤ holding marks
    → ((i : ℕ) → i < n + m → Held marks i → block s store i ≡ block s other i)
    → (w : ℕ) → w < s / 2 → found_words n m s marks store w ≡ found_words n m s marks other w
unfolding found_words
same-words n m s marks store other even lm h agree w hw =
    let r : UsedRows n m marks = rows_used_lem n m marks lm h in
    ap (solve field (rows_used n marks) (missing m (held (take n marks))))
    (same-sides n m s marks store other even agree w hw (rows_used n marks) (λ i q. (r.below i q, r.is i q)))

pub blind : Blind
unfolding decode
blind n m s marks store other even lm h agree j hj = go (ℕ_discrete (get_or marks j 0) 1)
  where
    go : Dec (get_or marks j 0 ≡ 1) → cond (eqb (get_or marks j 0) 1) (block s store j) (word_bytes (λ w. get_or (found_words n m s marks store w) (rank j marks) 0) 0 (s / 2))
        ≡ cond (eqb (get_or marks j 0) 1) (block s other j) (word_bytes (λ w. get_or (found_words n m s marks other w) (rank j marks) 0) 0 (s / 2))
    go (yes o) = rw (eq-eqb (get_or marks j 0) 1 o) (agree j (omega arith) o)
    go (no o) =
        rw (ne_eqb (get_or marks j 0) 1 o)
        (word_bytes_ext (λ w. get_or (found_words n m s marks store w) (rank j marks) 0) (λ w. get_or (found_words n m s marks other w) (rank j marks) 0) (s / 2)
        (λ w hw. ap (λ (x : List ℕ). get_or x (rank j marks) 0) (same-words n m s marks store other even lm h agree w hw)))
