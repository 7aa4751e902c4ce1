-- What comparing bytes at a place and measuring a name compute, in the words of the library, and what a name without a zero byte is. Assumes nothing.
use Prim.Native.Nat.{ℕ, zero, suc, ◌+◌, ◌≤◌}
use mathlib.Core.Path.{◌≡◌, refl, sym, ap, ◌∙◌}
use mathlib.Core.Bool.{Bool, false, not, ◌&&◌, ◌||◌}
use mathlib.Core.List.{List, [], ◌∷◌}
use native.Mathlib.Omega.{arith}
use borrow.Author.Tests.{lt-ltb, ne_eqb}
use lib.Dec.{ltb, eqb}
use lib.ListN.{length, get_or}
use Rattle.std.specs.List.{list_all, prefix_len, range_with_len, zip}
use Rattle.little.specs.Runs.{any}
use Rattle.little.proofs.Laws.{test_laws}
use Rattle.sfc.specs.format.Bytes.{stands_at, before_zero}
use Rattle.sfc.specs.writing.Writer.{name_wrong}

-- the wanted bytes beside their places, each compared
pub stands-zip : (s : List ℕ) (at : ℕ) (wanted : List ℕ)
    → list_all (λ (p : ℕ × ℕ). eqb (get_or s p.0 0) p.1) (zip (range_with_len at (length wanted)) wanted) ≡ stands_at s at wanted
unfolding stands_at
stands-zip s at [] = refl
stands-zip s at (y ∷ wanted) =
    let e : at + 1 ≡ suc at = omega arith in
    ap (λ (t : Bool). eqb (get_or s at 0) y && t) (rw e (stands-zip s (suc at) wanted))

-- a name is the longest front without a zero
pub name-front : (xs : List ℕ) → prefix_len (λ x. not (eqb x 0)) xs ≡ length (before_zero xs)
unfolding before_zero
name-front [] = refl
name-front (zero ∷ xs) = refl
name-front (suc x ∷ xs) = rw (ne_eqb (suc x) 0 (λ z. omega arith)) (omega (arith, name-front xs))

-- a name is no longer than its field
pub name_fits : (xs : List ℕ) → length (before_zero xs) ≤ length xs
unfolding before_zero
name_fits [] = omega arith
name_fits (zero ∷ xs) = omega arith
name_fits (suc x ∷ xs) = omega (arith, name_fits xs)

-- a zero byte cuts a name short
zero_cuts : (b : List ℕ) → ltb (length (before_zero b)) (length b) ≡ any (eqb 0) b
unfolding before_zero any
zero_cuts [] = refl
zero_cuts (zero ∷ b) = lt-ltb 0 (suc (length b)) (omega arith)
zero_cuts (suc x ∷ b) =
    let e : eqb 0 (suc x) ≡ false = ne_eqb 0 (suc x) (λ z. omega arith) in
    test_laws.ltb_suc (length (before_zero b)) (length b) ∙ zero_cuts b ∙ sym (ap (λ (t : Bool). t || any (eqb 0) b) e)

pub name_tests : (b : List ℕ) (n : ℕ) → n ≡ length (before_zero b) → (ltb 255 (length b) || ltb n (length b)) ≡ name_wrong b
unfolding name_wrong
name_tests b n e = rw (e, zero_cuts b)
