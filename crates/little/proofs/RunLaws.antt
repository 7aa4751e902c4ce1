-- What the tests over runs decide, as the library makes them, and the smaller of two lengths. Assumes nothing.
use Prim.Native.Nat.{ℕ, ◌-◌, ◌<◌, ◌≤◌, min}
use mathlib.Core.Path.{◌≡◌, refl, sym, ap, ap₂, ◌∙◌}
use mathlib.Core.List.{List, [], ◌∷◌}
use mathlib.Core.Logic.{◌⊎◌, inl, inr, ⊎_elim}
use mathlib.Core.Bool.{Bool, true, false, ◌&&◌, true≢false, false≢true}
use native.Mathlib.Nat.{min-eq_left, min_comm}
use native.Mathlib.Omega.{arith}
use borrow.Author.Tests.{eq-eqb, eqb-true}
use lib.Dec.{eqb}
use lib.ListN.{length, get_or, take, drop}
use lib.Seq.{length-take-le}
use Rattle.std.proofs.Common.{nat_eq}
use Rattle.std.specs.List.{list_all}
use Rattle.std.specs.Cmp.Lexicographic.{pointwise}
use Rattle.little.specs.Runs.{same, are_all}
use Rattle.little.proofs.PartLaws.{below_or, drop_down}
use Rattle.little.proofs.TestLaws.{and_both}

-- ---- the smaller of two

pub min-left : (a b : ℕ) → a ≤ b → min a b ≡ a
min-left a b h = min-eq_left h

pub min_right : (a b : ℕ) → b ≤ a → min a b ≡ b
min_right a b h = min_comm a b ∙ min-eq_left h

-- which of the two it is
pub either_least : {r a b : ℕ} → (r ≡ min a b) × (r ≤ a) × (r ≤ b) → ((r ≡ a) × (r ≤ b)) ⊎ ((r ≡ b) × (r ≤ a))
either_least {a = a} {b = b} h =
    ⊎_elim (λ (l : a < b). inl (h.0 ∙ min-left a b (omega arith), h.2))
    (λ (l : b ≤ a). inr (h.0 ∙ min_right a b l, h.1))
    (below_or a b)

-- so many elements from the front are a part of that length
pub counted : (n r : ℕ) (xs : List ℕ) → (r ≡ min n (length xs)) × (r ≤ n) × (r ≤ length xs)
    → (r ≡ min n (length xs)) × (r ≤ length xs) × (r ≡ length (take r xs))
counted n r xs h = (h.0, h.2, sym (length-take-le r xs h.2))

-- ---- whether each is that value, as the library tests each element

pub each_that : {A : Type 0} (test : A → A → Bool) (x : A) (xs : List A) → list_all (λ (y : A). test y x) xs ≡ are_all test x xs
unfolding are_all
each_that test x [] = refl
each_that test x (y ∷ ys) = ap (λ (t : Bool). test y x && t) (each_that test x ys)

-- for a walk from the back: with the element before those that are tested, the test goes on by that one
pub all-turn : (value : ℕ) (xs : List ℕ) (i : ℕ) (all : Bool) → 0 < i → i ≤ length xs → all ≡ are_all eqb value (drop i xs)
    → (eqb (get_or xs (i - 1) 0) value && all) ≡ are_all eqb value (drop (i - 1) xs)
unfolding are_all
all-turn value xs i all h k e = rw (drop_down xs i h k, e)

-- ---- whether two are the same

pub same_refl : (a : List ℕ) → same a a ≡ true
unfolding same
same_refl [] = refl
same_refl (x ∷ xs) = rw (eq-eqb x x refl, same_refl xs)

pub same-eq : (a b : List ℕ) → same a b ≡ true → a ≡ b
unfolding same
same-eq [] [] e = refl
same-eq [] (y ∷ ys) e = absurd (false≢true e)
same-eq (x ∷ xs) [] e = absurd (false≢true e)
same-eq (x ∷ xs) (y ∷ ys) e =
    let h = and_both (eqb x y) (same xs ys) e in
    ap₂ ◌∷◌ (eqb-true x y h.0) (same-eq xs ys h.1)

pub same_differ : (a b : List ℕ) → (a ≡ b → ⊥) → same a b ≡ false
same_differ a b n = go (same a b) refl
  where
    go : (t : Bool) → same a b ≡ t → same a b ≡ false
    go true e = absurd (n (same-eq a b e))
    go false e = e

pub same_apart : (a b : List ℕ) → same a b ≡ false → a ≡ b → ⊥
same_apart a b e q = true≢false (sym (same_refl a) ∙ ap (same a) q ∙ e)

-- as the library compares two slices
pub same_pointwise : (a b : List ℕ) → pointwise nat_eq a b ≡ same a b
unfolding same
same_pointwise [] [] = refl
same_pointwise [] (y ∷ ys) = refl
same_pointwise (x ∷ xs) [] = refl
same_pointwise (x ∷ xs) (y ∷ ys) = ap (λ (t : Bool). eqb x y && t) (same_pointwise xs ys)
