-- The walks that look for a tag within bounds and for a tag that falls: what is left to find from a place on. Assumes nothing.
use Prim.Native.Nat.{ℕ, ◌<◌, ◌≤◌}
use mathlib.Core.Path.{◌≡◌, refl, sym, ap, ap₂, ◌∙◌}
use mathlib.Core.Bool.{Bool, true, false, not, ◌&&◌, ◌||◌}
use mathlib.Core.List.{List, [], ◌∷◌, map}
use mathlib.Core.Logic.{⊎_elim}
use native.Mathlib.Omega.{arith}
use borrow.Author.Tests.{le-leb, lt-leb, eq-eqb, ne_eqb, le-ltb, lt-ltb}
use lib.Dec.{leb, ltb, eqb}
use Rattle.little.specs.Runs.{any}
use Rattle.std.specs.List.{list_any}
use Rattle.little.proofs.Laws.{test_laws}
use Rattle.sfc.specs.format.Extension.{Field, fields_of, is_known, tag_within, has_tag}
use Rattle.sfc.specs.writing.Writer.{rises_weakly, tags_fall}

-- ---- a tag from low to high

-- the library's test of some element
pub some_element : {A : Type 0} (p : A → Bool) (xs : List A) → list_any p xs ≡ any p xs
unfolding any
some_element p [] = refl
some_element p (x ∷ xs) = ap (λ (t : Bool). p x || t) (some_element p xs)

-- one tag is the case of equal bounds
within_one : (tag x : ℕ) → (leb tag x && leb x tag) ≡ eqb x tag
within_one tag x =
    ⊎_elim (λ (h : x < tag). rw (lt-leb tag x h, ne_eqb x tag (λ e. omega arith)))
    (λ (h : tag ≤ x). rw (le-leb tag x h) (⊎_elim (λ (k : tag < x). rw (lt-leb x tag k, ne_eqb x tag (λ e. omega arith)))
    (λ (k : x ≤ tag). rw (le-leb x tag k, eq-eqb x tag (omega arith))) (test_laws.below_or tag x))) (test_laws.below_or x tag)

has_one : (tag : ℕ) (fs : List Field) → any (tag_within tag tag) fs ≡ has_tag tag fs
unfolding any
has_one tag [] = refl
has_one tag (f ∷ fs) = ap₂ ◌||◌ (within_one tag f.tag) (has_one tag fs)

-- so a known tag is looked for, and of a foreign one nothing is asked
module _ (tag : ℕ) (fs : List Field) (known : Bool) (says : known ≡ is_known tag) where
  pub known_again : (found : Bool) → known ≡ true → found ≡ any (tag_within tag tag) fs → found ≡ (is_known tag && has_tag tag fs)
  known_again found k e = rw (← says, k) (e ∙ has_one tag fs)

  pub foreign_again : known ≡ false → false ≡ (is_known tag && has_tag tag fs)
  foreign_again k = rw (← says, k)

-- ---- a tag that falls

falls : ℕ → List Field → Bool
falls least fs = not (rises_weakly least (map (λ (f : Field). f.tag) fs))

falls_first : (least : ℕ) (f : Field) (fs : List Field) → falls least (f ∷ fs) ≡ (ltb f.tag least || falls f.tag fs)
unfolding falls rises_weakly
falls_first least f fs =
    ⊎_elim (λ (h : f.tag < least). rw (lt-leb least f.tag h, lt-ltb f.tag least h))
    (λ (h : least ≤ f.tag). rw (le-leb least f.tag h, le-ltb f.tag least h)) (test_laws.below_or f.tag least)

module _ (e : List ℕ) where
  -- the tags still to come fall below `least`, or below one another, exactly if those of the whole fall
  pub Climbing : ℕ → List Field → Type 0
  Climbing least fs = falls least fs ≡ tags_fall e

  pub climbing_start : (fs : List Field) → fs ≡ fields_of e → Climbing 0 fs
  unfolding Climbing falls tags_fall
  climbing_start fs q = rw q refl

  pub climbing_end : (least : ℕ) (fs : List Field) → fs ≡ [] → Climbing least fs → false ≡ tags_fall e
  unfolding Climbing falls rises_weakly
  climbing_end least fs q w = rw q at w

  module _ (least : ℕ) (f : Field) (fs rest : List Field) (w : Climbing least fs) (first : fs ≡ f ∷ rest) where
    by_first : (ltb f.tag least || falls f.tag rest) ≡ tags_fall e
    unfolding Climbing
    by_first = sym (falls_first least f rest) ∙ (rw first at w)

    pub fall_here : f.tag < least → true ≡ tags_fall e
    fall_here h = rw (lt-ltb f.tag least h) at by_first

    pub no_fall_here : least ≤ f.tag → Climbing f.tag rest
    unfolding Climbing
    no_fall_here h = rw (le-ltb f.tag least h) at by_first
