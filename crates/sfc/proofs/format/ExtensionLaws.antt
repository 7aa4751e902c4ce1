-- 21 by a walk over the fields: what is left to find wrong from a place on. Assumes nothing.
use Prim.Native.Nat.{ℕ, zero, suc}
use mathlib.Core.Path.{◌≡◌, refl, sym, ap, ◌∙◌}
use mathlib.Core.Bool.{Bool, true, false, not, ◌&&◌, ◌||◌}
use mathlib.Core.List.{List, [], ◌∷◌}
use native.Mathlib.Omega.{arith}
use borrow.Author.Tests.{eq-eqb, ne_eqb, le-ltb, lt-ltb}
use lib.Dec.{ltb, eqb}
use lib.ListN.{length}
use Rattle.little.specs.Runs.{any}
use Rattle.sfc.specs.format.Extension.{Field, fields_of, left_of, field_wrong, is_known, has_tag, known_twice, extension_wrong}

-- ---- the loop's invariant, and each way on from it

module _ (blocks flags : ℕ) where
  -- bytes are left after these fields, or a known tag is twice among them, or one of them breaks a rule
  wrong : List Field → List ℕ → Bool
  wrong fs left = ltb 0 (length left) || known_twice fs || any (field_wrong blocks flags) fs

  -- a first field breaks a rule, its known tag comes again, or the fields after it are wrong
  wrong_first : (f : Field) (fs : List Field) (left : List ℕ)
      → wrong (f ∷ fs) left ≡ (field_wrong blocks flags f || (is_known f.tag && has_tag f.tag fs) || wrong fs left)
  unfolding wrong known_twice any
  wrong_first f fs left = regroup (ltb 0 (length left)) (is_known f.tag && has_tag f.tag fs) (known_twice fs) (field_wrong blocks flags f) (any (field_wrong blocks flags) fs)
    where
      regroup : (left again later rule rest : Bool) → (left || (again || later) || (rule || rest)) ≡ (rule || again || (left || later || rest))
      regroup true true later true rest = refl
      regroup true true later false rest = refl
      regroup true false later true rest = refl
      regroup true false later false rest = refl
      regroup false true later true rest = refl
      regroup false true later false rest = refl
      regroup false false true true rest = refl
      regroup false false true false rest = refl
      regroup false false false true rest = refl
      regroup false false false false rest = refl

  module _ (e : List ℕ) where
    -- what is left to find wrong in what lies after the fields that came is what is wrong with the whole
    pub Judging : List ℕ → Type 0
    Judging rest = wrong (fields_of rest) (left_of rest) ≡ extension_wrong blocks flags e

    pub judging_start : (rest : List ℕ) → rest ≡ e → Judging rest
    unfolding Judging wrong extension_wrong
    judging_start rest q = rw q refl

    -- no field is left: what lies there is wrong
    pub judging_end : (rest last : List ℕ) → Judging rest → fields_of rest ≡ [] → left_of rest ≡ rest → last ≡ rest → not (eqb (length last) 0) ≡ extension_wrong blocks flags e
    unfolding Judging wrong known_twice any
    judging_end rest last w f l q = ap (λ (xs : List ℕ). not (eqb (length xs) 0)) q ∙ some_left (length rest) ∙ (rw (f, l) at w)
      where
        some_left : (n : ℕ) → not (eqb n 0) ≡ (ltb 0 n || false || false)
        some_left zero = ap not (eq-eqb 0 0 refl) ∙ sym (ap (λ (b : Bool). b || false || false) (le-ltb 0 0 (omega arith)))
        some_left (suc n) = ap not (ne_eqb (suc n) 0 (λ z. omega arith)) ∙ sym (ap (λ (b : Bool). b || false || false) (lt-ltb 0 (suc n) (omega arith)))

    module _ (rest after : List ℕ) (f : Field) (w : Judging rest) (first : fields_of rest ≡ f ∷ fields_of after) (left : left_of rest ≡ left_of after) where
      by_field : (field_wrong blocks flags f || (is_known f.tag && has_tag f.tag (fields_of after)) || wrong (fields_of after) (left_of after)) ≡ extension_wrong blocks flags e
      unfolding Judging
      by_field = sym (wrong_first f (fields_of after) (left_of after)) ∙ (rw (first, left) at w)

      pub field_broken : (field_wrong blocks flags f || (is_known f.tag && has_tag f.tag (fields_of after))) ≡ true → true ≡ extension_wrong blocks flags e
      field_broken b = rw b at by_field

      pub field_good : (field_wrong blocks flags f || (is_known f.tag && has_tag f.tag (fields_of after))) ≡ false → Judging after
      unfolding Judging
      field_good b = rw b at by_field
