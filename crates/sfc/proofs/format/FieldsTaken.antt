-- 21 in plain words (specs/format/FieldsTaken.antt): each test of the definition, and what it says of the fields by their numbers.
-- Assumes nothing.
use Prim.Native.Nat.{ℕ, zero, suc, ◌*◌, ◌<◌}
use mathlib.Core.Path.{◌≡◌, refl, sym, ap, ap₂}
use mathlib.Core.Logic.{inl, inr, ◌≢◌}
use mathlib.Core.Bool.{Bool, true, false, not, ◌&&◌, ◌||◌, false≢true}
use mathlib.Core.List.{List, [], ◌∷◌}
use native.Mathlib.Omega.{arith}
use borrow.Author.Tests.{ltb-false, le-ltb, leb-true, le-leb, eqb-true, eq-eqb, eqb-false, ne_eqb}
use lib.Dec.{ltb, leb, eqb}
use lib.ListN.{length}
use Rattle.little.specs.Runs.{any}
use Rattle.little.proofs.Laws.{test_laws}
use Rattle.sfc.specs.format.Bytes.{bit}
use Rattle.sfc.specs.format.Extension.{Field, fields_of, left_of, rule_broken, field_wrong, is_known, has_tag, known_twice, extension_wrong}
use Rattle.sfc.specs.format.FieldsTaken.{field_no, Known, KeepsRule, Taken, FieldsTaken}
use Rattle.sfc.proofs.format.FieldOrder.{found_again, order_free, foreign_rule, foreign_added}

-- ---- tests

or-both : {a b : Bool} → a ≡ false → b ≡ false → (a || b) ≡ false
or-both p q = ap₂ ◌||◌ p q

and-true : {a b : Bool} → a ≡ true → b ≡ true → (a && b) ≡ true
and-true p q = ap₂ ◌&&◌ p q

-- a test that is wanted where another holds
wanted : (a b : Bool) → (a && not b) ≡ false → a ≡ true → b ≡ true
wanted true true w e = refl
wanted true false w e = absurd (false≢true (sym w))
wanted false b w e = absurd (false≢true e)

wanted_back : (a b : Bool) → (a ≡ true → b ≡ true) → (a && not b) ≡ false
wanted_back true b h = ap not (h refl)
wanted_back false b h = refl

-- ---- each tag and each rule

known_there : (tag : ℕ) → is_known tag ≡ true → Known tag
unfolding is_known
known_there tag = go (eqb tag 0x0020) (eqb tag 0x0030) refl refl
  where
    go : (a b : Bool) → eqb tag 0x0020 ≡ a → eqb tag 0x0030 ≡ b → (a || b || (leb 0x0100 tag && leb tag 0x0104)) ≡ true → Known tag
    go true b p q e = inl (eqb-true tag 0x0020 p)
    go false true p q e = inr (inl (eqb-true tag 0x0030 q))
    go false false p q e =
        let t = test_laws.and_both (leb 0x0100 tag) (leb tag 0x0104) e in
        inr (inr (leb-true 0x0100 tag t.0, leb-true tag 0x0104 t.1))

known_back : (tag : ℕ) → Known tag → is_known tag ≡ true
unfolding is_known
known_back tag (inl e) = rw (eq-eqb tag 0x0020 e)
known_back tag (inr (inl e)) = rw (eq-eqb tag 0x0030 e) (go (eqb tag 0x0020))
  where
    go : (a : Bool) → (a || true || (leb 0x0100 tag && leb tag 0x0104)) ≡ true
    go true = refl
    go false = refl
known_back tag (inr (inr t)) = rw (le-leb 0x0100 tag t.0, le-leb tag 0x0104 t.1) (go (eqb tag 0x0020) (eqb tag 0x0030))
  where
    go : (a b : Bool) → (a || b || true) ≡ true
    go true b = refl
    go false true = refl
    go false false = refl

module _ (blocks flags tag len : ℕ) where
  rule_kept : rule_broken blocks flags tag len ≡ false → KeepsRule blocks flags tag len
  unfolding rule_broken
  rule_kept w =
      let o₃ = test_laws.or-false _ (leb 0x0100 tag && leb tag 0x0104 && not (leb 1 len && leb len 4096)) w in
      let o₂ = test_laws.or-false _ (eqb tag 0x0030 && not (eqb len 2 && bit 7 flags)) o₃.0 in
      let o₁ = test_laws.or-false (ltb 16384 len) (eqb tag 0x0020 && not (eqb len (8 * blocks) && bit 6 flags)) o₂.0 in
      record {
        any_tag = ltb-false 16384 len o₁.0;
        offsets = λ e.
            let t = test_laws.and_both (eqb len (8 * blocks)) (bit 6 flags) (wanted (eqb tag 0x0020) _ o₁.1 (eq-eqb tag 0x0020 e)) in
            (eqb-true len (8 * blocks) t.0, t.1);
        format = λ e.
            let t = test_laws.and_both (eqb len 2) (bit 7 flags) (wanted (eqb tag 0x0030) _ o₂.1 (eq-eqb tag 0x0030 e)) in
            (eqb-true len 2 t.0, t.1);
        text = λ h k.
            let t = test_laws.and_both (leb 1 len) (leb len 4096) (wanted (leb 0x0100 tag && leb tag 0x0104) _ o₃.1 (and-true (le-leb 0x0100 tag h) (le-leb tag 0x0104 k))) in
            (leb-true 1 len t.0, leb-true len 4096 t.1);
      }

  rule_back : KeepsRule blocks flags tag len → rule_broken blocks flags tag len ≡ false
  unfolding rule_broken
  rule_back r =
      or-both
      (or-both
      (or-both (le-ltb 16384 len r.any_tag)
      (wanted_back (eqb tag 0x0020) (eqb len (8 * blocks) && bit 6 flags) (λ e.
      let k = r.offsets (eqb-true tag 0x0020 e) in and-true (eq-eqb len (8 * blocks) k.0) k.1)))
      (wanted_back (eqb tag 0x0030) (eqb len 2 && bit 7 flags) (λ e.
      let k = r.format (eqb-true tag 0x0030 e) in and-true (eq-eqb len 2 k.0) k.1)))
      (wanted_back (leb 0x0100 tag && leb tag 0x0104) (leb 1 len && leb len 4096) (λ e.
      let t = test_laws.and_both (leb 0x0100 tag) (leb tag 0x0104) e in
      let k = r.text (leb-true 0x0100 tag t.0) (leb-true tag 0x0104 t.1) in and-true (le-leb 1 len k.0) (le-leb len 4096 k.1)))

-- ---- tests of fields, by their numbers

none_of : (p : Field → Bool) (fs : List Field) → any p fs ≡ false → (i : ℕ) → i < length fs → p (field_no fs i) ≡ false
unfolding any
none_of p [] w i h = absurd (omega arith)
none_of p (f ∷ fs) w zero h = (test_laws.or-false (p f) (any p fs) w).0
none_of p (f ∷ fs) w (suc i) h = none_of p fs (test_laws.or-false (p f) (any p fs) w).1 i (omega arith)

none_back : (p : Field → Bool) (fs : List Field) → ((i : ℕ) → i < length fs → p (field_no fs i) ≡ false) → any p fs ≡ false
unfolding any
none_back p [] h = refl
none_back p (f ∷ fs) h = or-both (h 0 (omega arith)) (none_back p fs (λ i k. h (suc i) (omega arith)))

-- no two of them have the same known tag
abbrev Once : List Field → Type 0
Once fs = (i j : ℕ) → i < j → j < length fs → Known (field_no fs i).tag → (field_no fs i).tag ≢ (field_no fs j).tag

once_there : (fs : List Field) → known_twice fs ≡ false → Once fs
unfolding known_twice
once_there [] w i j h k n e = absurd (omega arith)
once_there (f ∷ fs) w i zero h k n e = absurd (omega arith)
once_there (f ∷ fs) w zero (suc j) h k n e =
    let o = (test_laws.or-false (is_known f.tag && has_tag f.tag fs) (known_twice fs) w).0 in
    let none : has_tag f.tag fs ≡ false = rw (known_back f.tag n) at o in
    eqb-false (field_no fs j).tag f.tag (none_of (λ (g : Field). eqb g.tag f.tag) fs none j (omega arith)) (sym e)
once_there (f ∷ fs) w (suc i) (suc j) h k n e =
    once_there fs (test_laws.or-false (is_known f.tag && has_tag f.tag fs) (known_twice fs) w).1 i j (omega arith) (omega arith) n e

once_back : (fs : List Field) → Once fs → known_twice fs ≡ false
unfolding known_twice
once_back [] h = refl
once_back (f ∷ fs) h = or-both (go (is_known f.tag) refl) (once_back fs (λ i j a b. h (suc i) (suc j) (omega arith) (omega arith)))
  where
    go : (b : Bool) → is_known f.tag ≡ b → (b && has_tag f.tag fs) ≡ false
    go true k =
        none_back (λ (g : Field). eqb g.tag f.tag) fs (λ j l. ne_eqb (field_no fs j).tag f.tag (λ e. h 0 (suc j) (omega arith) (omega arith) (known_there f.tag k) (sym e)))
    go false k = refl

-- ---- 21

no_bytes : (l : List ℕ) → ltb 0 (length l) ≡ false → l ≡ []
no_bytes [] w = refl
no_bytes (x ∷ l) w = absurd (omega (arith, ltb-false 0 (length (x ∷ l)) w))

module _ (blocks flags : ℕ) (e : List ℕ) where
  taken : extension_wrong blocks flags e ≡ false → Taken blocks flags e
  unfolding extension_wrong
  taken w =
      let o = test_laws.or-false (ltb 0 (length (left_of e)) || known_twice (fields_of e)) (any (field_wrong blocks flags) (fields_of e)) w in
      let f = test_laws.or-false (ltb 0 (length (left_of e))) (known_twice (fields_of e)) o.0 in
      record {
        filled = no_bytes (left_of e) f.0;
        once = once_there (fields_of e) f.1;
        ruled = λ i h. rule_kept blocks flags (field_no (fields_of e) i).tag (length (field_no (fields_of e) i).value) (none_of (field_wrong blocks flags) (fields_of e) o.1 i h);
      }

  taken_back : Taken blocks flags e → extension_wrong blocks flags e ≡ false
  unfolding extension_wrong
  taken_back t =
      or-both (or-both (ap (λ (l : List ℕ). ltb 0 (length l)) t.filled) (once_back (fields_of e) t.once))
      (none_back (field_wrong blocks flags) (fields_of e) (λ i h. rule_back blocks flags (field_no (fields_of e) i).tag (length (field_no (fields_of e) i).value) (t.ruled i h)))

pub fields_taken : FieldsTaken
fields_taken = record {
  taken_exactly = λ blocks flags e. (taken blocks flags e, taken_back blocks flags e);
  known_exactly = λ tag. (known_there tag, known_back tag);
  foreign_rule = foreign_rule;
  found_again = found_again;
  order_free = order_free;
  foreign_added = foreign_added;
}
