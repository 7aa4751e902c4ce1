-- The walk over extension fields (specs/format/FieldTheorems.antt), and what a step of the code's walk finds. Assumes nothing.
use Prim.Native.Nat.{ℕ, zero, suc, ◌+◌, ◌-◌, ◌<◌, ◌≤◌}
use mathlib.Core.Path.{◌≡◌, refl, sym, ap, ap₂, ◌∙◌}
use mathlib.Core.Bool.{Bool, true, false, cond, ◌||◌}
use mathlib.Core.List.{List, [], ◌∷◌, ◌++◌, append_assoc, append-nil}
use native.Mathlib.Omega.{arith}
use borrow.Author.Tests.{le-leb, lt-leb, leb-true, ltb-false}
use lib.Dec.{ltb, leb}
use lib.ListN.{length, take, drop, length-drop, take-append-drop}
use lib.Seq.{drop-drop, get_or-drop, length-take-le}
use Rattle.little.specs.Parts.{part}
use Rattle.little.specs.Fields.{Bytes, le, bytes_of}
use Rattle.little.specs.Runs.{any}
use Rattle.little.proofs.Laws.{part_laws, test_laws, little_laws, byte_laws}
use Rattle.sfc.specs.format.Extension.{Field, field_bytes, joined_fields, field_at, whole_field, next_field, fields_in, left_in, fields_of, left_of, field_wrong, known_twice, extension_wrong}
use Rattle.sfc.specs.format.FieldTheorems.{FieldWalk}

-- ---- whether a field is whole

pub not-whole-front : (e : List ℕ) → length e < 6 → whole_field e ≡ false
unfolding whole_field
not-whole-front e h = rw (lt-leb 6 (length e) h)

pub not-whole_value : (e : List ℕ) → 6 ≤ length e → length e - 6 < le e 2 4 → whole_field e ≡ false
unfolding whole_field
not-whole_value e h k = rw (le-leb 6 (length e) h, lt-leb (6 + le e 2 4) (length e) (omega arith))

pub is_whole : (e : List ℕ) → 6 ≤ length e → le e 2 4 ≤ length e - 6 → whole_field e ≡ true
unfolding whole_field
is_whole e h k = rw (le-leb 6 (length e) h, le-leb (6 + le e 2 4) (length e) (omega arith))

pub whole_long : (e : List ℕ) → whole_field e ≡ true → 6 + le e 2 4 ≤ length e
unfolding whole_field
whole_long e w = leb-true (6 + le e 2 4) (length e) (test_laws.and_both (leb 6 (length e)) (leb (6 + le e 2 4) (length e)) w).1

-- ---- the bound

after_shorter : (e : List ℕ) (a : ℕ) → length e ≤ suc a → length (drop (6 + le e 2 4) e) ≤ a
after_shorter e a h = omega (arith, length-drop (6 + le e 2 4) e)

same_fields : (a b : ℕ) (e : List ℕ) → length e ≤ a → length e ≤ b → fields_in a e ≡ fields_in b e
unfolding fields_in
same_fields zero zero e h k = refl
same_fields zero (suc b) e h k = rw (not-whole-front e (omega arith))
same_fields (suc a) zero e h k = rw (not-whole-front e (omega arith))
same_fields (suc a) (suc b) e h k =
    ap (λ (fs : List Field). cond (whole_field e) (field_at e ∷ fs) [])
    (same_fields a b (drop (6 + le e 2 4) e) (after_shorter e a h) (after_shorter e b k))

same_left : (a b : ℕ) (e : List ℕ) → length e ≤ a → length e ≤ b → left_in a e ≡ left_in b e
unfolding left_in
same_left zero zero e h k = refl
same_left zero (suc b) e h k = rw (not-whole-front e (omega arith))
same_left (suc a) zero e h k = rw (not-whole-front e (omega arith))
same_left (suc a) (suc b) e h k =
    ap (λ (l : List ℕ). cond (whole_field e) l e)
    (same_left a b (drop (6 + le e 2 4) e) (after_shorter e a h) (after_shorter e b k))

bound_enough : (most : ℕ) (e : List ℕ) → length e ≤ most → (fields_in most e ≡ fields_of e) × (left_in most e ≡ left_of e)
bound_enough most e h = (same_fields most (length e) e h (omega arith), same_left most (length e) e h (omega arith))

-- ---- one field

module _ (e : List ℕ) where
  fields_open : fields_of e ≡ cond (whole_field e) (field_at e ∷ fields_of (drop (6 + le e 2 4) e)) []
  unfolding fields_in
  fields_open =
      same_fields (length e) (suc (length e)) e (omega arith) (omega arith)
      ∙ ap (λ (fs : List Field). cond (whole_field e) (field_at e ∷ fs) [])
      (same_fields (length e) (length (drop (6 + le e 2 4) e)) (drop (6 + le e 2 4) e) (after_shorter e (length e) (omega arith)) (omega arith))

  left_open : left_of e ≡ cond (whole_field e) (left_of (drop (6 + le e 2 4) e)) e
  unfolding left_in
  left_open =
      same_left (length e) (suc (length e)) e (omega arith) (omega arith)
      ∙ ap (λ (l : List ℕ). cond (whole_field e) l e)
      (same_left (length e) (length (drop (6 + le e 2 4) e)) (drop (6 + le e 2 4) e) (after_shorter e (length e) (omega arith)) (omega arith))

  one_more : whole_field e ≡ true → fields_of e ≡ field_at e ∷ fields_of (drop (6 + le e 2 4) e)
  one_more w = fields_open ∙ ap (λ (b : Bool). cond b (field_at e ∷ fields_of (drop (6 + le e 2 4) e)) []) w

  pub left_more : whole_field e ≡ true → left_of e ≡ left_of (drop (6 + le e 2 4) e)
  left_more w = left_open ∙ ap (λ (b : Bool). cond b (left_of (drop (6 + le e 2 4) e)) e) w

  no_more : whole_field e ≡ false → (fields_of e ≡ []) × (left_of e ≡ e)
  no_more w = (
    fields_open ∙ ap (λ (b : Bool). cond b (field_at e ∷ fields_of (drop (6 + le e 2 4) e)) []) w,
    left_open ∙ ap (λ (b : Bool). cond b (left_of (drop (6 + le e 2 4) e)) e) w,
  )

-- ---- the end

ends_in : (most : ℕ) (e : List ℕ) → length e ≤ most → whole_field (left_in most e) ≡ false
unfolding left_in
ends_in zero e h = not-whole-front e (omega arith)
ends_in (suc most) e h = go (whole_field e) refl (ends_in most (drop (6 + le e 2 4) e) (after_shorter e most h))
  where
    go : (w : Bool) → whole_field e ≡ w → whole_field (left_in most (drop (6 + le e 2 4) e)) ≡ false → whole_field (cond w (left_in most (drop (6 + le e 2 4) e)) e) ≡ false
    go true q r = r
    go false q r = q

-- ---- the fields joined

-- a whole field as it is stored, and then what comes after it
field_back : (e : List ℕ) → Bytes e → whole_field e ≡ true → field_bytes (field_at e) ++ drop (6 + le e 2 4) e ≡ e
field_back e b w =
    let n = whole_long e w in
    let l : length (part e 6 (le e 2 4)) ≡ le e 2 4 = part_laws.length_part e 6 (le e 2 4) (omega arith) in
    let t : bytes_of 2 (le e 0 2) ≡ part e 0 2 = (little_laws 2).bytes_back e b 0 (omega arith) in
    let v : bytes_of 4 (length (part e 6 (le e 2 4))) ≡ part e 2 4 = ap (bytes_of 4) l ∙ (little_laws 4).bytes_back e b 2 (omega arith) in
    ap₂ (λ (x y : List ℕ). x ++ y ++ part e 6 (le e 2 4) ++ drop (6 + le e 2 4) e) t v
    ∙ append_assoc (part e 0 2 ++ part e 2 4) (part e 6 (le e 2 4)) (drop (6 + le e 2 4) e)
    ∙ ap (λ (r : List ℕ). part e 0 2 ++ part e 2 4 ++ r) (cut e 6 (le e 2 4))
    ∙ append_assoc (part e 0 2) (part e 2 4) (drop 6 e)
    ∙ ap (λ (r : List ℕ). part e 0 2 ++ r) (cut e 2 4)
    ∙ cut e 0 2
  where
    cut : (xs : List ℕ) (at n : ℕ) → part xs at n ++ drop (at + n) xs ≡ drop at xs
    cut xs at n = ap (λ (r : List ℕ). part xs at n ++ r) (sym (drop-drop n at xs)) ∙ take-append-drop n (drop at xs)

joined_in : (most : ℕ) (e : List ℕ) → Bytes e → joined_fields (fields_in most e) ++ left_in most e ≡ e
unfolding joined_fields fields_in left_in
joined_in zero e b = refl
joined_in (suc most) e b = go (whole_field e) refl (joined_in most (drop (6 + le e 2 4) e) (λ i. rw (get_or-drop (6 + le e 2 4) e i 0) (b (6 + le e 2 4 + i))))
  where
    go : (w : Bool) → whole_field e ≡ w → joined_fields (fields_in most (drop (6 + le e 2 4) e)) ++ left_in most (drop (6 + le e 2 4) e) ≡ drop (6 + le e 2 4) e
        → joined_fields (cond w (field_at e ∷ fields_in most (drop (6 + le e 2 4) e)) []) ++ cond w (left_in most (drop (6 + le e 2 4) e)) e ≡ e
    go true q r =
        append_assoc (field_bytes (field_at e)) (joined_fields (fields_in most (drop (6 + le e 2 4) e))) (left_in most (drop (6 + le e 2 4) e))
        ∙ ap (λ (l : List ℕ). field_bytes (field_at e) ++ l) r ∙ field_back e b q
    go false q r = refl

joined : (e : List ℕ) → Bytes e → joined_fields (fields_of e) ++ left_of e ≡ e
joined e b = joined_in (length e) e b

joined_exactly : (blocks flags : ℕ) (e : List ℕ) → Bytes e → extension_wrong blocks flags e ≡ false → joined_fields (fields_of e) ≡ e
unfolding extension_wrong
joined_exactly blocks flags e b w =
    let o = test_laws.or-false (ltb 0 (length (left_of e)) || known_twice (fields_of e)) (any (field_wrong blocks flags) (fields_of e)) w in
    let n : length (left_of e) ≤ 0 = ltb-false 0 (length (left_of e)) (test_laws.or-false (ltb 0 (length (left_of e))) (known_twice (fields_of e)) o.0).0 in
    sym (append-nil (joined_fields (fields_of e))) ∙ ap (λ (l : List ℕ). joined_fields (fields_of e) ++ l) (sym (empty (left_of e) n)) ∙ joined e b
  where
    empty : (l : List ℕ) → length l ≤ 0 → l ≡ []
    empty [] h = refl
    empty (x ∷ l) h = absurd (omega arith)

pub field_walk : FieldWalk
field_walk = record {
  bound_enough = bound_enough;
  one_more = one_more;
  no_more = no_more;
  ends = λ e. ends_in (length e) e (omega arith);
  joined = joined;
  joined_exactly = joined_exactly;
}

-- ---- what the code's step over the fields finds at the front of e, and the fields of e after it

module _ (e : List ℕ) where
  pub short_front : length e < 6 → next_field e ≡ 0
  unfolding next_field
  short_front h = rw (not-whole-front e h)

  -- the bytes before a value and behind them, and the length of the value
  module _ (front behind : List ℕ) (long : ℕ) (inside : 6 ≤ length e) (first : front ≡ take 6 e) (others : behind ≡ drop 6 e) (says : long ≡ le front 2 4) where
    length_field : long ≡ le e 2 4
    length_field = says ∙ ap (λ (b : List ℕ). le b 2 4) first ∙ byte_laws.le-part 4 e 0 6 2 (omega arith)

    behind_long : length behind ≡ length e - 6
    behind_long = ap length others ∙ length-drop 6 e

    pub short_value : length behind < long → next_field e ≡ 0
    unfolding next_field
    short_value h = rw (not-whole_value e inside (omega (arith, behind_long, length_field)))

    pub field_given : (value after : List ℕ) (tag : ℕ) → long ≤ length behind → value ≡ take long behind → after ≡ drop long behind → tag ≡ le front 0 2
        → (next_field e ≡ 6 + length value) × (field_at e ≡ record { tag = tag; value = value }) × (after ≡ drop (next_field e) e)
    unfolding next_field
    field_given value after tag room ev ea eq =
        let n : cond (whole_field e) (6 + le e 2 4) 0 ≡ 6 + le e 2 4 =
        ap (λ (b : Bool). cond b (6 + le e 2 4) 0) (is_whole e inside (omega (arith, behind_long, length_field))) in
        let l : length value ≡ long = ap length ev ∙ length-take-le long behind room in
        let t : le e 0 2 ≡ tag = sym (eq ∙ ap (λ (b : List ℕ). le b 0 2) first ∙ byte_laws.le-part 2 e 0 6 0 (omega arith)) in
        let v : part e 6 (le e 2 4) ≡ value = sym (ev ∙ ap₂ (λ (k : ℕ) (b : List ℕ). take k b) length_field others) in (
          omega (arith, n, l, length_field),
          ap₂ (λ (k : ℕ) (b : List ℕ). record { tag = k; value = b }) t v,
          ea ∙ ap₂ (λ (k : ℕ) (b : List ℕ). drop k b) length_field others ∙ drop-drop (le e 2 4) 6 e ∙ ap (λ (k : ℕ). drop k e) (sym n),
        )

  not-whole : next_field e ≡ 0 → whole_field e ≡ false
  unfolding next_field
  not-whole z = go (whole_field e) refl z
    where
      go : (w : Bool) → whole_field e ≡ w → cond w (6 + le e 2 4) 0 ≡ 0 → whole_field e ≡ false
      go true q f = absurd (omega arith)
      go false q f = q

  -- no field is there
  pub none_there : next_field e ≡ 0 → (fields_of e ≡ []) × (left_of e ≡ e)
  none_there z = no_more e (not-whole z)

  -- a field is there, with a value of so many bytes, and lies inside
  module _ (long : ℕ) (next : next_field e ≡ 6 + long) where
    whole : (whole_field e ≡ true) × (long ≡ le e 2 4)
    unfolding next_field
    whole = go (whole_field e) refl next
      where
        go : (w : Bool) → whole_field e ≡ w → cond w (6 + le e 2 4) 0 ≡ 6 + long → (whole_field e ≡ true) × (long ≡ le e 2 4)
        go true q f = (q, omega (arith, f))
        go false q f = absurd (omega (arith, f))

    pub field_inside : 6 + long ≤ length e
    field_inside = omega (arith, whole.1, whole_long e whole.0)

    module _ (after : List ℕ) (lies : after ≡ drop (next_field e) e) where
      behind : drop (6 + le e 2 4) e ≡ after
      behind = let n : 6 + le e 2 4 ≡ next_field e = omega (arith, next, whole.1) in ap (λ (k : ℕ). drop k e) n ∙ sym lies

      -- it is the first, and the others are those after it
      pub field-there : fields_of e ≡ field_at e ∷ fields_of after
      field-there = one_more e whole.0 ∙ ap (λ (l : List ℕ). field_at e ∷ fields_of l) behind

      pub left_there : left_of e ≡ left_of after
      left_there = left_more e whole.0 ∙ ap (λ (l : List ℕ). left_of l) behind

      pub after_long : length e ≡ 6 + long + length after
      after_long = omega (arith, field_inside, next, ap length lies, length-drop (next_field e) e)
