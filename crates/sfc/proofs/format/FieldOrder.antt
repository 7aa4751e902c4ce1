-- Fields that are stored are found again, and neither their order nor one more with a foreign tag changes what 21 says of them
-- (specs/format/FieldsTaken.antt). Assumes nothing.
use Prim.Native.Nat.{ℕ, ◌+◌, ◌≤◌}
use mathlib.Core.Path.{◌≡◌, refl, sym, ap, ap₂, ◌∙◌}
use mathlib.Core.Bool.{Bool, true, false, ◌&&◌, ◌||◌}
use mathlib.Core.List.Permᴰ
use mathlib.Core.List.{List, [], ◌∷◌, ◌++◌, append_assoc, Permᴰ}
use native.Mathlib.Omega.{arith}
use borrow.Author.Tests.{eqb-true, eqb-false, ne_eqb, le-ltb}
use lib.Dec.{ltb, leb, eqb}
use lib.ListN.{length, drop, length-append}
use Rattle.little.specs.Fields.{le, bytes_of}
use Rattle.little.specs.Runs.{any}
use Rattle.little.proofs.Laws.{part_laws, little_laws, test_laws}
use Rattle.sfc.specs.format.Extension.{Field, field_bytes, joined_fields, field_at, whole_field, fields_in, left_in, fields_of, left_of, rule_broken, field_wrong, is_known, has_tag, known_twice, extension_wrong}
use Rattle.sfc.specs.format.FieldsTaken.{Storable, AllStorable}
use Rattle.sfc.proofs.format.PlaceLaws.{number_at}
use Rattle.sfc.proofs.format.FieldWalk.{is_whole, field_walk, left_more}

-- ---- a field that is stored

pub length-stored : (f : Field) (rest : List ℕ) → length (field_bytes f ++ rest) ≡ 6 + length f.value + length rest
length-stored f rest =
    length-append (field_bytes f) rest
    ∙ omega (
      arith,
      length-append (bytes_of 2 f.tag ++ bytes_of 4 (length f.value)) f.value,
      length-append (bytes_of 2 f.tag) (bytes_of 4 (length f.value)),
      (little_laws 2).long f.tag,
      (little_laws 4).long (length f.value),
    )

module _ (f : Field) (rest : List ℕ) (s : Storable f) where
  abbrev stored : List ℕ
  stored = field_bytes f ++ rest

  from_tag : stored ≡ bytes_of 2 f.tag ++ (bytes_of 4 (length f.value) ++ (f.value ++ rest))
  from_tag =
      append_assoc (bytes_of 2 f.tag ++ bytes_of 4 (length f.value)) f.value rest
      ∙ append_assoc (bytes_of 2 f.tag) (bytes_of 4 (length f.value)) (f.value ++ rest)

  from_length : drop 2 stored ≡ bytes_of 4 (length f.value) ++ (f.value ++ rest)
  from_length = part_laws.next stored (bytes_of 2 f.tag) (bytes_of 4 (length f.value) ++ (f.value ++ rest)) 0 2 from_tag ((little_laws 2).long f.tag)

  from_value : drop 6 stored ≡ f.value ++ rest
  from_value = part_laws.next stored (bytes_of 4 (length f.value)) (f.value ++ rest) 2 4 from_length ((little_laws 4).long (length f.value))

  tag_back : le stored 0 2 ≡ f.tag
  tag_back = number_at stored (bytes_of 4 (length f.value) ++ (f.value ++ rest)) 0 2 f.tag from_tag s.0

  length_back : le stored 2 4 ≡ length f.value
  length_back = number_at stored (f.value ++ rest) 2 4 (length f.value) from_length s.1

  rest_back : drop (6 + le stored 2 4) stored ≡ rest
  rest_back = part_laws.next stored f.value rest 6 (le stored 2 4) from_value (sym length_back)

  field_back : field_at stored ≡ f
  field_back = λ i. record { tag = tag_back i; value = part_laws.piece stored f.value rest 6 (le stored 2 4) from_value (sym length_back) i }

  whole_back : whole_field stored ≡ true
  whole_back = is_whole stored (omega (arith, length-stored f rest)) (omega (arith, length-stored f rest, length_back))

  found_first : fields_of stored ≡ f ∷ fields_of rest
  found_first = field_walk.one_more stored whole_back ∙ ap₂ (λ (x : Field) (l : List ℕ). x ∷ fields_of l) field_back rest_back

  left-first : left_of stored ≡ left_of rest
  left-first = left_more stored whole_back ∙ ap (λ (l : List ℕ). left_of l) rest_back

pub found_again : (fs : List Field) → AllStorable fs → (fields_of (joined_fields fs) ≡ fs) × (left_of (joined_fields fs) ≡ [])
unfolding joined_fields fields_in left_in
found_again [] s = (refl, refl)
found_again (f ∷ fs) s =
    let more = found_again fs s.1 in
    (found_first f (joined_fields fs) s.0 ∙ ap (λ (l : List Field). f ∷ l) more.0, left-first f (joined_fields fs) s.0 ∙ more.1)

-- so 21 judges the fields alone
module _ (blocks flags : ℕ) where
  fields_wrong : List Field → Bool
  fields_wrong fs = known_twice fs || any (field_wrong blocks flags) fs

  by_fields : (fs : List Field) → AllStorable fs → extension_wrong blocks flags (joined_fields fs) ≡ fields_wrong fs
  unfolding extension_wrong fields_wrong
  by_fields fs s = let back = found_again fs s in rw (back.0, back.1)

-- ---- any order

or_swap : (a b c : Bool) → (a || (b || c)) ≡ (b || (a || c))
or_swap true true c = refl
or_swap true false c = refl
or_swap false true c = refl
or_swap false false c = refl

any_order : (p : Field → Bool) {fs gs : List Field} → Permᴰ fs gs → any p fs ≡ any p gs
unfolding any
any_order p Permᴰ.nil = refl
any_order p (Permᴰ.cons {a = a} {b = b} e d) = ap₂ (λ (x : Field) (t : Bool). p x || t) e (any_order p d)
any_order p (Permᴰ.swap {a = a} {b = b} {l = l} e f) = rw (← e, ← f) (or_swap (p a) (p b) (any p l))
any_order p (Permᴰ.trans d d') = any_order p d ∙ any_order p d'

-- two fields at the front that change places
twice_swap : (f g : Field) (fs : List Field) → known_twice (f ∷ g ∷ fs) ≡ known_twice (g ∷ f ∷ fs)
unfolding known_twice any
twice_swap f g fs = go (eqb g.tag f.tag) refl
  where
    go : (q : Bool) → eqb g.tag f.tag ≡ q
        → ((is_known f.tag && (eqb g.tag f.tag || has_tag f.tag fs)) || ((is_known g.tag && has_tag g.tag fs) || known_twice fs))
        ≡ ((is_known g.tag && (eqb f.tag g.tag || has_tag g.tag fs)) || ((is_known f.tag && has_tag f.tag fs) || known_twice fs))
    go true e = rw (eqb-true g.tag f.tag e)
    go false e =
        rw (e, ne_eqb f.tag g.tag (λ s. eqb-false g.tag f.tag e (sym s)))
        (or_swap (is_known f.tag && has_tag f.tag fs) (is_known g.tag && has_tag g.tag fs) (known_twice fs))

twice_order : {fs gs : List Field} → Permᴰ fs gs → known_twice fs ≡ known_twice gs
unfolding known_twice
twice_order Permᴰ.nil = refl
twice_order (Permᴰ.cons {a = a} {l₁ = fs} {l₂ = gs} e d) =
    rw (← e) (ap₂ (λ (x y : Bool). (is_known a.tag && x) || y) (any_order (λ (f : Field). eqb f.tag a.tag) d) (twice_order d))
twice_order (Permᴰ.swap {a = a} {b = b} {l = l} e f) = rw (← e, ← f) (twice_swap a b l)
twice_order (Permᴰ.trans d d') = twice_order d ∙ twice_order d'

storable_order : {fs gs : List Field} → Permᴰ fs gs → AllStorable fs → AllStorable gs
storable_order Permᴰ.nil s = s
storable_order (Permᴰ.cons e d) s = (rw (← e) s.0, storable_order d s.1)
storable_order (Permᴰ.swap e f) s = (rw (← f) s.1.0, (rw (← e) s.0, s.1.1))
storable_order (Permᴰ.trans d d') s = storable_order d' (storable_order d s)

module _ (blocks flags : ℕ) where
  pub order_free : (fs gs : List Field) → Permᴰ fs gs → AllStorable fs → extension_wrong blocks flags (joined_fields fs) ≡ extension_wrong blocks flags (joined_fields gs)
  unfolding fields_wrong
  order_free fs gs d s =
      by_fields blocks flags fs s ∙ ap₂ ◌||◌ (twice_order d) (any_order (field_wrong blocks flags) d) ∙ sym (by_fields blocks flags gs (storable_order d s))

-- ---- one field more

storable_more : (fs gs : List Field) (f : Field) → AllStorable (fs ++ gs) → Storable f → AllStorable (fs ++ (f ∷ gs))
storable_more [] gs f s t = (t, s)
storable_more (x ∷ fs) gs f s t = (s.0, storable_more fs gs f s.1 t)

module _ (blocks flags : ℕ) where
  pub foreign_rule : (tag len : ℕ) → is_known tag ≡ false → rule_broken blocks flags tag len ≡ ltb 16384 len
  unfolding is_known rule_broken
  foreign_rule tag len k =
      let t = test_laws.or-false (eqb tag 0x0020 || eqb tag 0x0030) (leb 0x0100 tag && leb tag 0x0104) k in
      let o = test_laws.or-false (eqb tag 0x0020) (eqb tag 0x0030) t.0 in
      rw (o.0, o.1, t.1) (no_more_causes (ltb 16384 len))
    where
      no_more_causes : (a : Bool) → (a || false || false || false) ≡ a
      no_more_causes true = refl
      no_more_causes false = refl

  pub foreign_added : (fs gs : List Field) (f : Field) → AllStorable (fs ++ gs) → Storable f → is_known f.tag ≡ false → length f.value ≤ 16384
      → extension_wrong blocks flags (joined_fields (fs ++ (f ∷ gs))) ≡ extension_wrong blocks flags (joined_fields (fs ++ gs))
  unfolding fields_wrong known_twice any
  foreign_added fs gs f s t k h =
      let d = Permᴰ.middle f fs gs in
      let rule : field_wrong blocks flags f ≡ false = foreign_rule f.tag (length f.value) k ∙ le-ltb 16384 (length f.value) h in
      by_fields blocks flags (fs ++ (f ∷ gs)) (storable_more fs gs f s t) ∙ ap₂ ◌||◌ (twice_order d) (any_order (field_wrong blocks flags) d)
      ∙ (rw (k, rule) refl) ∙ sym (by_fields blocks flags (fs ++ gs) s)
