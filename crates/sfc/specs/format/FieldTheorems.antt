-- What the walk over extension fields finds: every field, in order, and all the bytes; and that a field found is where it is said
-- to be. Statements, proved in proofs/format: FieldWalk, FieldInside.
use Rattle.std.specs.Prelude.{ℕ, ◌+◌, ◌-◌, ◌≤◌, ◌≡◌, true, false, List, [], ◌∷◌, ◌++◌, length, drop, Some}
use Rattle.little.specs.Parts.{part}
use Rattle.little.specs.Fields.{Bytes, le}
use Rattle.sfc.specs.format.Extension.{joined_fields, field_at, whole_field, fields_in, left_in, fields_of, left_of, extension_wrong}
use Rattle.sfc.specs.answer.Places.{place, field_found}
use Rattle.sfc.specs.format.Lookup.{found_among, value_among}

pub record FieldWalk : Type 0 where
  -- the bound means nothing: a larger one changes neither the fields nor what is left
  pub bound_enough : (most : ℕ) (e : List ℕ) → length e ≤ most → (fields_in most e ≡ fields_of e) × (left_in most e ≡ left_of e)
  -- a whole field at the front is the first, and the others are those after it; where none is at the front there are none
  pub one_more : (e : List ℕ) → whole_field e ≡ true → fields_of e ≡ field_at e ∷ fields_of (drop (6 + le e 2 4) e)
  pub no_more : (e : List ℕ) → whole_field e ≡ false → (fields_of e ≡ []) × (left_of e ≡ e)
  -- the walk ends exactly where no whole field is left
  pub ends : (e : List ℕ) → whole_field (left_of e) ≡ false
  -- the fields joined, and then what is left, are the bytes; so bytes that pass 21 are exactly their fields joined
  pub joined : (e : List ℕ) → Bytes e → joined_fields (fields_of e) ++ left_of e ≡ e
  pub joined_exactly : (blocks flags : ℕ) (e : List ℕ) → Bytes e → extension_wrong blocks flags e ≡ false → joined_fields (fields_of e) ≡ e

pub record FieldLookup : Type 0 where
  -- what is found among the fields of e, whose first byte is at place `at`, is the value of the first field with that tag
  pub value_there : (e : List ℕ) (tag at p long : ℕ) → found_among tag at (fields_of e) ≡ Some (field_found (place p) long)
      → (at ≤ p) × (part e (p - at) long ≡ value_among tag (fields_of e))
