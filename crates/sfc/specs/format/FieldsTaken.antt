-- Which bytes 21 lets through, in plain words (document 02, [2]): a known tag at most once, foreign ones as often as they like, and any
-- order. Statements, proved in proofs/format: FieldsTaken, FieldOrder.
use Rattle.std.specs.Prelude.{ℕ, ◌*◌, ◌^◌, ◌≤◌, ◌<◌, ◌≡◌, ◌⊎◌, ◌≢◌, ◌↔◌, true, false, ltb, length, get_or}
use mathlib.Core.List.{List, [], ◌∷◌, ◌++◌, Permᴰ}
use Rattle.sfc.specs.format.Bytes.{bit}
use Rattle.sfc.specs.format.Extension.{Field, joined_fields, fields_of, left_of, rule_broken, is_known, extension_wrong}

-- field i of a list; after the last one an empty field, of which nothing is said
abbrev pub field_no : List Field → ℕ → Field
field_no fs i = get_or fs i (record { tag = 0; value = [] })

-- the seven tags with a meaning
abbrev pub Known : ℕ → Type 0
Known tag = (tag ≡ 0x0020) ⊎ ((tag ≡ 0x0030) ⊎ ((0x0100 ≤ tag) × (tag ≤ 0x0104)))

-- what is asked of any field, and of those with a known tag, in a header of so many blocks (N+M) and these flags
pub record KeepsRule (blocks flags tag len : ℕ) : Type 0 where
  pub any_tag : len ≤ 16384
  pub offsets : tag ≡ 0x0020 → (len ≡ 8 * blocks) × (bit 6 flags ≡ true)
  pub format : tag ≡ 0x0030 → (len ≡ 2) × (bit 7 flags ≡ true)
  pub text : 0x0100 ≤ tag → tag ≤ 0x0104 → (1 ≤ len) × (len ≤ 4096)

-- 21 is not given
pub record Taken (blocks flags : ℕ) (e : List ℕ) : Type 0 where
  -- whole fields fill the bytes
  pub filled : left_of e ≡ []
  -- no two fields, wherever they stand, have the same known tag
  pub once : (i j : ℕ) → i < j → j < length (fields_of e) → Known (field_no (fields_of e) i).tag
      → (field_no (fields_of e) i).tag ≢ (field_no (fields_of e) j).tag
  pub ruled : (i : ℕ) → i < length (fields_of e) → KeepsRule blocks flags (field_no (fields_of e) i).tag (length (field_no (fields_of e) i).value)

-- tag and length fit the places that a stored field has for them
abbrev pub Storable : Field → Type 0
Storable f = (f.tag < 256 ^ 2) × (length f.value < 256 ^ 4)

abbrev pub AllStorable : List Field → Type 0
AllStorable [] = Unit {0}
AllStorable (f ∷ fs) = Storable f × AllStorable fs

pub record FieldsTaken : Type 0 where
  -- 21 is given for these causes and for no other: not for an order, and not for a foreign tag that comes again
  pub taken_exactly : (blocks flags : ℕ) (e : List ℕ) → (extension_wrong blocks flags e ≡ false) ↔ Taken blocks flags e
  pub known_exactly : (tag : ℕ) → (is_known tag ≡ true) ↔ Known tag
  -- a foreign tag has no rule but the longest length
  pub foreign_rule : (blocks flags tag len : ℕ) → is_known tag ≡ false → rule_broken blocks flags tag len ≡ ltb 16384 len
  -- fields as they are stored are found again, and fill their bytes
  pub found_again : (fs : List Field) → AllStorable fs → (fields_of (joined_fields fs) ≡ fs) × (left_of (joined_fields fs) ≡ [])
  -- the order of fields changes nothing
  pub order_free : (blocks flags : ℕ) (fs gs : List Field) → Permᴰ fs gs → AllStorable fs
      → extension_wrong blocks flags (joined_fields fs) ≡ extension_wrong blocks flags (joined_fields gs)
  -- one more field with a foreign tag, met before or not, changes nothing wherever it is put
  pub foreign_added : (blocks flags : ℕ) (fs gs : List Field) (f : Field) → AllStorable (fs ++ gs) → Storable f
      → is_known f.tag ≡ false → length f.value ≤ 16384
      → extension_wrong blocks flags (joined_fields (fs ++ (f ∷ gs))) ≡ extension_wrong blocks flags (joined_fields (fs ++ gs))
