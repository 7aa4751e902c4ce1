-- What the inner walk over extension fields promises: of its one step, and of each field that it gives. A reader of the promises can
-- skip this file. Assumes nothing: these are definitions.
use Rattle.std.specs.Prelude.{ℕ, ◌+◌, ◌≡◌, List, [], ◌∷◌, Option, Some, None, length, drop}
use Rattle.std.specs.Borrow.{Bor}
use Rattle.sfc.specs.format.Extension.{Field, field_at, next_field, fields_of, left_of}
use Rattle.sfc.specs.declared.format.extension.Field.{Field as LentField}
use Rattle.sfc.specs.declared.format.extension.Fields.{Fields}

-- a field whose value is lent, and the field that it is
abbrev pub seen : LentField → Field
seen f = record { tag = f.tag; value = f.value.now }

-- the field at the front of e, and what lies after it; none where no whole field is at the front
abbrev pub GivesFront : List ℕ → Option (LentField × Bor (List ℕ)) → Type 0
GivesFront e None = next_field e ≡ 0
GivesFront e (Some (f, after)) = (next_field e ≡ 6 + length f.value.now) × (field_at e ≡ seen f) × (after.now ≡ drop (next_field e) e)

-- the fields that are still to come
abbrev pub fields_left : Fields → List Field
fields_left s = fields_of s.rest.now

-- the first of them is given and the others are left; or there is none, and what is left stays
abbrev pub GivesField : Fields → Option LentField → Fields → Type 0
GivesField s None t = (fields_left s ≡ []) × (left_of s.rest.now ≡ s.rest.now) × (t.rest.now ≡ s.rest.now)
GivesField s (Some f) t =
    (fields_left s ≡ seen f ∷ fields_left t)
    × (left_of s.rest.now ≡ left_of t.rest.now)
    × (length s.rest.now ≡ 6 + length f.value.now + length t.rest.now)
