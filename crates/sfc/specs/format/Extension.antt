-- The extension fields of a header region (document 01, "The bytes"). Assumes nothing: these are definitions.
use Rattle.std.specs.Prelude.{ℕ, zero, suc, ◌+◌, ◌*◌, Bool, false, cond, not, ◌&&◌, ◌||◌, List, [], ◌∷◌, ◌++◌, ltb, leb, eqb, length, drop}
use Rattle.little.specs.Parts.{part}
use Rattle.little.specs.Fields.{le, bytes_of}
use Rattle.sfc.specs.format.Bytes.{bit}
use Rattle.little.specs.Runs.{any}

pub record Field : Type 0 where
  pub tag : ℕ
  pub value : List ℕ

-- a field as it is stored: tag (2 bytes), length (4), value
abbrev pub field_bytes : Field → List ℕ
field_bytes f = bytes_of 2 f.tag ++ bytes_of 4 (length f.value) ++ f.value

-- fields as they are stored, each after the one before
unfoldable pub joined_fields : List Field → List ℕ
joined_fields [] = []
joined_fields (f ∷ fs) = field_bytes f ++ joined_fields fs

-- the field at the front of e
abbrev pub field_at : List ℕ → Field
field_at e = record { tag = le e 0 2; value = part e 6 (le e 2 4) }

-- whether all of it is there
unfoldable pub whole_field : List ℕ → Bool
whole_field e = leb 6 (length e) && leb (6 + le e 2 4) (length e)

-- where the field after it begins; 0 where no whole field is at the front
unfoldable pub next_field : List ℕ → ℕ
next_field e = cond (whole_field e) (6 + le e 2 4) 0

-- the whole fields from the front of e on, and what is left after them; the first argument only bounds their number
unfoldable pub fields_in : ℕ → List ℕ → List Field
fields_in zero e = []
fields_in (suc most) e = cond (whole_field e) (field_at e ∷ fields_in most (drop (6 + le e 2 4) e)) []

unfoldable pub left_in : ℕ → List ℕ → List ℕ
left_in zero e = e
left_in (suc most) e = cond (whole_field e) (left_in most (drop (6 + le e 2 4) e)) e

-- all of them, and what is left after them all: no field has fewer than six bytes (specs/format/FieldTheorems.antt)
abbrev pub fields_of : List ℕ → List Field
fields_of e = fields_in (length e) e

abbrev pub left_of : List ℕ → List ℕ
left_of e = left_in (length e) e

-- the rules for a field of this tag and length, in a header of so many blocks (N+M) and these flags
unfoldable pub rule_broken : ℕ → ℕ → ℕ → ℕ → Bool
rule_broken blocks flags tag len =
    ltb 16384 len
    || (eqb tag 0x0020 && not (eqb len (8 * blocks) && bit 6 flags))
    || (eqb tag 0x0030 && not (eqb len 2 && bit 7 flags))
    || (leb 0x0100 tag && leb tag 0x0104 && not (leb 1 len && leb len 4096))

abbrev pub field_wrong : ℕ → ℕ → Field → Bool
field_wrong blocks flags f = rule_broken blocks flags f.tag (length f.value)

-- the tags that the draft gives a meaning to (document 001, 3.2); each other one is foreign, the reserved ones among them
unfoldable pub is_known : ℕ → Bool
is_known tag = eqb tag 0x0020 || eqb tag 0x0030 || (leb 0x0100 tag && leb tag 0x0104)

-- whether a field's tag is from low to high
abbrev pub tag_within : ℕ → ℕ → Field → Bool
tag_within low high f = leb low f.tag && leb f.tag high

-- whether one of these fields has the tag
abbrev pub has_tag : ℕ → List Field → Bool
has_tag tag fs = any (λ (f : Field). eqb f.tag tag) fs

-- whether two of them, side by side or apart, have the same known tag
unfoldable pub known_twice : List Field → Bool
known_twice [] = false
known_twice (f ∷ fs) = (is_known f.tag && has_tag f.tag fs) || known_twice fs

-- 21, of the bytes e after the priority list: the fields do not fill them, or have a known tag twice, or one breaks a rule
-- (document 02, [2]: foreign tags may come again, and no order is judged)
unfoldable pub extension_wrong : ℕ → ℕ → List ℕ → Bool
extension_wrong blocks flags e =
    ltb 0 (length (left_of e))
    || known_twice (fields_of e)
    || any (field_wrong blocks flags) (fields_of e)
