-- Where the extension fields of a header stand, and where one of them is. Assumes nothing: these are definitions.
use Rattle.std.specs.Prelude.{ℕ, ◌+◌, ◌*◌, cond, List, [], ◌∷◌, eqb, length, drop, Option, Result, Some, None, Ok, Err}
use Rattle.little.specs.Fields.{le}
use Rattle.sfc.specs.answer.Numbers.{checked}
use Rattle.sfc.specs.format.Extension.{Field, fields_of}
use Rattle.sfc.specs.format.Header.{region_of, header_checks}
use Rattle.sfc.specs.answer.Places.{place, field_found}
use Rattle.sfc.specs.declared.answer.reason.Reason.{Reason}
use Rattle.sfc.specs.declared.format.lookup.FieldFound.{FieldFound}

-- the first of these fields that has the tag: the place of its value, and its length; `at` is the place of the first one
unfoldable pub found_among : ℕ → ℕ → List Field → Option FieldFound
found_among tag at [] = None
found_among tag at (f ∷ fs) =
    cond (eqb f.tag tag) (Some (field_found (place (at + 6)) (length f.value))) (found_among tag (at + 6 + length f.value) fs)

-- the value of that field, and none where there is no such field
unfoldable pub value_among : ℕ → List Field → List ℕ
value_among tag [] = []
value_among tag (f ∷ fs) = cond (eqb f.tag tag) f.value (value_among tag fs)

-- the fields after the priority list of a region, and the place of their first byte in the input
abbrev pub extension_of : List ℕ → List ℕ
extension_of r = drop (335 + 4 * le r 333 2) r

abbrev pub extension_place : List ℕ → ℕ
extension_place r = 343 + 4 * le r 333 2

-- that field of an accepted header; of a header that the reader refuses only its number
unfoldable pub find_field : List ℕ → ℕ → Result (Option FieldFound) Reason
find_field b tag = checked (header_checks b) Err (Ok (found_among tag (extension_place (region_of b)) (fields_of (extension_of (region_of b)))))
