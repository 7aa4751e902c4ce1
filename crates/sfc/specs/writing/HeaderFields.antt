-- What document 02, [2] comes to for whole headers and for the writer's file: a header whose fields are moved or repeated is accepted as
-- before, and in a written file the tags never fall. Statements, proved in proofs/writing/HeaderFields.antt.
use Rattle.std.specs.Prelude.{ℕ, ◌+◌, ◌*◌, ◌^◌, ◌≤◌, ◌<◌, ◌≡◌, ◌↔◌, false, length, take, Ok}
use mathlib.Core.List.{List, [], ◌∷◌, ◌++◌, Permᴰ}
use Rattle.little.specs.Parts.{part}
use Rattle.little.specs.Fields.{Bytes, le, bytes_of}
use Rattle.blake3.specs.Tree.{hash}
use Rattle.sfc.specs.answer.Numbers.{verdict}
use Rattle.sfc.specs.format.Extension.{Field, joined_fields, fields_of, is_known, extension_wrong}
use Rattle.sfc.specs.format.FieldsTaken.{field_no}
use Rattle.sfc.specs.format.Header.{region_of, head_of, read_header, header_verdict}
use Rattle.sfc.specs.format.Lookup.{extension_of}
use Rattle.sfc.specs.writing.Writer.{Input, trailer_bytes, file_of, tags_fall, input_wrong}

-- region r with another extension e: what H is then, and the region with H and e anew and all else as it stands
abbrev pub length_with : List ℕ → List ℕ → ℕ
length_with r e = 331 + 4 * le r 333 2 + length e

unfoldable pub region_with : List ℕ → List ℕ → List ℕ
region_with r e = bytes_of 4 (length_with r e) ++ part r 4 (331 + 4 * le r 333 2) ++ e

-- the input b with that region, a trailer for it, and any bytes between
abbrev pub header_with : List ℕ → List ℕ → List ℕ → ℕ → List ℕ
header_with b e between time = take 8 b ++ region_with (region_of b) e ++ between ++ trailer_bytes (hash (region_with (region_of b) e)) time

-- b is bytes, its header is accepted, and these are its fields
pub record Accepted (b : List ℕ) (fs : List Field) : Type 0 where
  pub bytes : Bytes b
  pub good : header_verdict (read_header b) ≡ Ok tt
  pub fields : fields_of (extension_of (region_of b)) ≡ fs

pub record HeaderFields : Type 0 where
  -- an accepted header with another extension that H can count is judged by that extension alone
  pub by_extension : (b e between : List ℕ) (time : ℕ) → header_verdict (read_header b) ≡ Ok tt → length_with (region_of b) e ≤ 65536
      → header_verdict (read_header (header_with b e between time))
      ≡ verdict ((extension_wrong ((head_of (region_of b)).n + (head_of (region_of b)).m) (head_of (region_of b)).flags e, 21) ∷ [])
  -- so with its fields in any order it is accepted
  pub any_order : (b between : List ℕ) (time : ℕ) (fs gs : List Field) → Accepted b fs → Permᴰ fs gs
      → header_verdict (read_header (header_with b (joined_fields gs) between time)) ≡ Ok tt
  -- and with one more foreign field anywhere, which may be a copy of one that it has
  pub foreign_more : (b between : List ℕ) (time : ℕ) (fs gs : List Field) (f : Field) → Accepted b (fs ++ gs)
      → f.tag < 256 ^ 2 → is_known f.tag ≡ false → length f.value ≤ 16384 → length_with (region_of b) (joined_fields (fs ++ (f ∷ gs))) ≤ 65536
      → header_verdict (read_header (header_with b (joined_fields (fs ++ (f ∷ gs))) between time)) ≡ Ok tt
  pub repeat_free : (b between : List ℕ) (time : ℕ) (fs gs : List Field) (i : ℕ) → Accepted b (fs ++ gs)
      → i < length (fs ++ gs) → is_known (field_no (fs ++ gs) i).tag ≡ false
      → length_with (region_of b) (joined_fields (fs ++ (field_no (fs ++ gs) i ∷ gs))) ≤ 65536
      → header_verdict (read_header (header_with b (joined_fields (fs ++ (field_no (fs ++ gs) i ∷ gs))) between time)) ≡ Ok tt
  -- the writer's own test of order: no tag is below one before it
  pub falls_exactly : (e : List ℕ) → (tags_fall e ≡ false)
      ↔ ((i j : ℕ) → i < j → j < length (fields_of e) → (field_no (fields_of e) i).tag ≤ (field_no (fields_of e) j).tag)
  -- the fields stand in the file as the caller gave them
  pub as_given : (w : Input) → length w.uuid ≡ 16 → input_wrong w ≡ false → extension_of (region_of (file_of w)) ≡ w.fields
  -- and there the tags never fall, and equal ones are foreign
  pub rising_written : (w : Input) → length w.uuid ≡ 16 → input_wrong w ≡ false → (fs : List Field) → fs ≡ fields_of (extension_of (region_of (file_of w)))
      → (i j : ℕ) → i < j → j < length fs
      → ((field_no fs i).tag ≤ (field_no fs j).tag) × ((field_no fs i).tag ≡ (field_no fs j).tag → is_known (field_no fs i).tag ≡ false)
