-- The sums that document 01 works out, C1 to C10, as one table ("Sums worked and shortcuts barred"). Proved in
-- proofs/demand/Worked.antt, where the field's and the code's own tables are cited.
use Rattle.std.specs.Prelude.{ℕ, ◌+◌, ◌<◌, ◌≡◌, List, [], ◌∷◌, ◌++◌, replicate, Ok}
use Rattle.gf16.specs.Field.{mul, inv}
use Rattle.cauchy.specs.Code.{code_block}
use Rattle.cauchy.specs.Decode.{decode}
use Rattle.little.specs.Runs.{zeros}
use Rattle.sfc.specs.format.Limits.{wanted_blocks}
use Rattle.sfc.specs.note.Ranges.{Range, ranges}
use Rattle.sfc.specs.note.Note.{write_note, read_note}
use Rattle.sfc.specs.note.NoteTheorems.{taken}
use Rattle.sfc.specs.declared.format.header.Head.{Head}

abbrev pub range : ℕ → ℕ → Range
range a b = record { first = a; last = b }

-- the file of C10: 14 bytes in 4 blocks of 4 with one recovery block, of which 0, 2 and 4 are held
abbrev pub sample_uuid : List ℕ
sample_uuid = 0 ∷ 1 ∷ 2 ∷ 3 ∷ 4 ∷ 5 ∷ 6 ∷ 7 ∷ 8 ∷ 9 ∷ 10 ∷ 11 ∷ 12 ∷ 13 ∷ 14 ∷ 15 ∷ []

abbrev pub sample_head : Head
sample_head = record {
  header_length = 331;
  uuid = sample_uuid;
  size = 14;
  format = 0;
  name = zeros 255;
  name_length = 0;
  hash = zeros 32;
  n = 4;
  m = 1;
  s = 4;
  erasure = 1;
  compression = 0;
  flags = 0;
  priorities = 0;
}

abbrev pub sample_marks : List ℕ
sample_marks = 1 ∷ 0 ∷ 1 ∷ 0 ∷ 1 ∷ []

abbrev pub sample_note : List ℕ
sample_note =
    0x00 ∷ 0x00 ∷ 0x00 ∷ 0x23 ∷ 0x01 ∷ 0x00 ∷ 0x01 ∷ 0x02 ∷ 0x03 ∷ 0x04 ∷ 0x05 ∷ 0x06 ∷ 0x07 ∷ 0x08 ∷ 0x09 ∷ 0x0A ∷ 0x0B
    ∷ 0x0C ∷ 0x0D ∷ 0x0E ∷ 0x0F ∷ 0x00 ∷ 0x02 ∷ 0x00 ∷ 0x00 ∷ 0x00 ∷ 0x01 ∷ 0x00 ∷ 0x00 ∷ 0x00 ∷ 0x01 ∷ 0x00 ∷ 0x00 ∷ 0x00
    ∷ 0x03 ∷ 0x00 ∷ 0x00 ∷ 0x00 ∷ 0x03 ∷ []

pub record Worked : Type 0 where
  -- the field: three products with 0x8016, the carry into the polynomial, an inverse
  pub c1 : mul 2 0x8016 ≡ 1
  pub c2 : mul 3 0x8016 ≡ 0x8017
  pub c3 : mul 4 0x8016 ≡ 2
  pub c4 : mul 2 0x8000 ≡ 0x002D
  pub c5 : inv 1 ≡ 1
  -- the code: index 2 is the recovery block of two data blocks of four bytes
  pub c6 : code_block 2 1 4 (0x01 ∷ 0x00 ∷ 0x02 ∷ 0x00 ∷ 0x03 ∷ 0x00 ∷ 0x04 ∷ 0x00 ∷ []) 2 ≡ 0x16 ∷ 0x80 ∷ 0x00 ∷ 0x00 ∷ []
  -- it and block 0 give back block 1, whatever lies in block 1's place
  pub c7 : (a b c d : ℕ)
      → decode 2 1 4 (1 ∷ 0 ∷ 1 ∷ []) (0x01 ∷ 0x00 ∷ 0x02 ∷ 0x00 ∷ a ∷ b ∷ c ∷ d ∷ 0x16 ∷ 0x80 ∷ 0x00 ∷ 0x00 ∷ []) 1 ≡ 0x03 ∷ 0x00 ∷ 0x04 ∷ 0x00 ∷ []
  -- the blocks that no bytes want, that one block's bytes want, and that one byte more wants
  pub c8 : (s : ℕ) → 0 < s → (wanted_blocks 0 s ≡ 1) × (wanted_blocks s s ≡ 1) × (wanted_blocks (s + 1) s ≡ 2)
  -- the ranges of a missing list
  pub c9 : ranges (0 ∷ 1 ∷ 2 ∷ 5 ∷ []) ≡ range 0 2 ∷ range 5 5 ∷ []
  -- the note, written into a longer output and read back
  pub c10 : write_note sample_head sample_marks (replicate 40 7) ≡ record { answer = Ok 39; output = sample_note ++ (7 ∷ []) }
  pub c10_read : read_note sample_note (replicate 5 7) ≡ taken sample_uuid (range 1 1 ∷ range 3 3 ∷ []) (replicate 5 7)
