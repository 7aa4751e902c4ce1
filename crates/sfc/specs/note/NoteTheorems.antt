-- What is proved of the missing list, of ranges and of notes (document 01, "Resend note and listing"; minutes, demand 3):
-- statements. Proved in proofs/note/MissingExact, RangesExact, RangesFew, NoteBack and NoteExact.
use Rattle.std.specs.Prelude.{ℕ, ◌+◌, ◌*◌, ◌^◌, ◌≤◌, ◌<◌, ◌≡◌, ◌↔◌, Bool, true, false, not, ◌&&◌, List, [], ◌∷◌, leb, ltb, length, get_or, Result, Ok}
use Rattle.little.specs.Parts.{put}
use Rattle.little.specs.Fields.{Bytes}
use Rattle.little.specs.Runs.{any, among, rising_from}
use Rattle.sfc.specs.session.Marks.{is_held, held_count}
use Rattle.sfc.specs.session.Lent.{marks_wrong}
use Rattle.sfc.specs.answer.Numbers.{Answered}
use Rattle.sfc.specs.note.Missing.{missing}
use Rattle.sfc.specs.note.Ranges.{Range, ranges, maximal, bounds, bounds_for, list_ranges}
use Rattle.sfc.specs.note.Note.{note_of, malformed, read_note}
use Rattle.sfc.specs.declared.format.header.Head.{Head}
use Rattle.sfc.specs.declared.note.resend.NoteRead.{NoteRead}
use Rattle.sfc.specs.declared.answer.reason.Reason.{Reason}

abbrev pub covered : ℕ → List Range → Bool
covered i rs = any (λ (r : Range). leb r.first i && leb i r.last) rs

-- an index is missing exactly if it is that of a data block, too few are held and it is not; each is listed once, rising
pub record MissingExact : Type 0 where
  pub exact : (n : ℕ) (marks : List ℕ) → n ≤ length marks → (i : ℕ)
      → among i (missing n marks) ≡ (ltb (held_count marks) n && (ltb i n && not (is_held (get_or marks i 0))))
  pub rising : (n : ℕ) (marks : List ℕ) → rising_from 0 (missing n marks) ≡ true

-- the ranges of a rising list are maximal and have just its indices, and no other maximal ranges have the same
pub record RangesExact : Type 0 where
  pub rise : (is : List ℕ) → rising_from 0 is ≡ true → maximal (ranges is) ≡ true
  pub cover : (is : List ℕ) → rising_from 0 is ≡ true → (i : ℕ) → covered i (ranges is) ≡ among i is
  pub only_one : (rs qs : List Range) → maximal rs ≡ true → maximal qs ≡ true → ((i : ℕ) → covered i rs ≡ covered i qs) → rs ≡ qs

-- how much to lend for the ranges of n data blocks: each takes two entries, and there are at most half of n + 1; so 1,024
-- entries are enough for 1,024 blocks
pub record RangesFew : Type 0 where
  pub bounds_long : (rs : List Range) → length (bounds rs) ≡ 2 * length rs
  pub ranges-few : (n : ℕ) (marks : List ℕ) → 2 * length (ranges (missing n marks)) ≤ n + 1
  pub bounds-few : (n : ℕ) (marks : List ℕ) → n ≤ 1024 → length (bounds (ranges (missing n marks))) ≤ 1024
  -- with right marks and so much lent, the call always lists them
  pub ranges-given : (h : Head) (marks out : List ℕ) → marks_wrong h.size h.n h.m h.s marks ≡ false → 1024 ≤ length out
      → ◌≡◌ {A = Answered (Result ℕ Reason)} (list_ranges h marks out) (record { answer = Ok (length (bounds_for h marks)); output = put out 0 (bounds_for h marks) })

-- every index has 32 bits
abbrev pub Small : List Range → Type 0
Small [] = Unit {0}
Small (r ∷ rs) = (r.first < 2 ^ 32) × (r.last < 2 ^ 32) × Small rs

-- what a note can say
pub record Sayable (uuid : List ℕ) (rs : List Range) : Type 0 where
  pub uuid_long : length uuid ≡ 16
  pub uuid_bytes : Bytes uuid
  pub rise : maximal rs ≡ true
  pub indices : Small rs
  pub few : length rs < 2 ^ 16

abbrev pub taken : List ℕ → List Range → List ℕ → Answered (Result NoteRead Reason)
taken uuid rs out =
    record { answer = Ok (record { uuid = uuid; ranges = length rs }); output = put out 0 (bounds rs) }

pub record NoteTheorems : Type 0 where
  -- a note gives back what it says
  pub note_read_back : (uuid : List ℕ) (rs : List Range) → Sayable uuid rs → (out : List ℕ) → 2 * length rs ≤ length out
      → read_note (note_of uuid rs) out ≡ taken uuid rs out
  -- 70 is withheld exactly from the bytes of some note
  pub note_exact : (b : List ℕ) → Bytes b
      → (malformed b ≡ false) ↔ ((uuid : List ℕ) × (rs : List Range) × (Sayable uuid rs) × (b ≡ note_of uuid rs))
  -- what the writer says can be said, in at most 512 ranges
  pub note_written : (h : Head) (marks : List ℕ) → length h.uuid ≡ 16 → Bytes h.uuid → marks_wrong h.size h.n h.m h.s marks ≡ false
      → Sayable h.uuid (ranges (missing h.n marks)) × (length (ranges (missing h.n marks)) ≤ 512)
