-- The resend note: its bytes, writing one and reading one (document 01, "Resend note and listing"). Assumes nothing: these
-- are definitions.
use Rattle.std.specs.Prelude.{ℕ, zero, suc, ◌+◌, ◌*◌, ◌/◌, ◌%◌, Bool, not, ◌||◌, List, [], ◌∷◌, ◌++◌, ltb, eqb, length, get_or, Result, Ok, Err}
use Rattle.little.specs.Parts.{part, put}
use Rattle.sfc.specs.answer.Numbers.{Answered, Check, checked}
use Rattle.sfc.specs.session.Lent.{marks_wrong}
use Rattle.sfc.specs.note.Missing.{missing}
use Rattle.sfc.specs.note.Ranges.{Range, ranges, maximal, bounds}
use Rattle.sfc.specs.declared.format.header.Head.{Head}
use Rattle.sfc.specs.declared.answer.reason.Reason.{Reason}
use Rattle.sfc.specs.declared.note.resend.NoteRead.{NoteRead}

-- ---- big-endian fields

-- what `width` bytes from place `at` on say, the highest first; past the end a byte counts as 0
unfoldable pub be : List ℕ → ℕ → ℕ → ℕ
be b at zero = 0
be b at (suc width) = be b at width * 256 + get_or b (at + width) 0

-- the `width` lowest bytes of v, the highest first
unfoldable pub big_bytes : ℕ → ℕ → List ℕ
big_bytes zero v = []
big_bytes (suc width) v = big_bytes width (v / 256) ++ (v % 256 ∷ [])

-- ---- the note's bytes

abbrev pub pair_bytes : Range → List ℕ
pair_bytes r = big_bytes 4 r.first ++ big_bytes 4 r.last

unfoldable pub pairs_bytes : List Range → List ℕ
pairs_bytes [] = []
pairs_bytes (r ∷ rs) = pair_bytes r ++ pairs_bytes rs

-- how many bytes follow its first field, version 1, the UUID, how many ranges there are, the ranges
unfoldable pub note_of : List ℕ → List Range → List ℕ
note_of uuid rs = big_bytes 4 (19 + 8 * length rs) ++ (1 ∷ (uuid ++ (big_bytes 2 (length rs) ++ pairs_bytes rs)))

-- ---- writing

abbrev pub note_for : Head → List ℕ → List ℕ
note_for h marks = note_of h.uuid (ranges (missing h.n marks))

abbrev pub note_checks : Head → List ℕ → List ℕ → List Check
note_checks h marks out =
    (marks_wrong h.size h.n h.m h.s marks, 71) ∷ (ltb (length out) (length (note_for h marks)), 52) ∷ []

unfoldable pub write_note : Head → List ℕ → List ℕ → Answered (Result ℕ Reason)
write_note h marks out = record {
  answer = checked (note_checks h marks out) Err (Ok (length (note_for h marks)));
  output = checked (note_checks h marks out) (λ (r : Reason). out) (put out 0 (note_for h marks));
}

-- ---- reading

-- the UUID, the count and the ranges that stand in b, whatever b is
abbrev pub uuid_in : List ℕ → List ℕ
uuid_in b = part b 5 16

abbrev pub count_in : List ℕ → ℕ
count_in b = be b 21 2

unfoldable pub pairs_from : List ℕ → ℕ → ℕ → List Range
pairs_from b at zero = []
pairs_from b at (suc k) = record { first = be b at 4; last = be b (at + 4) 4 } ∷ pairs_from b (at + 8) k

abbrev pub ranges_in : List ℕ → List Range
ranges_in b = pairs_from b 23 (count_in b)

-- 70; that it is given exactly for what is no note is NoteTheorems.note_exact
unfoldable pub malformed : List ℕ → Bool
malformed b =
    not (eqb (length b) (23 + 8 * count_in b))
    || not (eqb (be b 0 4) (19 + 8 * count_in b))
    || not (eqb (get_or b 4 0) 1)
    || not (maximal (ranges_in b))

abbrev pub read_checks : List ℕ → List ℕ → List Check
read_checks b out = (malformed b, 70) ∷ (ltb (length out) (2 * count_in b), 52) ∷ []

abbrev pub good_note : List ℕ → NoteRead
good_note b = record { uuid = uuid_in b; ranges = count_in b }

unfoldable pub read_note : List ℕ → List ℕ → Answered (Result NoteRead Reason)
read_note b out = record {
  answer = checked (read_checks b out) Err (Ok (good_note b));
  output = checked (read_checks b out) (λ (r : Reason). out) (put out 0 (bounds (ranges_in b)));
}
