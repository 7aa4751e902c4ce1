-- What is proved of a listing beside demand 1: what an accepted file is made of, how its chunks are answered and where the program
-- stops, and what its last line says of turn and release (document 01, "Resend note and listing"; document 02, [8]). Statements,
-- proved in proofs/ListingTheorems.antt.
use Rattle.std.specs.Prelude.{ℕ, ◌+◌, ◌*◌, ◌/◌, ◌≤◌, ◌≡◌, ◌↔◌, Bool, true, false, cond, List, [], ◌∷◌, ◌++◌, eqb, length, take, drop, Result, Ok, Err}
use Rattle.sfc.specs.answer.Numbers.{verdict, number_of, reason_of}
use Rattle.sfc.specs.answer.Places.{place, complete}
use Rattle.sfc.specs.format.Header.{region_of, trailer_of, head_of}
use Rattle.sfc.specs.session.Lent.{Lent}
use Rattle.sfc.specs.session.Session.{Session, blank, verdict_of}
use Rattle.sfc.specs.session.History.{after_all, verdicts}
use Rattle.sfc.specs.session.SessionTheorems.{count}
use Rattle.sfc.specs.note.Missing.{missing}
use Rattle.sfc.specs.note.Ranges.{ranges}
use Rattle.sfc.specs.give.Turns.{Turning, turn, release}
use Rattle.sfc_walk.specs.Walk.{chunks_of, length_of_all}
use Rattle.sfc_walk.specs.WalkTheorems.{stepped_over, each}
use Rattle.sfc_listing.specs.Text.{text}
use Rattle.sfc_listing.specs.Listing.{between, session_in, told_in, program_checks, listing_of}
use Rattle.sfc.specs.declared.format.header.Head.{Head}
use Rattle.sfc.specs.declared.answer.reason.Reason.{Reason}
use Rattle.sfc.specs.declared.session.offer.Verdict.{Verdict}
use Rattle.sfc.specs.declared.session.offer.Verdict.TheVariants.{Fresh, Repeat, Refused}
use Rattle.sfc.specs.declared.give.release.Complete.{Complete}

-- ---- a file

-- its header, and the session that a listing speaks of
abbrev pub head_in : List ℕ → Head
head_in f = head_of (region_of f)

abbrev pub session_of_file : List ℕ → Session
session_of_file f = session_in (head_in f) f

-- it is accepted, within the program's limits
abbrev pub Accepted : List ℕ → Type 0
Accepted f = verdict (program_checks (head_in f) f) ≡ Ok tt

-- the chunks that are offered, and the bytes after them, up to the trailer
abbrev pub offers_in : List ℕ → List (List ℕ)
offers_in f = chunks_of (head_in f) (between f)

abbrev pub after_offers : List ℕ → List ℕ
after_offers f = drop (length_of_all (offers_in f)) (between f)

-- what each offer answers whose refusal is told: each chunk, and what is left after them, if that is a byte at least
abbrev pub answers_in : List ℕ → List Verdict
answers_in f = verdicts (head_in f) (blank (head_in f)) (told_in (head_in f) (between f))

abbrev pub is_refused : Verdict → Bool
is_refused (Fresh i p) = false
is_refused (Repeat i p) = false
is_refused (Refused r) = true

-- memory for the rebuild and the release of its session
pub record RoomIn (f : List ℕ) (l : Lent) : Type 0 where
  pub scratch_long : length l.scratch ≡ (head_in f).m * (head_in f).s
  pub numbers_long : length l.numbers ≡ 1024
  pub output_long : (head_in f).size ≤ length l.output

-- a turn for all columns of its missing blocks, in that memory, and what a release answers after it
abbrev pub whole_turn : List ℕ → Lent → Turning
whole_turn f l = turn (head_in f) (session_of_file f).store (session_of_file f).marks l.scratch l.numbers 0 ((head_in f).s / 2)

abbrev pub handed_out : List ℕ → Lent → Result Complete Reason
handed_out f l =
    (release (head_in f) (session_of_file f).store (session_of_file f).marks (whole_turn f l).scratch (whole_turn f l).finished l.output).answer

-- ---- the lines of a text

-- one byte more, in front of the first line
unfoldable pub longer : ℕ → List (List ℕ) → List (List ℕ)
longer c [] = (c ∷ []) ∷ []
longer c (l ∷ ls) = (c ∷ l) ∷ ls

-- a line feed ends a line, and is no part of it; the last one may lack it
unfoldable pub lines_of : List ℕ → List (List ℕ)
lines_of [] = []
lines_of (c ∷ t) = cond (eqb c 10) ([] ∷ lines_of t) (longer c (lines_of t))

unfoldable pub last_of : List (List ℕ) → List ℕ
last_of [] = []
last_of (l ∷ []) = l
last_of (l ∷ k ∷ ls) = last_of (k ∷ ls)

abbrev pub last_line : List ℕ → List ℕ
last_line t = last_of (lines_of t)

-- ---- the theorems

pub record ListingTheorems : Type 0 where
  -- A file is its preamble, its region, the bytes that chunks are looked for in, and its trailer.
  pub file_parts : (f : List ℕ) → Accepted f → take 8 f ++ region_of f ++ between f ++ trailer_of f ≡ f
  -- The session is the one after the offers, in order, to a blank one.
  pub session_of_offers : (f : List ℕ) → session_of_file f ≡ after_all (head_in f) (blank (head_in f)) (offers_in f)
  -- Each offer is answered fresh, repeat or 33 to 42: never 30 to 32, 43 or 71.
  pub offers_answered : (f : List ℕ) → Accepted f → each stepped_over (verdicts (head_in f) (blank (head_in f)) (offers_in f)) ≡ true
  -- What comes after the last one would be refused by 30, 31 or 32; where that is the trailer, nothing is left, and it is 30.
  pub offers_end : (f : List ℕ) → Accepted f
      → (r : Reason) × (verdict_of (head_in f) (session_of_file f) (after_offers f) ≡ Refused r) × (30 ≤ number_of r) × (number_of r ≤ 32)
  -- Two lines, one for each refusal, the counts, one for each missing range, and the last.
  pub line-count : (f : List ℕ) → Accepted f
      → length (lines_of (listing_of f))
      ≡ 4 + count is_refused (answers_in f) + length (ranges (missing (head_in f).n (session_of_file f).marks))
  -- The last line says what a release answers after a turn for all columns, whatever memory of the right size they are lent:
  -- `complete` exactly where it gives the content,
  pub last_line_complete : (f : List ℕ) → Accepted f → (l : Lent) → RoomIn f l
      → (last_line (listing_of f) ≡ text "complete") ↔ (handed_out f l ≡ Ok (complete (place (head_in f).size)))
  -- `hash differs` exactly where it is refused by 51,
  pub last_line-hash_differs : (f : List ℕ) → Accepted f → (l : Lent) → RoomIn f l
      → (last_line (listing_of f) ≡ text "hash differs") ↔ (handed_out f l ≡ Err (reason_of 51))
  -- and `incomplete` exactly where it is refused by 50.
  pub last_line_incomplete : (f : List ℕ) → Accepted f → (l : Lent) → RoomIn f l
      → (last_line (listing_of f) ≡ text "incomplete") ↔ (handed_out f l ≡ Err (reason_of 50))
