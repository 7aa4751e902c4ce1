-- What the program prints for a file (document 01, "Resend note and listing"; document 02, [4]), and the call that makes it.
-- Assumes nothing: these are definitions.
use Rattle.std.specs.Prelude.{ℕ, ◌+◌, ◌-◌, ◌*◌, Bool, cond, not, ◌||◌, List, [], ◌∷◌, ◌++◌, ltb, eqb, length, drop, Option, Result, Some, None, Ok, Err}
use Rattle.little.specs.Parts.{part, put}
use Rattle.little.specs.Runs.{zeros}
use Rattle.sfc.specs.answer.Numbers.{Check, checked, number_of}
use Rattle.sfc.specs.format.Header.{length_field, region_of, head_of, header_checks}
use Rattle.sfc.specs.session.Marks.{held_count, barred_count}
use Rattle.sfc.specs.session.Session.{Session, blank, verdict_of, after, spot_of}
use Rattle.sfc.specs.session.History.{after_all}
use Rattle.sfc.specs.note.Missing.{missing}
use Rattle.sfc.specs.note.Ranges.{Range, ranges}
use Rattle.sfc.specs.give.HandOut.{content_checks}
use Rattle.sfc_walk.specs.Walk.{chunks_of, length_of_all}
use Rattle.sfc_listing.specs.Text.{text, decimal, hex, line}
use Rattle.sfc.specs.declared.format.header.Head.{Head}
use Rattle.sfc.specs.declared.answer.reason.Reason.{Reason}
use Rattle.sfc.specs.declared.session.offer.Verdict.{Verdict}
use Rattle.sfc.specs.declared.session.offer.Verdict.TheVariants.{Fresh, Repeat, Refused as NotTaken}
use Rattle.sfc.specs.declared.answer.places.BytePlace.{BytePlace}

-- ---- the program's session

-- the bytes between region and trailer
unfoldable pub between : List ℕ → List ℕ
between f = part f (length_field f + 12) (length f - 64 - (length_field f + 12))

-- the session after all chunks in some bytes were offered to a blank one, in order: what is rebuilt beside a session has no say in it
-- (`walk_session` of the walk's theorems)
abbrev pub session_after : Head → List ℕ → Session
session_after h b = after_all h (blank h) (chunks_of h b)

unfoldable pub session_in : Head → List ℕ → Session
session_in h f = session_after h (between f)

-- ---- the refused chunks

unfoldable pub refused_text : ℕ → List ℕ
refused_text number = line (text "refused " ++ decimal number)

abbrev pub broken_text : ℕ → ℕ → List ℕ
broken_text number place = text "refused " ++ decimal number ++ text " " ++ decimal place

-- the line of a refusal: `at` is where the chunk begins in the file, to which the place in the chunk is added; the numbers that have
-- none, 43 and 71, are given to no offer of a listing
unfoldable pub refusal_line : ℕ → Reason → Option BytePlace → List ℕ
refusal_line at r (Some p) = line (broken_text (number_of r) (at + p.0))
refusal_line at r None = refused_text (number_of r)

-- and of any verdict: what was taken has none
unfoldable pub verdict_line : ℕ → Verdict → Option BytePlace → List ℕ
verdict_line at (Fresh i p) s = []
verdict_line at (Repeat i p) s = []
verdict_line at (NotTaken r) s = refusal_line at r s

-- where a chunk broke that was offered to x
abbrev pub broke_at : Head → Session → List ℕ → Option BytePlace
broke_at h x c = spot_of h c (verdict_of h x c)

-- and the line of that offer
abbrev pub refused_line : Head → Session → ℕ → List ℕ → List ℕ
refused_line h x at c = verdict_line at (verdict_of h x c) (broke_at h x c)

-- the lines of offers that stand one after the other in the file, in the order met
unfoldable pub refused_lines : Head → Session → ℕ → List (List ℕ) → List ℕ
refused_lines h x at [] = []
refused_lines h x at (c ∷ cs) = refused_line h x at c ++ refused_lines h (after h x c) (at + length c) cs

-- the bytes after the last chunk are offered too, where there are any: 30, 31 or 32 refuses them, and nothing comes after them
unfoldable pub stop_in : List ℕ → List (List ℕ)
stop_in [] = []
stop_in (c ∷ cs) = (c ∷ cs) ∷ []

-- all offers whose refusals are told
unfoldable pub told_in : Head → List ℕ → List (List ℕ)
told_in h b = chunks_of h b ++ stop_in (drop (length_of_all (chunks_of h b)) b)

-- ---- the text

-- the two lines before the refused ones, and the first after them
abbrev pub uuid_line : List ℕ → List ℕ
uuid_line uuid = line (text "sfc uuid=" ++ hex uuid)

abbrev pub shape_line : ℕ → ℕ → ℕ → ℕ → List ℕ
shape_line n m size s =
    line (text "blocks=" ++ decimal n ++ text " recovery=" ++ decimal m ++ text " size=" ++ decimal size ++ text " block=" ++ decimal s)

abbrev pub counts_line : ℕ → ℕ → List ℕ
counts_line held barred = line (text "held=" ++ decimal held ++ text " barred=" ++ decimal barred)

unfoldable pub head_text : List ℕ → ℕ → ℕ → ℕ → ℕ → List ℕ
head_text uuid n m size s = uuid_line uuid ++ shape_line n m size s

abbrev pub missing_line : Range → List ℕ
missing_line r = line (text "missing " ++ decimal r.first ++ text "-" ++ decimal r.last)

unfoldable pub missing_lines : List Range → List ℕ
missing_lines [] = []
missing_lines (r ∷ rs) = missing_line r ++ missing_lines rs

-- what the last line says of a refusal: 51, or too few
unfoldable pub refused_word : Reason → List ℕ
refused_word r = cond (eqb (number_of r) 51) (text "hash differs") (text "incomplete")

-- and of what is held: what a turn for all columns and a release come to
unfoldable pub last_word : Head → Session → List ℕ
last_word h x = checked (content_checks h x.store x.marks) refused_word (text "complete")

-- all that comes after the refused lines: of the session that the chunks leave, which the bytes after them do not change
unfoldable pub end_text : Head → Session → List ℕ
end_text h x =
    counts_line (held_count x.marks) (barred_count x.marks)
    ++ missing_lines (ranges (missing h.n x.marks))
    ++ line (last_word h x)

-- the text for bytes of which the first stands at place `at` of the file
unfoldable pub session_text : Head → ℕ → List ℕ → List ℕ
session_text h at b =
    head_text h.uuid h.n h.m h.size h.s
    ++ refused_lines h (blank h) at (told_in h b)
    ++ end_text h (session_after h b)

-- the file's length first, and the program's limit on the blocks last
abbrev pub program_checks : Head → List ℕ → List Check
program_checks h f = (ltb 65536 (length f), 15) ∷ (header_checks f ++ ((ltb 32768 ((h.n + h.m) * h.s), 15) ∷ []))

abbrev pub listing_for : Head → List ℕ → List ℕ
listing_for h f =
    checked (program_checks h f) (λ (r : Reason). refused_text (number_of r)) (session_text h (length_field f + 12) (between f))

unfoldable pub listing_of : List ℕ → List ℕ
listing_of f = listing_for (head_of (region_of f)) f

-- ---- the call

-- what is lent beside the output: store, marks, scratch and its numbers, the content, first and last of each missing range
pub record Desk : Type 0 where
  pub store : List ℕ
  pub marks : List ℕ
  pub scratch : List ℕ
  pub numbers : List ℕ
  pub content : List ℕ
  pub bounds : List ℕ

abbrev pub desk_of : List ℕ → List ℕ → List ℕ → List ℕ → List ℕ → List ℕ → Desk
desk_of store marks scratch numbers content bounds =
    record { store = store; marks = marks; scratch = scratch; numbers = numbers; content = content; bounds = bounds }

-- 71: enough for the program's limit, to the byte
unfoldable pub lengths_wrong : ℕ → ℕ → ℕ → ℕ → ℕ → ℕ → Bool
lengths_wrong store marks scratch numbers content bounds =
    not (eqb store 32768) || not (eqb marks 1056) || not (eqb scratch 32768) || not (eqb numbers 1024) || not (eqb content 32768)
    || not (eqb bounds 1024)

abbrev pub desk_wrong : Desk → Bool
desk_wrong d =
    lengths_wrong (length d.store) (length d.marks) (length d.scratch) (length d.numbers) (length d.content) (length d.bounds)

-- it is left as zeros
unfoldable pub cleared : Desk → Desk
cleared d = record {
  store = zeros (length d.store);
  marks = zeros (length d.marks);
  scratch = zeros (length d.scratch);
  numbers = zeros (length d.numbers);
  content = zeros (length d.content);
  bounds = zeros (length d.bounds);
}

-- 52: less room than any listing takes up at most
abbrev pub roomy_text : ℕ
roomy_text = 65536

abbrev pub listing_checks : Desk → List ℕ → List Check
listing_checks d out = (desk_wrong d, 71) ∷ (ltb (length out) roomy_text, 52) ∷ []

-- what the call answers and leaves
pub record Listed : Type 0 where
  pub answer : Result ℕ Reason
  pub desk : Desk
  pub output : List ℕ

abbrev pub listed_of : Result ℕ Reason → Desk → List ℕ → Listed
listed_of answer desk output = record { answer = answer; desk = desk; output = output }

unfoldable pub listed : List ℕ → Desk → List ℕ → Listed
listed f d out = record {
  answer = checked (listing_checks d out) Err (Ok (length (listing_of f)));
  desk = checked (listing_checks d out) (λ (r : Reason). d) (cleared d);
  output = checked (listing_checks d out) (λ (r : Reason). out) (put out 0 (listing_of f));
}
