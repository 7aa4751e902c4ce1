-- The hand-out in two calls (document 02, [8]): turns that rebuild word columns of the missing blocks into scratch, and a release
-- that judges the content and gives it; and histories of offers, turns and releases. Assumes nothing: these are definitions.
use Rattle.std.specs.Prelude.{ℕ, ◌+◌, ◌-◌, ◌/◌, min, cond, not, ◌||◌, List, [], ◌∷◌, ◌++◌, ltb, eqb, length, get_or, take, Result, Ok, Err}
use Rattle.little.specs.Parts.{block, put}
use Rattle.little.specs.Runs.{zeros, same}
use Rattle.blake3.specs.Tree.{hash}
use Rattle.cauchy.specs.Code.{joined}
use Rattle.cauchy.specs.Decode.{missing_data, rank}
use Rattle.cauchy.specs.Calls.{rebuilt_scratch}
use Rattle.sfc.specs.answer.Numbers.{Check, checked, passes}
use Rattle.sfc.specs.answer.Places.{place, columns, complete}
use Rattle.sfc.specs.session.Marks.{is_held, held_count}
use Rattle.sfc.specs.session.Lent.{columns_wrong}
use Rattle.sfc.specs.session.Offer.{Logged, logged, logged_after}
use Rattle.sfc.specs.declared.format.header.Head.{Head}
use Rattle.sfc.specs.declared.answer.reason.Reason.{Reason}
use Rattle.sfc.specs.declared.answer.places.ColumnCount.{ColumnCount}
use Rattle.sfc.specs.declared.give.release.Complete.{Complete}

-- how many data blocks are missing
abbrev pub gone : ℕ → List ℕ → ℕ
gone n marks = length (missing_data n marks)

-- the word columns still to be rebuilt: none where no data block is missing
unfoldable pub columns_left : ℕ → ℕ → List ℕ → ℕ → ℕ
columns_left n s marks f = cond (eqb (gone n marks) 0) 0 (s / 2 - f)

-- ---- a turn

-- what a turn answers and leaves; the finished columns go out as they came in, by value
pub record Turning : Type 0 where
  pub answer : Result ColumnCount Reason
  pub finished : ℕ
  pub scratch : List ℕ
  pub numbers : List ℕ

abbrev pub turning_of : Result ColumnCount Reason → ℕ → List ℕ → List ℕ → Turning
turning_of answer finished scratch numbers = record { answer = answer; finished = finished; scratch = scratch; numbers = numbers }

abbrev pub turn_checks : Head → List ℕ → List ℕ → List ℕ → List ℕ → ℕ → List Check
turn_checks h store marks scratch numbers f =
    (columns_wrong h.size h.n h.m h.s store marks scratch f || not (eqb (length numbers) 1024), 71)
    ∷ (ltb (held_count marks) h.n, 50)
    ∷ []

-- the budget, or the columns left where they are fewer
abbrev pub turn_count : Head → List ℕ → ℕ → ℕ → ℕ
turn_count h marks f budget = min budget (columns_left h.n h.s marks f)

-- so many columns more, from the first unfinished one on
abbrev pub turn_done : Head → List ℕ → List ℕ → List ℕ → ℕ → ℕ → Turning
turn_done h store marks scratch f count =
    turning_of (Ok (columns count)) (f + count) (rebuilt_scratch h.n h.m h.s marks store f count scratch) (zeros 1024)

-- a refusal changes nothing
unfoldable pub turn : Head → List ℕ → List ℕ → List ℕ → List ℕ → ℕ → ℕ → Turning
turn h store marks scratch numbers f budget =
    checked (turn_checks h store marks scratch numbers f) (λ (r : Reason). turning_of (Err r) f scratch numbers)
    (turn_done h store marks scratch f (turn_count h marks f budget))

-- ---- a release

-- data block j: as it is held, or the block of scratch that is its own, whatever lies there
abbrev pub piece_of : ℕ → List ℕ → List ℕ → List ℕ → ℕ → List ℕ
piece_of s store marks scratch j = cond (is_held (get_or marks j 0)) (block s store j) (block s scratch (rank j marks))

-- the bytes that are judged: all of them joined, as far as the size
unfoldable pub joined_bytes : ℕ → ℕ → ℕ → List ℕ → List ℕ → List ℕ → List ℕ
joined_bytes size n s store marks scratch = take size (joined (λ j. piece_of s store marks scratch j) 0 n)

abbrev pub joined_of : Head → List ℕ → List ℕ → List ℕ → List ℕ
joined_of h store marks scratch = joined_bytes h.size h.n h.s store marks scratch

-- what a release answers and leaves
pub record Releasing : Type 0 where
  pub answer : Result Complete Reason
  pub finished : ℕ
  pub scratch : List ℕ
  pub output : List ℕ

abbrev pub releasing_of : Result Complete Reason → ℕ → List ℕ → List ℕ → Releasing
releasing_of answer finished scratch output = record { answer = answer; finished = finished; scratch = scratch; output = output }

-- the checks whose refusal leaves everything as it was, and then 51
abbrev pub release_lent : Head → List ℕ → List ℕ → List ℕ → ℕ → List ℕ → List Check
release_lent h store marks scratch f out =
    (columns_wrong h.size h.n h.m h.s store marks scratch f, 71)
    ∷ (ltb (length out) h.size, 52)
    ∷ (ltb (held_count marks) h.n, 50)
    ∷ (ltb 0 (columns_left h.n h.s marks f), 54)
    ∷ []

abbrev pub joined_checks : Head → List ℕ → List ℕ → List ℕ → List Check
joined_checks h store marks scratch = (not (same (hash (joined_of h store marks scratch)) h.hash), 51) ∷ []

abbrev pub release_checks : Head → List ℕ → List ℕ → List ℕ → ℕ → List ℕ → List Check
release_checks h store marks scratch f out = release_lent h store marks scratch f out ++ joined_checks h store marks scratch

-- complete, with the size as the place where the answer ends; past 54 the rebuild is over, whatever the hash says
unfoldable pub release : Head → List ℕ → List ℕ → List ℕ → ℕ → List ℕ → Releasing
release h store marks scratch f out = record {
  answer = checked (release_checks h store marks scratch f out) Err (Ok (complete (place h.size)));
  finished = cond (passes (release_lent h store marks scratch f out)) 0 f;
  scratch = cond (passes (release_lent h store marks scratch f out)) (zeros (length scratch)) scratch;
  output = checked (release_checks h store marks scratch f out) (λ (r : Reason). out) (put out 0 (joined_of h store marks scratch));
}

-- ---- a history of offers, turns and releases

-- a chunk; numbers lent to a turn, and its budget; the output lent to a release
pub data Act : Type 0 where
  Offer : List ℕ → Act
  Turn : List ℕ → ℕ → Act
  Release : List ℕ → Act

-- a turn and a release over what is kept
abbrev pub turning : Head → Logged → List ℕ → ℕ → Turning
turning h y numbers budget = turn h y.session.store y.session.marks y.scratch numbers y.finished budget

abbrev pub releasing : Head → Logged → List ℕ → Releasing
releasing h y out = release h y.session.store y.session.marks y.scratch y.finished out

-- what is kept after one of them, and after all
unfoldable pub acted : Head → Logged → Act → Logged
acted h y (Act.Offer c) = logged_after h y c
acted h y (Act.Turn numbers budget) = logged y.session (turning h y numbers budget).scratch (turning h y numbers budget).finished
acted h y (Act.Release out) = logged y.session (releasing h y out).scratch (releasing h y out).finished

unfoldable pub acted_all : Head → Logged → List Act → Logged
acted_all h y [] = y
acted_all h y (a ∷ rest) = acted_all h (acted h y a) rest

-- the chunks among them
unfoldable pub offers_in : List Act → List (List ℕ)
offers_in [] = []
offers_in (Act.Offer c ∷ rest) = c ∷ offers_in rest
offers_in (Act.Turn numbers budget ∷ rest) = offers_in rest
offers_in (Act.Release out ∷ rest) = offers_in rest
