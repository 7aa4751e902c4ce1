-- The numbers under which the answers of turn, release and writer go out. Assumes nothing: these are definitions.
use Rattle.std.specs.Prelude.{ℕ, List, Result, Ok, Err}
use Rattle.sfc.specs.answer.Numbers.{number_of, Answered, answered}
use Rattle.sfc.specs.format.Header.{read_header}
use Rattle.sfc.specs.give.Turns.{Turning, turn, Releasing, release}
use Rattle.sfc.specs.writing.Writer.{Input, input_of}
use Rattle.sfc.specs.declared.format.header.Head.{Head}
use Rattle.sfc.specs.declared.answer.reason.Reason.{Reason}
use Rattle.sfc.specs.declared.answer.places.ColumnCount.{ColumnCount}
use Rattle.sfc.specs.declared.give.release.Complete.{Complete}

-- 0 for what was done, and the number of a refusal
unfoldable pub answer_number : {A : Type 0} → Result A Reason → ℕ
answer_number (Ok done) = 0
answer_number (Err reason) = number_of reason

-- 0 for columns that were done; 0 for complete
abbrev pub turn_number : Result ColumnCount Reason → ℕ
turn_number turned = answer_number turned

abbrev pub release_number : Result Complete Reason → ℕ
release_number handed = answer_number handed

-- what goes out: the answer, the finished columns, the scratch, and the numbers of a turn or the output of a release
pub record Outcome : Type 0 where
  pub answer : ℕ
  pub finished : ℕ
  pub scratch : List ℕ
  pub room : List ℕ

abbrev pub outcome : ℕ → ℕ → List ℕ → List ℕ → Outcome
outcome answer finished scratch room = record { answer = answer; finished = finished; scratch = scratch; room = room }

abbrev pub turn_outcome : Turning → Outcome
turn_outcome z = outcome (turn_number z.answer) z.finished z.scratch z.numbers

abbrev pub release_outcome : Releasing → Outcome
release_outcome z = outcome (release_number z.answer) z.finished z.scratch z.output

-- by a header: a refused one gives its own number, and all that is lent stays as it was
unfoldable pub by_header : Result Head Reason → ℕ → List ℕ → List ℕ → (Head → Outcome) → Outcome
by_header (Ok h) f scratch room call = call h
by_header (Err r) f scratch room call = outcome (number_of r) f scratch room

-- of a file: its header is read first
abbrev pub turn_of : List ℕ → List ℕ → List ℕ → List ℕ → List ℕ → ℕ → ℕ → Outcome
turn_of file store marks scratch numbers f budget =
    by_header (read_header file) f scratch numbers (λ (h : Head). turn_outcome (turn h store marks scratch numbers f budget))

abbrev pub release_of : List ℕ → List ℕ → List ℕ → List ℕ → ℕ → List ℕ → Outcome
release_of file store marks scratch f out =
    by_header (read_header file) f scratch out (λ (h : Head). release_outcome (release h store marks scratch f out))

-- the file's length, and document 01's number for a refusal
unfoldable pub length_for : Result ℕ Reason → ℕ
length_for (Ok length) = length
length_for (Err reason) = number_of reason

abbrev pub measured : Answered (Result ℕ Reason) → Answered ℕ
measured a = answered (length_for a.answer) a.output

-- what the writer is handed, with the facts of the file one by one
abbrev pub input_from : ℕ → ℕ → List ℕ → ℕ → ℕ → ℕ → List ℕ → List ℕ → List ℕ → List ℕ → Input
input_from s m uuid time format flags content name priority fields =
    input_of (record { s = s; m = m; uuid = uuid; time = time; format = format; flags = flags }) content name priority fields
