-- Demand 2 of the minutes: what is written is given back. Statements, proved in proofs/demand/Demand2.antt. They are about the writer's
-- file (specs/writing/Writer.antt) and the calls' own definitions. A receiver that refuses all contradicts file_read_back,
-- offers_answered and round_trip, since any_content has lawful inputs; one with a fixed reply contradicts round_trip at two
-- contents; and a writer that refuses all contradicts file_written.
use Rattle.std.specs.Prelude.{ℕ, suc, ◌+◌, ◌*◌, ◌/◌, ◌≤◌, ◌<◌, ◌≡◌, false, cond, List, [], ◌∷◌, ◌++◌, map, length, Result, Ok}
use Rattle.little.specs.Fields.{Bytes}
use Rattle.little.specs.Parts.{part, put}
use Rattle.sfc.specs.answer.Numbers.{Answered}
use Rattle.sfc.specs.format.Limits.{wanted_blocks}
use Rattle.sfc.specs.session.Lent.{shape_wrong}
use Rattle.sfc.specs.session.Tallies.{sum}
use Rattle.sfc.specs.format.Header.{read_header}
use Rattle.sfc.specs.format.Chunk.{payload_of}
use Rattle.sfc.specs.format.Spot.{check_chunk}
use Rattle.sfc.specs.answer.Places.{number, place, complete, whole_at}
use Rattle.sfc.specs.session.Session.{Session, blank}
use Rattle.sfc.specs.session.History.{after_all, verdicts}
use Rattle.sfc.specs.session.Offer.{Logged, blank_logged}
use Rattle.sfc.specs.give.Turns.{columns_left, Releasing, releasing_of, Act, releasing, acted_all, offers_in}
use Rattle.sfc.specs.give.TurnTheorems.{in_turns}
use Rattle.little.specs.Runs.{zeros, among}
use Rattle.sfc.specs.writing.Writer.{Input, size, blocks, body, region, preamble, trailer, payload, chunk, file_of, input_wrong, write_file, head_for}
use Rattle.sfc.specs.demand.Demand3.{CompleteHasHash}
use Rattle.sfc.specs.declared.session.offer.Verdict.{Verdict}
use Rattle.sfc.specs.declared.session.offer.Verdict.TheVariants.{Fresh, Repeat}
use Rattle.sfc.specs.declared.answer.reason.Reason.{Reason}

-- ---- the words of the demand

-- what a caller can give, and 60 does not refuse
pub record Lawful (w : Input) : Type 0 where
  pub uuid_long : length w.uuid ≡ 16
  pub content : Bytes w.content
  pub right : input_wrong w ≡ false

-- a file of this content with nothing else to say: no name, no flags, no lists
abbrev pub plain : List ℕ → ℕ → ℕ → List ℕ → Input
plain content s m uuid =
    record { content = content; s = s; m = m; uuid = uuid; time = 0; format = 0; name = []; flags = 0; priority = []; fields = [] }

-- each number is below n
abbrev pub AllBelow : ℕ → List ℕ → Type 0
AllBelow n [] = Unit {0}
AllBelow n (i ∷ is) = (i < n) × AllBelow n is

-- how many different numbers a list has: a repeat counts once
unfoldable pub different : List ℕ → ℕ
different [] = 0
different (i ∷ is) = cond (among i is) (different is) (suc (different is))

-- the session of that header, blank at first, after the chunks of these indices were offered
abbrev pub received : Input → List ℕ → Session
received w is = after_all (head_for w) (blank (head_for w)) (map (chunk w) is)

-- what these offers are to answer where the indices `seen` came before: an index is fresh the first time, and then a repeat
unfoldable pub answers : Input → List ℕ → List ℕ → List Verdict
answers w seen [] = []
answers w seen (i ∷ is) =
    cond (among i seen) (Repeat (number i) (place (i * w.s))) (Fresh (number i) (place (i * w.s))) ∷ answers w (i ∷ seen) is

-- a release over y says complete, and gives the content; nothing is left in scratch
abbrev pub GivenBack : Input → Logged → List ℕ → Type 0
GivenBack w y out =
    ◌≡◌ {A = Releasing} (releasing (head_for w) y out) (releasing_of (Ok (complete (place (size w)))) 0 (zeros (w.m * w.s)) (put out 0 w.content))

-- ---- the demand

pub record Demand2 : Type 0 where
  -- Any content can be written, cut in any way that 14 and 15 let through.
  pub any_content : (content : List ℕ) (s m : ℕ) (uuid : List ℕ) → Bytes content → length uuid ≡ 16
      → shape_wrong (length content) (wanted_blocks (length content) s) m s ≡ false → Lawful (plain content s m uuid)
  -- The writer writes the file that the draft lays down, whole, and nothing after it.
  pub file_written : (w : Input) → Lawful w → (out : List ℕ) → length (file_of w) ≤ length out
      → ◌≡◌ {A = Answered (Result ℕ Reason)} (write_file w out) (record { answer = Ok (length (file_of w)); output = put out 0 (file_of w) })
  pub file_length : (w : Input) → Lawful w → length (file_of w) ≡ 76 + length (body w) + (blocks w + w.m) * (84 + w.s)
  -- From its header and trailer the caller's numbers, name and UUID come back, and the content's hash, whatever lies between: the
  -- file's own chunks or anything else. Indices, fields and time stand in the file as `file_of` lays them.
  pub header_read_back : (w : Input) → Lawful w → (between : List ℕ)
      → read_header (preamble ++ region w ++ between ++ trailer w) ≡ Ok (head_for w)
  pub file_read_back : (w : Input) → Lawful w → read_header (file_of w) ≡ Ok (head_for w)
  -- Chunk i lies in the file where its length says, and is taken for what it is, whatever lies after it.
  pub chunk_in_file : (w : Input) → Lawful w → (i : ℕ) → i < blocks w + w.m
      → part (file_of w) (12 + length (body w) + i * (84 + w.s)) (84 + w.s) ≡ chunk w i
  pub chunk_read_back : (w : Input) → Lawful w → (i : ℕ) → i < blocks w + w.m → (rest : List ℕ)
      → (check_chunk (head_for w) (chunk w i ++ rest) ≡ Ok (whole_at (number i) (place 48))) × (payload_of (chunk w i ++ rest) ≡ payload w i)
  -- Chunks of the file in any order, repeated at will short of 43, are each welcomed.
  pub offers_answered : (w : Input) → Lawful w → (is : List ℕ) → AllBelow (blocks w + w.m) is → length is ≤ 4294967295
      → verdicts (head_for w) (blank (head_for w)) (map (chunk w) is) ≡ answers w [] is
  -- With N different ones among them, turns and a release give the content, and call it complete: whatever lies in scratch, in turns
  -- of any budgets that suffice for all columns,
  pub round_trip : (w : Input) → Lawful w → (is : List ℕ) → AllBelow (blocks w + w.m) is → length is ≤ 4294967295 → blocks w ≤ different is
      → (scratch budgets out : List ℕ) → length scratch ≡ w.m * w.s → w.s / 2 ≤ sum budgets → size w ≤ length out
      → GivenBack w (in_turns (head_for w) (received w is) scratch budgets) out
  -- and where turns and releases came between the offers, as soon as no column is left.
  pub round_trip_between : (w : Input) → Lawful w → (is : List ℕ) → AllBelow (blocks w + w.m) is → length is ≤ 4294967295 → blocks w ≤ different is
      → (acts : List Act) → offers_in acts ≡ map (chunk w) is → (y : Logged) → y ≡ acted_all (head_for w) (blank_logged (head_for w)) acts
      → columns_left (blocks w) w.s y.session.marks y.finished ≡ 0 → (out : List ℕ) → size w ≤ length out → GivenBack w y out
  -- And complete is said, by any session, only of bytes that have the header's hash.
  pub complete_has_hash : CompleteHasHash
