-- Demand 1 of the minutes: anything may come in. For each public call of the crate that can refuse: which numbers a refusal can
-- have, what it leaves of what was lent, and that an answer changes the output no further than it reaches. Statements, proved in
-- proofs/demand/Demand1.antt. Bytes are any bytes, numbers any numbers, and what is lent may have any length; a slice that a call cannot
-- change is not named.
use Rattle.std.specs.Prelude.{ℕ, ◌+◌, ◌*◌, ◌≤◌, ◌<◌, ◌≡◌, ◌≢◌, true, false, cond, not, eqb, List, [], ◌∷◌, length, drop, Option, Some, Ok, Err, IsOk}
use Rattle.little.specs.Runs.{zeros, among}
use Rattle.sfc.specs.answer.Numbers.{number_of}
use Rattle.sfc.specs.format.Header.{length_field, read_header}
use Rattle.sfc.specs.format.Chunk.{measure_chunk}
use Rattle.sfc.specs.format.Spot.{spot_for, check_chunk}
use Rattle.sfc.specs.answer.Places.{place, broken, complete, field_found, unverified_block, unverified_prefix}
use Rattle.sfc.specs.format.Lookup.{find_field}
use Rattle.sfc.specs.session.Tallies.{counted_refusal}
use Rattle.sfc.specs.session.Offer.{Logged, beside_wrong, offer_verdict, logged_after, offered}
use Rattle.sfc.specs.session.SessionTheorems.{SameKept, OneOffer}
use Rattle.sfc.specs.give.HandOut.{lent_after}
use Rattle.sfc.specs.give.Turns.{Turning, turning_of, turn, Releasing, releasing_of, release}
use Rattle.sfc.specs.give.TurnTheorems.{AsBefore, OwnOffer, Restart}
use Rattle.sfc.specs.session.Lent.{Lent, rebuild_wrong, count_marks}
use Rattle.sfc.specs.give.Block.{block_request}
use Rattle.sfc.specs.give.Prefix.{prefix_given}
use Rattle.sfc.specs.note.Missing.{list_missing}
use Rattle.sfc.specs.note.Ranges.{list_ranges}
use Rattle.sfc.specs.note.Note.{write_note, read_note}
use Rattle.sfc.specs.writing.Writer.{Input, write_file}
use Rattle.sfc.specs.declared.format.header.Head.{Head}
use Rattle.sfc.specs.declared.answer.places.BlockNumber.{BlockNumber}
use Rattle.sfc.specs.declared.answer.places.BytePlace.{BytePlace}
use Rattle.sfc.specs.declared.answer.reason.Reason.{Reason}
use Rattle.sfc.specs.declared.note.resend.NoteRead.{NoteRead}
use Rattle.sfc.specs.declared.session.offer.Verdict.TheVariants.{Refused as NotTaken}

-- ---- the words of the demand

-- the reason's number is one of these
abbrev pub OneOf : Reason → List ℕ → Type 0
OneOf r ks = among (number_of r) ks ≡ true

-- a refusal by one of these numbers, with the lent output as it was
pub record Leaves (r : Reason) (ks before after : List ℕ) : Type 0 where
  pub number : OneOf r ks
  pub output : after ≡ before

-- an answer that ends at place k: after it the output is as it was
pub record Ends (k : ℕ) (before after : List ℕ) : Type 0 where
  pub long : length after ≡ length before
  pub rest : drop k after ≡ drop k before

-- what a refusal leaves of scratch and output: with the numbers ks all is as it was; with others scratch is all zeros
abbrev pub lent_left : Reason → List ℕ → Lent → Lent
lent_left r ks l = lent_after (not (among (number_of r) ks)) l l.output

-- ---- the demand

pub record Demand1 : Type 0 where
  -- A header: 10 to 23; of the head nothing is given.
  pub header_refused : (b : List ℕ) (r : Reason) → read_header b ≡ Err r → (10 ≤ number_of r) × (number_of r ≤ 23)
  -- A chunk by itself: 71 or 30 to 40, and beside the number the place that belongs to it (session/SpotTheorems): nothing else is
  -- added.
  pub chunk_refused : (h : Head) (c : List ℕ) (r : Reason) (p : Option BytePlace) → check_chunk h c ≡ Err (broken r p)
      → OneOf r (71 ∷ 30 ∷ 31 ∷ 32 ∷ 33 ∷ 34 ∷ 35 ∷ 36 ∷ 37 ∷ 38 ∷ 39 ∷ 40 ∷ []) × (p ≡ spot_for h c (number_of r))
  -- How long a chunk is: 71, 30, 31 or 32; and the count of marks: 71.
  pub measure_refused : (h : Head) (b : List ℕ) (r : Reason) → measure_chunk h b ≡ Err r → OneOf r (71 ∷ 30 ∷ 31 ∷ 32 ∷ [])
  pub count_refused : (h : Head) (marks : List ℕ) (r : Reason) → count_marks h marks ≡ Err r → OneOf r (71 ∷ [])
  -- The place of a field: the header's number, 10 to 23, and nothing else; what is found lies in the region of an accepted header,
  -- and the region, with a trailer after it, in the input.
  pub field_refused : (b : List ℕ) (tag : ℕ) (r : Reason) → find_field b tag ≡ Err r
      → OneOf r (10 ∷ 11 ∷ 12 ∷ 13 ∷ 14 ∷ 15 ∷ 16 ∷ 17 ∷ 18 ∷ 19 ∷ 20 ∷ 21 ∷ 22 ∷ 23 ∷ []) × (read_header b ≡ Err r)
  pub field_inside : (b : List ℕ) (tag p long : ℕ) → find_field b tag ≡ Ok (Some (field_found (place p) long))
      → IsOk (read_header b) × (p + long ≤ length_field b + 12) × (length_field b + 76 ≤ length b)
  -- An offer: 71, 43 or 30 to 42, and the place of that number. By 71 and 43 nothing changes at all; any other adds one to its own
  -- tally. Store, marks and what was rebuilt stay by every number but 41, which bars its index and begins the rebuild anew. Where 71
  -- has nothing against what was rebuilt, the session inside answers, and what one offer changes in it is said of that.
  pub offer_numbers : (h : Head) (y : Logged) (c : List ℕ) (r : Reason) → offer_verdict h y c ≡ NotTaken r
      → OneOf r (71 ∷ 43 ∷ 30 ∷ 31 ∷ 32 ∷ 33 ∷ 34 ∷ 35 ∷ 36 ∷ 37 ∷ 38 ∷ 39 ∷ 40 ∷ 41 ∷ 42 ∷ [])
  pub offer_place : (h : Head) (y : Logged) (c : List ℕ) (r : Reason) → offer_verdict h y c ≡ NotTaken r
      → (offered h y c).spot ≡ spot_for h c (number_of r)
  pub offer_uncounted : (h : Head) (y : Logged) (c : List ℕ) (r : Reason) → offer_verdict h y c ≡ NotTaken r → OneOf r (71 ∷ 43 ∷ [])
      → logged_after h y c ≡ y
  pub offer_counted : (h : Head) (y : Logged) (c : List ℕ) (r : Reason) → offer_verdict h y c ≡ NotTaken r
      → (logged_after h y c).session.tallies ≡ counted_refusal y.session.tallies (number_of r)
  pub offer_kept : (h : Head) (y : Logged) (c : List ℕ) (r : Reason) → offer_verdict h y c ≡ NotTaken r → number_of r ≢ 41
      → SameKept y.session (logged_after h y c).session × AsBefore y (logged_after h y c)
  pub offer_inside : (h : Head) (y : Logged) (c : List ℕ) → beside_wrong h y ≡ false → OwnOffer h y c
  pub one_offer : OneOffer
  pub restart : Restart
  -- A turn of the rebuild: 71 or 50, and nothing changes.
  pub turn_refused : (h : Head) (store marks scratch numbers : List ℕ) (f b : ℕ) (r : Reason) → (turn h store marks scratch numbers f b).answer ≡ Err r
      → OneOf r (71 ∷ 50 ∷ []) × ◌≡◌ {A = Turning} (turn h store marks scratch numbers f b) (turning_of (Err r) f scratch numbers)
  -- A release: 71, 52, 50, 54 or 51. The output is as it was; by 51 scratch and count are zeros, as they are after complete, and by
  -- every other number nothing changes.
  pub release_refused : (h : Head) (store marks scratch : List ℕ) (f : ℕ) (out : List ℕ) (r : Reason)
      → (release h store marks scratch f out).answer ≡ Err r
      → OneOf r (71 ∷ 52 ∷ 50 ∷ 54 ∷ 51 ∷ [])
      × ◌≡◌ {A = Releasing} (release h store marks scratch f out)
      (releasing_of (Err r) (cond (eqb (number_of r) 51) 0 f) (cond (eqb (number_of r) 51) (zeros (length scratch)) scratch) out)
  pub release_ends : (h : Head) (store marks scratch : List ℕ) (f : ℕ) (out : List ℕ) (p : ℕ)
      → (release h store marks scratch f out).answer ≡ Ok (complete (place p))
      → Ends p out (release h store marks scratch f out).output
      × ((release h store marks scratch f out).scratch ≡ zeros (length scratch)) × ((release h store marks scratch f out).finished ≡ 0)
  -- A request for one block: 71, 53, 52 or 50. Its own scratch is all zeros after every answer past 71, 53 and 52.
  pub block_refused : (h : Head) (store marks : List ℕ) (j : ℕ) (l : Lent) (r : Reason) → (block_request h store marks j l).answer ≡ Err r
      → OneOf r (71 ∷ 53 ∷ 52 ∷ 50 ∷ []) × ((block_request h store marks j l).lent ≡ lent_left r (71 ∷ 53 ∷ 52 ∷ []) l)
  pub block_ends : (h : Head) (store marks : List ℕ) (j : ℕ) (l : Lent) (i : BlockNumber) (p : BytePlace)
      → (block_request h store marks j l).answer ≡ Ok (unverified_block i p) → Ends h.s l.output (block_request h store marks j l).lent.output
  pub block-scratch : (h : Head) (store marks : List ℕ) (j : ℕ) (l : Lent) → rebuild_wrong h store marks l ≡ false → j < h.n → h.s ≤ length l.output
      → ((block_request h store marks j l).lent.scratch ≡ zeros (h.m * h.s)) × ((block_request h store marks j l).lent.numbers ≡ zeros 1024)
  -- The prefix, the missing list and its ranges: 71 or 52.
  pub prefix_refused : (h : Head) (store marks out : List ℕ) (r : Reason) → (prefix_given h store marks out).answer ≡ Err r
      → Leaves r (71 ∷ 52 ∷ []) out (prefix_given h store marks out).output
  pub prefix_ends : (h : Head) (store marks out : List ℕ) (i : BlockNumber) (p : ℕ) → (prefix_given h store marks out).answer ≡ Ok (unverified_prefix i (place p))
      → Ends p out (prefix_given h store marks out).output
  pub missing_refused : (h : Head) (marks out : List ℕ) (r : Reason) → (list_missing h marks out).answer ≡ Err r
      → Leaves r (71 ∷ 52 ∷ []) out (list_missing h marks out).output
  pub missing_ends : (h : Head) (marks out : List ℕ) (k : ℕ) → (list_missing h marks out).answer ≡ Ok k
      → Ends k out (list_missing h marks out).output
  pub ranges_refused : (h : Head) (marks out : List ℕ) (r : Reason) → (list_ranges h marks out).answer ≡ Err r
      → Leaves r (71 ∷ 52 ∷ []) out (list_ranges h marks out).output
  pub ranges_ends : (h : Head) (marks out : List ℕ) (k : ℕ) → (list_ranges h marks out).answer ≡ Ok k
      → Ends k out (list_ranges h marks out).output
  -- A note: 71 or 52 to write one, 70 or 52 to read one, and then nothing of the UUID.
  pub note_refused : (h : Head) (marks out : List ℕ) (r : Reason) → (write_note h marks out).answer ≡ Err r
      → Leaves r (71 ∷ 52 ∷ []) out (write_note h marks out).output
  pub note_ends : (h : Head) (marks out : List ℕ) (k : ℕ) → (write_note h marks out).answer ≡ Ok k
      → Ends k out (write_note h marks out).output
  pub reading_refused : (b out : List ℕ) (r : Reason) → (read_note b out).answer ≡ Err r
      → Leaves r (70 ∷ 52 ∷ []) out (read_note b out).output
  pub reading_ends : (b out : List ℕ) (a : NoteRead) → (read_note b out).answer ≡ Ok a → Ends (2 * a.ranges) out (read_note b out).output
  -- The writer: 60 or 61.
  pub writing_refused : (w : Input) (out : List ℕ) (r : Reason) → (write_file w out).answer ≡ Err r
      → Leaves r (60 ∷ 61 ∷ []) out (write_file w out).output
  pub writing_ends : (w : Input) (out : List ℕ) (k : ℕ) → (write_file w out).answer ≡ Ok k → Ends k out (write_file w out).output
