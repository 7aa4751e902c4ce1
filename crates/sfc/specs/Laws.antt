-- What the floors above may rely on beside the calls' promises and the theorems: how lists of checks decide, what is known once 71
-- lets something through, how a chunk is measured and offered, what a turn and a release give, and what is known of a file that our
-- writer wrote. Statements, proved in proofs/Laws.antt; no other law of this crate is seen above.
use Rattle.std.specs.Prelude.{ℕ, ◌+◌, ◌-◌, ◌*◌, ◌/◌, ◌≤◌, ◌<◌, ◌≡◌, true, false, cond, List, ◌++◌, length, get_or, Ok, Err}
use Rattle.little.specs.Parts.{put}
use Rattle.little.specs.Runs.{among}
use Rattle.little.specs.Said.{Said, refused}
use Rattle.sfc.specs.answer.Numbers.{Check, checked, verdict, passes, Passed, NumbersAre, number_of, Checked}
use Rattle.sfc.specs.answer.Said.{tabled, said_by_number}
use Rattle.sfc.specs.format.Limits.{wanted_blocks}
use Rattle.sfc.specs.format.Header.{length_field, read_header}
use Rattle.sfc.specs.format.Chunk.{chunk_length, chunk_checks, measure_checks, measure_chunk}
use Rattle.sfc.specs.session.Marks.{is_held, held_count}
use Rattle.sfc.specs.session.Lent.{shape_wrong, marks_wrong, lent_wrong, lent_of, rebuild_wrong}
use Rattle.sfc.specs.session.Right.{RightShape, RightMarks, RightLent}
use Rattle.sfc.specs.session.Tallies.{total, tally_full}
use Rattle.sfc.specs.session.Session.{Session, blank, session_wrong, mark_checks, welcomed, verdict_of}
use Rattle.sfc.specs.session.History.{after_all}
use Rattle.sfc.specs.session.Offer.{Logged, beside_wrong, logged_all}
use Rattle.sfc.specs.give.HandOut.{content_checks}
use Rattle.sfc.specs.give.Turns.{Turning, turn, release}
use Rattle.sfc.specs.give.TurnTheorems.{OwnOffer}
use Rattle.sfc.specs.answer.Places.{place, complete}
use Rattle.sfc.specs.note.Missing.{unheld_from}
use Rattle.sfc.specs.writing.Writer.{Input, size, blocks, body, chunk, file_of, head_for}
use Rattle.sfc.specs.demand.Demand1.{Leaves, Ends}
use Rattle.sfc.specs.demand.Demand2.{Lawful, AllBelow, different, received}
use Rattle.sfc.specs.declared.answer.reason.Reason.{Reason}
use Rattle.sfc.specs.declared.format.header.Head.{Head}
use Rattle.sfc.specs.declared.session.tallies.Tallies.{Tallies}
use Rattle.sfc.specs.declared.session.offer.Verdict.TheVariants.{Refused as NotTaken}

-- ---- lists of checks

pub record CheckLaws : Type 1 where
  -- a good verdict, by its tests
  pub passed : (cs : List Check) → verdict cs ≡ Ok tt → Passed cs
  pub all-passed : (cs : List Check) → Passed cs → verdict cs ≡ Ok tt
  pub good_passes : (cs : List Check) → verdict cs ≡ Ok tt → passes cs ≡ true
  pub passes_good : (cs : List Check) → passes cs ≡ true → verdict cs ≡ Ok tt
  pub front_good : (cs ds : List Check) → verdict (cs ++ ds) ≡ Ok tt → verdict cs ≡ Ok tt
  -- what the first part of a list decides
  pub good_then : {A : Type 0} (refuse : Reason → A) (cs ds : List Check) (good : A) → verdict cs ≡ Ok tt
      → checked (cs ++ ds) refuse good ≡ checked ds refuse good
  pub refused_then : {A : Type 0} (refuse : Reason → A) (cs ds : List Check) (good : A) (r : Reason) → verdict cs ≡ Err r
      → checked (cs ++ ds) refuse good ≡ refuse r
  -- and the whole of it
  pub good_all : {A : Type 0} (refuse : Reason → A) (cs : List Check) (good : A) → verdict cs ≡ Ok tt → checked cs refuse good ≡ good
  pub refused_all : {A : Type 0} (refuse : Reason → A) (cs : List Check) (good : A) (r : Reason) → verdict cs ≡ Err r → checked cs refuse good ≡ refuse r
  -- what an answer tells of the checks that it came from; `seen` reads the verdict out of it
  pub tells : {A : Type 0} (seen : A → Checked) (refuse : Reason → A) (good : A) → ((r : Reason) → seen (refuse r) ≡ Err r) → seen good ≡ Ok tt
      → (cs : List Check) (v : Checked) → seen (checked cs refuse good) ≡ v → verdict cs ≡ v
  -- and an answer read by its number: that of the first check whose test holds
  pub by_number : {A : Type 0} (said : A → Said) (refuse : Reason → A) (good : A) → ((r : Reason) → said (refuse r) ≡ refused (number_of r))
      → (cs : List Check) → tabled cs ≡ true → said (checked cs refuse good) ≡ said_by_number cs (said good)
  -- a refusal has one of the list's numbers
  pub number_in : (P : ℕ → Type 0) (cs : List Check) (r : Reason) → NumbersAre P cs → verdict cs ≡ Err r → P (number_of r)
  -- an output that only a good verdict changes
  pub leaves : (cs : List Check) (r : Reason) (ks out new : List ℕ) → NumbersAre (λ (k : ℕ). among k ks ≡ true) cs → verdict cs ≡ Err r
      → Leaves r ks out (checked cs (λ (q : Reason). out) new)
  pub ends : (cs : List Check) (out b : List ℕ) (k : ℕ) → verdict cs ≡ Ok tt → length b ≡ k → k ≤ length out
      → Ends k out (checked cs (λ (q : Reason). out) (put out 0 b))

-- ---- what 71 lets through

pub record LentLaws : Type 0 where
  pub right_shape : (size n m s : ℕ) → shape_wrong size n m s ≡ false → RightShape size n m s
  pub right_marks : (size n m s : ℕ) (marks : List ℕ) → marks_wrong size n m s marks ≡ false → RightMarks size n m s marks
  pub right_lent : (size n m s : ℕ) (store marks : List ℕ) → lent_wrong size n m s store marks ≡ false → RightLent size n m s store marks
  -- 71 lets through the shape of an accepted header, and the blank session of one
  pub accepted_shape : (b : List ℕ) (h : Head) → read_header b ≡ Ok h → shape_wrong h.size h.n h.m h.s ≡ false
  pub blank_right : (h : Head) → shape_wrong h.size h.n h.m h.s ≡ false → session_wrong h (blank h) ≡ false
  -- a size fills all the blocks that it wants but the last, and fits in all
  pub wanted_holds : (size s : ℕ) → 0 < s → ((wanted_blocks size s - 1) * s ≤ size) × (size ≤ wanted_blocks size s * s)

-- ---- the chunk at the front of some bytes

pub record MeasureLaws : Type 0 where
  -- a length is told just where all checks pass, and then so many bytes are there
  pub measured : (h : Head) (b : List ℕ) (k : ℕ) → measure_chunk h b ≡ Ok k → (passes (measure_checks h b) ≡ true) × (k ≡ chunk_length b)
  pub unmeasured : (h : Head) (b : List ℕ) (r : Reason) → measure_chunk h b ≡ Err r → passes (measure_checks h b) ≡ false
  pub front-there : (h : Head) (b : List ℕ) → passes (measure_checks h b) ≡ true → chunk_length b ≤ length b

-- ---- offers

pub record OfferLaws : Type 0 where
  -- past 71 and 43 the chunk and its mark decide
  pub past_two : (h : Head) (x : Session) (c : List ℕ) → session_wrong h x ≡ false → tally_full x.tallies ≡ false
      → verdict_of h x c ≡ checked (chunk_checks h c ++ mark_checks h x c) NotTaken (welcomed h x c)
  -- 71 has nothing against the session that offers leave, where it had nothing before
  pub stays_lent : (h : Head) (x : Session) (cs : List (List ℕ)) → session_wrong h x ≡ false → session_wrong h (after_all h x cs) ≡ false
  -- each offer adds one to the tallies at most, so that fewer than 43's number never fill them
  pub total-all : (h : Head) (x : Session) (cs : List (List ℕ)) → total (after_all h x cs).tallies ≤ total x.tallies + length cs
  pub not_full : (t : Tallies) → total t < 4294967295 → tally_full t ≡ false
  -- what was rebuilt has no say in the session: offers to all that is kept are offers to the session inside, whose answer they give
  pub own_offer : (h : Head) (y : Logged) (c : List ℕ) → beside_wrong h y ≡ false → OwnOffer h y c
  pub own_offers : (h : Head) (y : Logged) (cs : List (List ℕ)) → beside_wrong h y ≡ false
      → ((logged_all h y cs).session ≡ after_all h y.session cs) × (beside_wrong h (logged_all h y cs) ≡ false)

-- ---- what is given

pub record GiveLaws : Type 0 where
  -- a turn with a budget for all columns, whatever lies in scratch, and a release: past 71 and 52 what is held decides
  pub whole-turn : (h : Head) (store marks scratch numbers out : List ℕ) → rebuild_wrong h store marks (lent_of scratch numbers out) ≡ false
      → h.size ≤ length out → (z : Turning) → z ≡ turn h store marks scratch numbers 0 (h.s / 2)
      → (release h store marks z.scratch z.finished out).answer
      ≡ checked (content_checks h store marks) Err (Ok (complete (place h.size)))
  -- and both leave scratch as long as it was
  pub turn_long : (h : Head) (store marks scratch numbers : List ℕ) (f b : ℕ)
      → (length (turn h store marks scratch numbers f b).scratch ≡ length scratch)
      × (length (turn h store marks scratch numbers f b).numbers ≡ length numbers)
  pub release_long : (h : Head) (store marks scratch : List ℕ) (f : ℕ) (out : List ℕ) → length (release h store marks scratch f out).scratch ≡ length scratch

-- ---- marks that are counted

-- the marks say held just of these indices
abbrev pub Says : List ℕ → List ℕ → Type 0
Says is marks = AllBelow (length marks) is × ((j : ℕ) → j < length marks → is_held (get_or marks j 0) ≡ among j is)

pub record CountLaws : Type 0 where
  pub unheld_count : (i : ℕ) (xs : List ℕ) → length (unheld_from i xs) + held_count xs ≡ length xs
  pub held-different : (is marks : List ℕ) → Says is marks → held_count marks ≡ different is

-- ---- a file that our writer wrote

pub record WrittenLaws : Type 0 where
  pub shape_written : (w : Input) → Lawful w → shape_wrong (size w) (blocks w) w.m w.s ≡ false
  -- where its chunks begin, and how long each is
  pub field_back : (w : Input) → Lawful w → length_field (file_of w) ≡ length (body w)
  pub length_written : (w : Input) → Lawful w → (i : ℕ) → length (chunk w i) ≡ 84 + w.s
  -- measuring finds each of them, whatever comes after it
  pub chunk-measured : (w : Input) → Lawful w → (i : ℕ) → i < blocks w + w.m → (rest : List ℕ)
      → (passes (measure_checks (head_for w) (chunk w i ++ rest)) ≡ true) × (chunk_length (chunk w i ++ rest) ≡ 84 + w.s)
  -- after some of them were offered just those are held
  pub received-marks : (w : Input) → Lawful w → (is : List ℕ) → AllBelow (blocks w + w.m) is → length is ≤ 4294967295
      → (length (received w is).marks ≡ blocks w + w.m)
      × ((j : ℕ) → j < blocks w + w.m → get_or (received w is).marks j 0 ≡ cond (among j is) 1 0)
