-- What is proved of turns and releases (document 02, [8]): statements, proved in proofs/give/TurnTheorems.antt. h is any head, y all
-- that is kept of a session; store, marks, scratch, numbers and output are any bytes, f and b any numbers.
use Rattle.std.specs.Prelude.{ℕ, suc, ◌+◌, ◌-◌, ◌*◌, ◌/◌, ◌≤◌, ◌<◌, min, ◌≡◌, ◌≢◌, ◌↔◌, false, List, [], ◌∷◌, length, get_or, Ok}
use Rattle.little.specs.Parts.{put}
use Rattle.little.specs.Runs.{zeros}
use Rattle.blake3.specs.Tree.{hash}
use Rattle.cauchy.specs.Code.{word_at, word_of}
use Rattle.cauchy.specs.Decode.{missing_data, decode}
use Rattle.cauchy.specs.Calls.{in_range}
use Rattle.sfc.specs.answer.Numbers.{number_of}
use Rattle.sfc.specs.answer.Places.{place, columns, complete}
use Rattle.sfc.specs.session.Marks.{held_count}
use Rattle.sfc.specs.session.Lent.{columns_wrong}
use Rattle.sfc.specs.session.Tallies.{sum}
use Rattle.sfc.specs.session.Session.{Session, verdict_of, after}
use Rattle.sfc.specs.session.History.{after_all}
use Rattle.sfc.specs.session.Offer.{Logged, logged, blank_logged, beside_wrong, restarts, offer_verdict, logged_after}
use Rattle.sfc.specs.give.HandOut.{hand_out}
use Rattle.sfc.specs.give.Turns.{gone, columns_left, Turning, turn, joined_of, release, Act, releasing, acted, acted_all, offers_in}
use Rattle.sfc.specs.declared.format.header.Head.{Head}
use Rattle.sfc.specs.declared.answer.reason.Reason.{Reason}
use Rattle.sfc.specs.declared.answer.places.BlockNumber.{BlockNumber}
use Rattle.sfc.specs.declared.answer.places.BytePlace.{BytePlace}
use Rattle.sfc.specs.declared.session.offer.Verdict.TheVariants.{Fresh, Repeat, Refused}

-- ---- the words of the theorems

-- word w of the l-th missing data block, by the definition of the code
abbrev pub missing_word : Head → List ℕ → List ℕ → ℕ → ℕ → ℕ
missing_word h store marks l w = word_at (decode h.n h.m h.s marks store (get_or (missing_data h.n marks) l 0)) (2 * w)

-- a turn that did k columns: their words are right, and every other byte of scratch is as it came, right or not
pub record DidColumns (h : Head) (store marks scratch : List ℕ) (f b k : ℕ) (z : Turning) : Type 0 where
  pub count : k ≡ min b (columns_left h.n h.s marks f)
  pub finished : z.finished ≡ f + k
  pub long : length z.scratch ≡ length scratch
  pub right : (l w : ℕ) → l < gone h.n marks → f ≤ w → w < f + k → word_of h.s z.scratch l w ≡ missing_word h store marks l w
  pub else_kept : (q : ℕ) → in_range h.s f k (gone h.n marks) q ≡ false → get_or z.scratch q 0 ≡ get_or scratch q 0
  pub numbers : z.numbers ≡ zeros 1024

-- the finished columns are those of the missing blocks, rising, and all else in scratch is zeros
pub record ColumnsRight (h : Head) (y : Logged) : Type 0 where
  pub most : y.finished ≤ h.s / 2
  pub enough : 0 < y.finished → h.n ≤ held_count y.session.marks
  pub long : length y.scratch ≡ h.m * h.s
  pub right : (l w : ℕ) → l < gone h.n y.session.marks → w < y.finished
      → word_of h.s y.scratch l w ≡ missing_word h y.session.store y.session.marks l w
  pub else_zeros : (q : ℕ) → in_range h.s 0 y.finished (gone h.n y.session.marks) q ≡ false → get_or y.scratch q 0 ≡ 0

-- turns of budget b alone, and between them offers that are neither fresh nor bar an index
abbrev pub GoingOn : Head → ℕ → Logged → List Act → Type 0
GoingOn h b y [] = Unit {0}
GoingOn h b y (Act.Offer c ∷ rest) = (restarts (offer_verdict h y c) ≡ false) × GoingOn h b (acted h y (Act.Offer c)) rest
GoingOn h b y (Act.Turn numbers budget ∷ rest) =
    (length numbers ≡ 1024) × (budget ≡ b) × GoingOn h b (acted h y (Act.Turn numbers budget)) rest
GoingOn h b y (Act.Release out ∷ rest) = ⊥

-- how many turns they are
unfoldable pub turns_in : List Act → ℕ
turns_in [] = 0
turns_in (Act.Offer c ∷ rest) = turns_in rest
turns_in (Act.Turn numbers budget ∷ rest) = suc (turns_in rest)
turns_in (Act.Release out ∷ rest) = turns_in rest

-- how many turns of budget b all columns want
abbrev pub turns_wanted : ℕ → ℕ → ℕ
turns_wanted s b = (s / 2 + (b - 1)) / b

-- a rebuild that can begin: nothing is finished, all is lent rightly, enough is held, and something is missing
pub record Ready (h : Head) (y : Logged) : Type 0 where
  pub right : columns_wrong h.size h.n h.m h.s y.session.store y.session.marks y.scratch y.finished ≡ false
  pub enough : h.n ≤ held_count y.session.marks
  pub some : 0 < gone h.n y.session.marks
  pub start : y.finished ≡ 0

-- after those acts: so many columns are finished, and none is left just from the wanted number of turns on
pub record Finished (h : Head) (b k : ℕ) (z : Logged) : Type 0 where
  pub count : z.finished ≡ min (k * b) (h.s / 2)
  pub none_left : (columns_left h.n h.s z.session.marks z.finished ≡ 0) ↔ (turns_wanted h.s b ≤ k)

-- what a release that says complete goes by
pub record Releasable (h : Head) (store marks scratch : List ℕ) (f : ℕ) (out : List ℕ) : Type 0 where
  pub right : columns_wrong h.size h.n h.m h.s store marks scratch f ≡ false
  pub room : h.size ≤ length out
  pub enough : h.n ≤ held_count marks
  pub none_left : columns_left h.n h.s marks f ≡ 0
  pub has_hash : hash (joined_of h store marks scratch) ≡ h.hash

-- turns of these budgets
unfoldable pub turns_of : List ℕ → List Act
turns_of [] = []
turns_of (b ∷ bs) = Act.Turn (zeros 1024) b ∷ turns_of bs

-- turns of these budgets from the first column on, over any scratch, and then a release: what is kept before it
abbrev pub in_turns : Head → Session → List ℕ → List ℕ → Logged
in_turns h x scratch budgets = acted_all h (logged x scratch 0) (turns_of budgets)

-- a release over y answers and gives what the hand-out does
pub record HandsOutAs (h : Head) (y : Logged) (out : List ℕ) : Type 0 where
  pub answer : (releasing h y out).answer ≡ (hand_out h y.session.store y.session.marks out).answer
  pub output : (releasing h y out).output ≡ (hand_out h y.session.store y.session.marks out).output

-- z begins its rebuild anew; z goes on with that of y
pub record Anew (y z : Logged) : Type 0 where
  pub scratch : z.scratch ≡ zeros (length y.scratch)
  pub finished : z.finished ≡ 0

pub record AsBefore (y z : Logged) : Type 0 where
  pub scratch : z.scratch ≡ y.scratch
  pub finished : z.finished ≡ y.finished

-- an offer to a session is one to the session inside
pub record OwnOffer (h : Head) (y : Logged) (c : List ℕ) : Type 0 where
  pub verdict : offer_verdict h y c ≡ verdict_of h y.session c
  pub session : (logged_after h y c).session ≡ after h y.session c
  pub beside : beside_wrong h (logged_after h y c) ≡ false

-- ---- the theorems

-- a fresh chunk and 41 begin the rebuild anew; no other offer touches it
pub record Restart : Type 0 where
  pub fresh : (h : Head) (y : Logged) (c : List ℕ) (i : BlockNumber) (p : BytePlace) → offer_verdict h y c ≡ Fresh i p → Anew y (logged_after h y c)
  pub barring : (h : Head) (y : Logged) (c : List ℕ) (r : Reason) → offer_verdict h y c ≡ Refused r → number_of r ≡ 41 → Anew y (logged_after h y c)
  pub repeat : (h : Head) (y : Logged) (c : List ℕ) (i : BlockNumber) (p : BytePlace) → offer_verdict h y c ≡ Repeat i p → AsBefore y (logged_after h y c)
  pub refused : (h : Head) (y : Logged) (c : List ℕ) (r : Reason) → offer_verdict h y c ≡ Refused r → number_of r ≢ 41 → AsBefore y (logged_after h y c)

pub record InTurns : Type 0 where
  -- A turn does the smaller of budget and columns left, and finishes just so many more.
  pub turn-counts : (h : Head) (store marks scratch numbers : List ℕ) (f b k : ℕ) → (turn h store marks scratch numbers f b).answer ≡ Ok (columns k)
      → DidColumns h store marks scratch f b k (turn h store marks scratch numbers f b)
  -- Whatever was offered, rebuilt and released in a session that began blank, its finished columns are right.
  pub columns_right : (h : Head) (acts : List Act) → ColumnsRight h (acted_all h (blank_logged h) acts)
  -- With no fresh chunk and none that bars meanwhile, all columns are finished after the wanted number of turns, and not before; with
  -- no data block missing none is left at any count.
  pub turns_enough : (h : Head) (y : Logged) (b : ℕ) (acts : List Act) → Ready h y → 1 ≤ b → GoingOn h b y acts
      → Finished h b (turns_in acts) (acted_all h y acts)
  pub at_once : (n s : ℕ) (marks : List ℕ) (f : ℕ) → gone n marks ≡ 0 → columns_left n s marks f ≡ 0
  -- A release says complete just where nothing is in the way, for any scratch and any count, forged ones too; what it then gives is what
  -- it judged.
  pub release_judges : (h : Head) (store marks scratch : List ℕ) (f : ℕ) (out : List ℕ)
      → ((release h store marks scratch f out).answer ≡ Ok (complete (place h.size))) ↔ Releasable h store marks scratch f out
  pub release_gives : (h : Head) (store marks scratch : List ℕ) (f : ℕ) (out : List ℕ) (p : BytePlace)
      → (release h store marks scratch f out).answer ≡ Ok (complete p)
      → (p ≡ place h.size) × ((release h store marks scratch f out).output ≡ put out 0 (joined_of h store marks scratch))
  -- Turns from the first column on over any scratch, with budgets for all columns, and then a release: the hand-out. And so is a release
  -- after any history of a session, where no column is left that could be rebuilt.
  pub pair_is_hand_out : (h : Head) (x : Session) (scratch budgets out : List ℕ) → length scratch ≡ h.m * h.s → h.s / 2 ≤ sum budgets
      → HandsOutAs h (in_turns h x scratch budgets) out
  pub history_is_hand_out : (h : Head) (acts : List Act) (y : Logged) → y ≡ acted_all h (blank_logged h) acts
      → (h.n ≤ held_count y.session.marks → columns_left h.n h.s y.session.marks y.finished ≡ 0)
      → (out : List ℕ) → HandsOutAs h y out
  pub restart : Restart
  -- Neither what was rebuilt nor turns and releases have a say in the session: it is that of the chunks alone, so all that is proved of
  -- sessions holds inside.
  pub own_offer : (h : Head) (y : Logged) (c : List ℕ) → beside_wrong h y ≡ false → OwnOffer h y c
  pub same-session : (h : Head) (y : Logged) (acts : List Act) → beside_wrong h y ≡ false
      → (acted_all h y acts).session ≡ after_all h y.session (offers_in acts)
