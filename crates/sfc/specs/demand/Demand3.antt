-- Demand 3 of the minutes: no receiver could honestly give more. Statements, proved in proofs/demand/Demand3.antt. They are about the
-- calls' own definitions and about the writer's code (`code_block`): a list of N blocks fits if its code has, at each held
-- index, what the store has there. Padding fits like any other bytes, and no hash has a say in it.
use Rattle.std.specs.Prelude.{ℕ, ◌+◌, ◌*◌, ◌/◌, ◌≤◌, ◌<◌, ◌≡◌, ◌↔◌, true, false, cond, List, [], ◌∷◌, length, take, Result, Ok, Err}
use Rattle.little.specs.Fields.{Bytes}
use Rattle.little.specs.Parts.{put, block}
use Rattle.blake3.specs.Tree.{hash}
use Rattle.cauchy.specs.Code.{Blocks, Held, Fits}
use Rattle.cauchy.specs.Decode.{used_marks}
use Rattle.little.specs.Runs.{zeros, same, among, rising_from}
use Rattle.sfc.specs.answer.Numbers.{reason_of, Answered}
use Rattle.sfc.specs.format.Header.{read_header}
use Rattle.sfc.specs.answer.Places.{number, place, complete, unverified_block}
use Rattle.sfc.specs.session.Marks.{held_count}
use Rattle.sfc.specs.session.Session.{Session, blank, block_of, session_wrong}
use Rattle.sfc.specs.session.History.{after_all}
use Rattle.sfc.specs.give.Prefix.{prefix_given}
use Rattle.sfc.specs.session.Tallies.{sum}
use Rattle.sfc.specs.give.HandOut.{Rebuilding, lent_after}
use Rattle.sfc.specs.give.Turns.{turn, Releasing, releasing_of, release, releasing}
use Rattle.sfc.specs.give.TurnTheorems.{in_turns}
use Rattle.sfc.specs.session.Lent.{Lent, rebuild_wrong}
use Rattle.sfc.specs.give.Block.{block_request}
use Rattle.sfc.specs.note.Missing.{missing, list_missing}
use Rattle.sfc.specs.session.SessionTheorems.{OneOffer, ManyOffers, EndState, TalliesCount}
use Rattle.sfc.specs.declared.format.header.Head.{Head}
use Rattle.sfc.specs.declared.answer.places.BytePlace.{BytePlace}
use Rattle.sfc.specs.declared.answer.reason.Reason.{Reason}
use Rattle.sfc.specs.declared.give.block.UnverifiedBlock.{UnverifiedBlock}

-- ---- the words of the demand

-- a session that 71 does not refuse, over a store of bytes; each session of an accepted header is one (`accepted_right`)
pub record Right (h : Head) (x : Session) : Type 0 where
  pub lent : session_wrong h x ≡ false
  pub bytes : Bytes x.store

-- chunks of bytes
abbrev pub AllBytes : List (List ℕ) → Type 0
AllBytes [] = Unit {0}
AllBytes (c ∷ cs) = Bytes c × AllBytes cs

-- V
abbrev pub held_in : Session → ℕ
held_in x = held_count x.marks

-- a list of N blocks that could be the file's, as far as what is held tells
pub record Fitting (h : Head) (x : Session) (d : List ℕ) : Type 0 where
  pub blocks : Blocks h.n h.s d
  pub fits : Fits h.n h.m h.s x.marks x.store d

-- what is lent is right, and the output has room for `bytes` bytes
pub record Room (h : Head) (x : Session) (l : Lent) (bytes : ℕ) : Type 0 where
  pub right : rebuild_wrong h x.store x.marks l ≡ false
  pub long : bytes ≤ length l.output

-- a request for data block j gives the bytes b, labelled unverified, and nothing past them
abbrev pub Gives : Head → Session → ℕ → List ℕ → Type 0
Gives h x j b = (l : Lent) → Room h x l h.s
    → ◌≡◌ {A = Rebuilding (Result UnverifiedBlock Reason)} (block_request h x.store x.marks j l)
    (record { answer = Ok (unverified_block (number j) (place (j * h.s))); lent = lent_after true l (put l.output 0 b) })

-- a request for data block j is refused by 50, and the output is as it was
abbrev pub Withholds : Head → Session → ℕ → Type 0
Withholds h x j = (l : Lent) → Room h x l h.s
    → ◌≡◌ {A = Rebuilding (Result UnverifiedBlock Reason)} (block_request h x.store x.marks j l)
    (record { answer = Err (reason_of 50); lent = lent_after true l l.output })

-- turns over any scratch, of budgets for all columns, and a release: it gives the first `size` bytes of d, and says complete, if they
-- have the header's hash; if not, it refuses by 51
abbrev pub HandsOut : Head → Session → List ℕ → Type 0
HandsOut h x d = (scratch budgets out : List ℕ) → length scratch ≡ h.m * h.s → h.s / 2 ≤ sum budgets → h.size ≤ length out
    → ◌≡◌ {A = Releasing} (releasing h (in_turns h x scratch budgets) out)
    (cond (same (hash (take h.size d)) h.hash)
    (releasing_of (Ok (complete (place h.size))) 0 (zeros (h.m * h.s)) (put out 0 (take h.size d)))
    (releasing_of (Err (reason_of 51)) 0 (zeros (h.m * h.s)) out))

-- data block j is one that nobody could know: too few are held, and it is not
pub record Open (h : Head) (x : Session) (j : ℕ) : Type 0 where
  pub is_data : j < h.n
  pub few : held_in x < h.n
  pub unheld : ¬ (Held x.marks j)

-- each string of S bytes at j is that of some list that fits
abbrev pub Free : Head → Session → ℕ → Type 0
Free h x j = (v : List ℕ) → length v ≡ h.s → Bytes v → (d : List ℕ) × Fitting h x d × (block h.s d j ≡ v)

-- the session y has the marks of x, and its blocks wherever x holds one
pub record SameHeld (h : Head) (x y : Session) : Type 0 where
  pub marks : y.marks ≡ x.marks
  pub store_long : length y.store ≡ length x.store
  pub blocks : (i : ℕ) → i < h.n + h.m → Held x.marks i → block_of h y i ≡ block_of h x i

-- d has what a rebuild or a block request used: the held data blocks and, of the recovery blocks, as many as data blocks
-- are missing, the lowest held
pub record Used (h : Head) (x : Session) (d : List ℕ) : Type 0 where
  pub blocks : Blocks h.n h.s d
  pub fits : Fits h.n h.m h.s (used_marks h.n x.marks) x.store d

-- complete is said only of bytes that have the header's hash, whatever scratch and count are: they stand in the output, as many as
-- the header's size says
abbrev pub CompleteHasHash : Type 0
CompleteHasHash =
    (h : Head) (store marks scratch : List ℕ) (f : ℕ) (out : List ℕ) (p : BytePlace) → (release h store marks scratch f out).answer ≡ Ok (complete p)
    → (p ≡ place h.size) × (h.size ≤ length out) × (hash (take h.size (release h store marks scratch f out).output) ≡ h.hash)

-- ---- the demand

pub record Demand3 : Type 0 where
  -- The demand begins with an accepted header and chunks: whatever chunks were offered under it, what follows applies.
  pub accepted_right : (b : List ℕ) (h : Head) → read_header b ≡ Ok h → (cs : List (List ℕ)) → AllBytes cs
      → Right h (after_all h (blank h) cs)
  -- And what is held is what came: each index ends absent, held or barred by the payloads that were offered for it, in any order;
  -- one offer changes no other index; the tallies count the verdicts.
  pub end-state : EndState
  pub one_offer : OneOffer
  pub many_offers : ManyOffers
  pub tallies_count : TalliesCount
  -- With N or more held, a request for any data block is answered, and what it gives is that block of every list that fits.
  pub block_known : (h : Head) (x : Session) → Right h x → h.n ≤ held_in x → (d : List ℕ) → Fitting h x d
      → (j : ℕ) → j < h.n → Gives h x j (block h.s d j)
  -- However few are held, a held data block is given as it is held.
  pub block_held : (h : Head) (x : Session) → Right h x → (j : ℕ) → j < h.n → Held x.marks j → Gives h x j (block_of h x j)
  -- With fewer than N held no other data block is given, and rightly: any S bytes whatever could stand there.
  pub block_free : (h : Head) (x : Session) → Right h x → (j : ℕ) → Open h x j → Withholds h x j × Free h x j
  -- The missing list has those others and no more, rising, so that none comes twice; it is what the call gives.
  pub missing_exact : (h : Head) (x : Session) → Right h x
      → (rising_from 0 (missing h.n x.marks) ≡ true) × ((j : ℕ) → (among j (missing h.n x.marks) ≡ true) ↔ Open h x j)
  pub missing-given : (h : Head) (x : Session) → Right h x → (out : List ℕ) → length (missing h.n x.marks) ≤ length out
      → ◌≡◌ {A = Answered (Result ℕ Reason)} (list_missing h x.marks out)
      (record { answer = Ok (length (missing h.n x.marks)); output = put out 0 (missing h.n x.marks) })
  -- Beside the demand: turns and a release give the same data, and complete is said only of bytes that have the header's hash.
  pub content_known : (h : Head) (x : Session) → Right h x → h.n ≤ held_in x → (d : List ℕ) → Fitting h x d → HandsOut h x d
  pub complete_has_hash : CompleteHasHash
  -- Up to N held, some list fits. With more, and one of them forged, none may: what is given is then the one list that has
  -- all that was used.
  pub some_fits : (h : Head) (x : Session) → Right h x → held_in x ≤ h.n → (d : List ℕ) × Fitting h x d
  pub used_given : (h : Head) (x : Session) → Right h x → h.n ≤ held_in x
      → (d : List ℕ) × Used h x d × ((j : ℕ) → j < h.n → Gives h x j (block h.s d j)) × HandsOut h x d × ((e : List ℕ) → Used h x e → e ≡ d)
  -- And never is absence taken for bytes: whatever lies in the store where nothing is held, no answer depends on it.
  pub absent_unseen : (h : Head) (x y : Session) → SameHeld h x y
      → ((l : Lent) (j : ℕ) → block_request h y.store y.marks j l ≡ block_request h x.store x.marks j l)
      × ((scratch numbers : List ℕ) (f b : ℕ) → turn h y.store y.marks scratch numbers f b ≡ turn h x.store x.marks scratch numbers f b)
      × ((scratch : List ℕ) (f : ℕ) (out : List ℕ) → release h y.store y.marks scratch f out ≡ release h x.store x.marks scratch f out)
      × ((out : List ℕ) → prefix_given h y.store y.marks out ≡ prefix_given h x.store x.marks out)
