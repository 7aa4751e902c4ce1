-- What is proved of the session: statements. h is any head, x any session, c any bytes.
use Rattle.std.specs.Prelude.{ℕ, ◌+◌, ◌*◌, ◌≤◌, ◌<◌, ◌≡◌, ◌≢◌, Bool, true, false, cond, eqb, length, Err}
use mathlib.Core.List.{List, [], ◌∷◌, ◌++◌, Permᴰ}
use Rattle.little.specs.Runs.{zeros}
use Rattle.sfc.specs.answer.Numbers.{verdict, number_of}
use Rattle.sfc.specs.format.Chunk.{index_of, payload_of, chunk_checks}
use Rattle.sfc.specs.answer.Places.{number, place}
use Rattle.sfc.specs.session.Tallies.{total, tally_of, counted}
use Rattle.sfc.specs.session.Session.{Session, blank, mark, block_of, session_wrong, verdict_of, after}
use Rattle.sfc.specs.session.History.{after_all, verdicts, payloads_for, end_of}
use Rattle.sfc.specs.declared.format.header.Head.{Head}
use Rattle.sfc.specs.declared.answer.reason.Reason.{Reason}
use Rattle.sfc.specs.declared.session.offer.Verdict.{Verdict}
use Rattle.sfc.specs.declared.session.offer.Verdict.TheVariants.{Fresh, Repeat, Refused}

-- y has block b and mark k at i, and else what x has
pub record ChangesOne (h : Head) (x y : Session) (i : ℕ) (b : List ℕ) (k : ℕ) : Type 0 where
  pub inside : i < h.n + h.m
  pub new_mark : mark y i ≡ k
  pub new_block : block_of h y i ≡ b
  pub other-marks : (j : ℕ) → j ≢ i → mark y j ≡ mark x j
  pub other-blocks : (j : ℕ) → j < h.n + h.m → j ≢ i → block_of h y j ≡ block_of h x j
  pub store_length : length y.store ≡ length x.store
  pub marks-length : length y.marks ≡ length x.marks

pub record SameKept (x y : Session) : Type 0 where
  pub store : y.store ≡ x.store
  pub marks : y.marks ≡ x.marks

-- ---- one offer

pub record OneOffer : Type 0 where
  -- a fresh index becomes held, with the payload at its place; nothing else changes
  pub fresh_changes_one : (h : Head) (x : Session) (c : List ℕ) (i p : ℕ) → verdict_of h x c ≡ Fresh (number i) (place p)
      → (i ≡ index_of c) × (p ≡ i * h.s) × (mark x i ≡ 0) × ChangesOne h x (after h x c) i (payload_of c) 1
  -- a repeat is a copy of what is held, byte for byte
  pub repeat_changes_nothing : (h : Head) (x : Session) (c : List ℕ) (i p : ℕ) → verdict_of h x c ≡ Repeat (number i) (place p)
      → (i ≡ index_of c) × (p ≡ i * h.s) × (mark x i ≡ 1) × (block_of h x i ≡ payload_of c) × SameKept x (after h x c)
  -- a refusal by another number than 41 changes neither store nor marks
  pub refused_changes_nothing : (h : Head) (x : Session) (c : List ℕ) (r : Reason) → verdict_of h x c ≡ Refused r → number_of r ≢ 41
      → SameKept x (after h x c)
  -- 41 answers a copy that differs: the index is barred and its block zeros; nothing else changes
  pub barring_changes_one : (h : Head) (x : Session) (c : List ℕ) (r : Reason) → verdict_of h x c ≡ Refused r → number_of r ≡ 41
      → (mark x (index_of c) ≡ 1) × (block_of h x (index_of c) ≢ payload_of c) × ChangesOne h x (after h x c) (index_of c) (zeros h.s) 2
  -- what is lent rightly stays so
  pub lent_stays : (h : Head) (x : Session) (c : List ℕ) → session_wrong h x ≡ false → session_wrong h (after h x c) ≡ false

-- ---- many offers

-- k offers are all answered before 43 is reached
abbrev pub ShortOf43 : Session → ℕ → Type 0
ShortOf43 x k = total x.tallies + k ≤ 4294967295

pub record ManyOffers : Type 0 where
  -- one collection of chunks comes to the same marks and store in any order
  pub order_free : (h : Head) (x : Session) (cs ds : List (List ℕ)) → Permᴰ cs ds → ShortOf43 x (length cs)
      → SameKept (after_all h x cs) (after_all h x ds)
  -- a chunk refused by 30 to 40, put in anywhere, changes only its own tally
  pub foreign_removable : (h : Head) (x : Session) (cs ds : List (List ℕ)) (c : List ℕ) (r : Reason) → verdict (chunk_checks h c) ≡ Err r
      → session_wrong h x ≡ false → ShortOf43 x (length (cs ++ (c ∷ ds)))
      → SameKept (after_all h x (cs ++ ds)) (after_all h x (cs ++ (c ∷ ds)))
      × ((after_all h x (cs ++ (c ∷ ds))).tallies ≡ counted (after_all h x (cs ++ ds)).tallies (Refused r))

-- what each index comes to is told by what came for it: absent, held or barred
abbrev pub EndState : Type 0
EndState = (h : Head) (cs : List (List ℕ)) (i : ℕ) → session_wrong h (blank h) ≡ false → ShortOf43 (blank h) (length cs) → i < h.n + h.m
    → ◌≡◌ {A = List ℕ × ℕ} (block_of h (after_all h (blank h) cs) i, mark (after_all h (blank h) cs) i) (end_of h.s (payloads_for h i cs))

-- ---- tallies

abbrev pub is_fresh : Verdict → Bool
is_fresh (Fresh i p) = true
is_fresh (Repeat i p) = false
is_fresh (Refused r) = false

abbrev pub is_repeat : Verdict → Bool
is_repeat (Fresh i p) = false
is_repeat (Repeat i p) = true
is_repeat (Refused r) = false

abbrev pub is_refusal : ℕ → Verdict → Bool
is_refusal k (Fresh i p) = false
is_refusal k (Repeat i p) = false
is_refusal k (Refused r) = eqb (number_of r) k

-- of how many verdicts it holds
unfoldable pub count : (Verdict → Bool) → List Verdict → ℕ
count p [] = 0
count p (v ∷ vs) = cond (p v) 1 0 + count p vs

-- the tallies are the counts over the history
pub record TalliesCount : Type 0 where
  pub fresh : (h : Head) (cs : List (List ℕ)) → (after_all h (blank h) cs).tallies.fresh ≡ count is_fresh (verdicts h (blank h) cs)
  pub repeat : (h : Head) (cs : List (List ℕ)) → (after_all h (blank h) cs).tallies.repeat ≡ count is_repeat (verdicts h (blank h) cs)
  pub refused : (h : Head) (cs : List (List ℕ)) (k : ℕ) → 30 ≤ k → k ≤ 42
      → tally_of (after_all h (blank h) cs).tallies k ≡ count (is_refusal k) (verdicts h (blank h) cs)
  -- and an offer gets no other number than these, 71 and 43
  pub numbers : (h : Head) (x : Session) (c : List ℕ) (r : Reason) → verdict_of h x c ≡ Refused r → number_of r ≢ 71 → number_of r ≢ 43
      → (30 ≤ number_of r) × (number_of r ≤ 42)
