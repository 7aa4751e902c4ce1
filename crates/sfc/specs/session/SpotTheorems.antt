-- What is proved of the place where a chunk broke (document 02, [4]), whichever of the two calls gives it: the table by number,
-- that a wrong byte is the first, that the place lies in the chunk, and which numbers have none. Statements, proved in
-- proofs/session/SpotTheorems.antt.
use Rattle.std.specs.Prelude.{ℕ, ◌+◌, ◌<◌, ◌≡◌, ◌⊎◌, ◌≢◌, ◌↔◌, List, [], ◌∷◌, length, get_or, Option, None, Err}
use Rattle.little.specs.Fields.{bytes_of}
use Rattle.little.specs.Runs.{zeros}
use Rattle.sfc.specs.answer.Numbers.{number_of, reason_of}
use Rattle.sfc.specs.format.Chunk.{chunk_magic, end_marker, index_of, payload_length, chunk_length, type_for}
use Rattle.sfc.specs.format.Spot.{spot_at, first_other, check_chunk}
use Rattle.sfc.specs.session.Offer.{Logged, offered}
use Rattle.sfc.specs.declared.format.header.Head.{Head}
use Rattle.sfc.specs.declared.answer.reason.Reason.{Reason}
use Rattle.sfc.specs.declared.answer.places.BlockNumber.{BlockNumber}
use Rattle.sfc.specs.declared.answer.places.BytePlace.{BytePlace}
use Rattle.sfc.specs.declared.session.offer.Verdict.TheVariants.{Fresh, Repeat, Refused}
use Rattle.sfc.specs.answer.Places.{broken}

-- the check of a chunk, or the offer of it to some session, refuses it by r and says where it broke
abbrev pub Gives : Head → List ℕ → Reason → Option BytePlace → Type 0
Gives h c r p =
    (check_chunk h c ≡ Err (broken r p)) ⊎ ((y : Logged) × ((offered h y c).verdict ≡ Refused r) × ((offered h y c).spot ≡ p))

-- of certain bytes that are wanted from `at` on, p is the first that is another: those before it stand
pub record FirstWrong (c : List ℕ) (at : ℕ) (wanted : List ℕ) (p : Option BytePlace) : Type 0 where
  pub which : ℕ
  pub here : p ≡ spot_at (at + which)
  pub inside : which < length wanted
  pub other : get_or c (at + which) 0 ≢ get_or wanted which 0
  pub before : (j : ℕ) → j < which → get_or c (at + j) 0 ≡ get_or wanted j 0

-- the table, a row for each number
pub record PlaceTable : Type 0 where
  pub of_30 : (h : Head) (c : List ℕ) (p : Option BytePlace) → Gives h c (reason_of 30) p → p ≡ spot_at (length c)
  pub of_31 : (h : Head) (c : List ℕ) (p : Option BytePlace) → Gives h c (reason_of 31) p → p ≡ first_other c 0 chunk_magic
  pub of_32 : (h : Head) (c : List ℕ) (p : Option BytePlace) → Gives h c (reason_of 32) p → p ≡ spot_at 28
  pub of_33 : (h : Head) (c : List ℕ) (p : Option BytePlace) → Gives h c (reason_of 33) p → p ≡ spot_at (48 + payload_length c)
  pub of_34 : (h : Head) (c : List ℕ) (p : Option BytePlace) → Gives h c (reason_of 34) p → p ≡ first_other c (80 + payload_length c) end_marker
  pub of_35 : (h : Head) (c : List ℕ) (p : Option BytePlace) → Gives h c (reason_of 35) p → p ≡ first_other c 4 h.uuid
  pub of_36 : (h : Head) (c : List ℕ) (p : Option BytePlace) → Gives h c (reason_of 36) p → p ≡ spot_at 20
  pub of_37 : (h : Head) (c : List ℕ) (p : Option BytePlace) → Gives h c (reason_of 37) p → p ≡ first_other c 24 (bytes_of 4 (type_for h.n (index_of c)))
  pub of_38 : (h : Head) (c : List ℕ) (p : Option BytePlace) → Gives h c (reason_of 38) p → p ≡ first_other c 34 (zeros 14)
  pub of_39 : (h : Head) (c : List ℕ) (p : Option BytePlace) → Gives h c (reason_of 39) p → p ≡ first_other c 32 (h.compression ∷ h.erasure ∷ [])
  pub of_40 : (h : Head) (c : List ℕ) (p : Option BytePlace) → Gives h c (reason_of 40) p → p ≡ first_other c 28 (bytes_of 4 h.s)
  pub of_41 : (h : Head) (c : List ℕ) (p : Option BytePlace) → Gives h c (reason_of 41) p → p ≡ spot_at 20
  pub of_42 : (h : Head) (c : List ℕ) (p : Option BytePlace) → Gives h c (reason_of 42) p → p ≡ spot_at 20
  -- 43 and 71, and they alone, have no place; nor has what is taken
  pub no_place : (h : Head) (c : List ℕ) (r : Reason) (p : Option BytePlace) → Gives h c r p
      → (p ≡ None) ↔ ((number_of r ≡ 43) ⊎ (number_of r ≡ 71))
  pub taken : (h : Head) (y : Logged) (c : List ℕ) (i : BlockNumber) (p : BytePlace)
      → ((offered h y c).verdict ≡ Fresh i p) ⊎ ((offered h y c).verdict ≡ Repeat i p) → (offered h y c).spot ≡ None
  -- a place of a byte lies in the chunk as its length field has it, and in the input; that of 30 is the input's end
  pub place_inside : (h : Head) → length h.uuid ≡ 16 → (c : List ℕ) (r : Reason) (q : ℕ) → number_of r ≢ 30 → Gives h c r (spot_at q)
      → (q < chunk_length c) × (q < length c)

-- where certain bytes are wanted, the place is that of the first wrong one, and of no other
pub record FirstWrongs : Type 0 where
  pub magic : (h : Head) (c : List ℕ) (p : Option BytePlace) → Gives h c (reason_of 31) p → FirstWrong c 0 chunk_magic p
  pub end_marker_lem : (h : Head) (c : List ℕ) (p : Option BytePlace) → Gives h c (reason_of 34) p → FirstWrong c (80 + payload_length c) end_marker p
  pub uuid : (h : Head) (c : List ℕ) (p : Option BytePlace) → Gives h c (reason_of 35) p → FirstWrong c 4 h.uuid p
  pub type : (h : Head) (c : List ℕ) (p : Option BytePlace) → Gives h c (reason_of 37) p → FirstWrong c 24 (bytes_of 4 (type_for h.n (index_of c))) p
  pub reserved : (h : Head) (c : List ℕ) (p : Option BytePlace) → Gives h c (reason_of 38) p → FirstWrong c 34 (zeros 14) p
  pub identifiers : (h : Head) (c : List ℕ) (p : Option BytePlace) → Gives h c (reason_of 39) p → FirstWrong c 32 (h.compression ∷ h.erasure ∷ []) p
  pub payload-length : (h : Head) (c : List ℕ) (p : Option BytePlace) → Gives h c (reason_of 40) p → FirstWrong c 28 (bytes_of 4 h.s) p
  pub just_one : (c : List ℕ) (at : ℕ) (wanted : List ℕ) (p q : Option BytePlace) → FirstWrong c at wanted p → FirstWrong c at wanted q → p ≡ q
