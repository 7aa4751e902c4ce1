-- The session: what a chunk that is offered is told, and what it makes of store, marks and tallies (document 01, "Marks, hand-out,
-- prefix"; document 02, [4]). Assumes nothing: these are definitions.
use Rattle.std.specs.Prelude.{ℕ, ◌+◌, ◌*◌, Bool, cond, not, ◌&&◌, List, [], ◌∷◌, ◌++◌, eqb, get_or, set, Option, None}
use Rattle.little.specs.Parts.{block, put_block}
use Rattle.little.specs.Runs.{zeros, same}
use Rattle.sfc.specs.answer.Numbers.{Check, checked, number_of}
use Rattle.sfc.specs.session.Lent.{lent_wrong}
use Rattle.sfc.specs.format.Chunk.{index_of, payload_of, chunk_checks}
use Rattle.sfc.specs.format.Spot.{spot_for}
use Rattle.sfc.specs.answer.Places.{number, place}
use Rattle.sfc.specs.session.Tallies.{no_tallies, tally_full, counted}
use Rattle.sfc.specs.declared.format.header.Head.{Head}
use Rattle.sfc.specs.declared.session.tallies.Tallies.{Tallies}
use Rattle.sfc.specs.declared.session.offer.Verdict.{Verdict}
use Rattle.sfc.specs.declared.session.offer.Verdict.TheVariants.{Fresh, Repeat, Refused}
use Rattle.sfc.specs.declared.answer.places.BytePlace.{BytePlace}

-- what a session keeps: the lent store and marks, and the tallies
pub record Session : Type 0 where
  pub store : List ℕ
  pub marks : List ℕ
  pub tallies : Tallies

abbrev pub session_of : List ℕ → List ℕ → Tallies → Session
session_of store marks tallies = record { store = store; marks = marks; tallies = tallies }

-- as it starts
abbrev pub blank : Head → Session
blank h = session_of (zeros ((h.n + h.m) * h.s)) (zeros (h.n + h.m)) no_tallies

abbrev pub mark : Session → ℕ → ℕ
mark x i = get_or x.marks i 0

-- block i of the store
abbrev pub block_of : Head → Session → ℕ → List ℕ
block_of h x i = block h.s x.store i

-- 71, of a head and a session
abbrev pub session_wrong : Head → Session → Bool
session_wrong h x = lent_wrong h.size h.n h.m h.s x.store x.marks

-- 42 and 41: the index is barred; it is held, with another payload
abbrev pub mark_checks : Head → Session → List ℕ → List Check
mark_checks h x c =
    (eqb (mark x (index_of c)) 2, 42)
    ∷ (eqb (mark x (index_of c)) 1 && not (same (block_of h x (index_of c)) (payload_of c)), 41)
    ∷ []

-- all checks of an offer, in order
abbrev pub offer_checks : Head → Session → List ℕ → List Check
offer_checks h x c = (session_wrong h x, 71) ∷ (tally_full x.tallies, 43) ∷ (chunk_checks h c ++ mark_checks h x c)

-- past all checks an absent index is fresh, and a held one a repeat; the place is the block's in the store
abbrev pub welcomed : Head → Session → List ℕ → Verdict
welcomed h x c =
    cond (eqb (mark x (index_of c)) 0)
    (Fresh (number (index_of c)) (place (index_of c * h.s)))
    (Repeat (number (index_of c)) (place (index_of c * h.s)))

unfoldable pub verdict_of : Head → Session → List ℕ → Verdict
verdict_of h x c = checked (offer_checks h x c) Refused (welcomed h x c)

-- a session with another block and mark at i
abbrev pub with_block : Head → Session → ℕ → List ℕ → ℕ → Session
with_block h x i b k = session_of (put_block h.s x.store i b) (set x.marks i k) x.tallies

-- what a verdict does to store and marks: a fresh payload is laid down and its index held; 41 bars the index and clears its
-- block; nothing else changes anything
unfoldable pub settled : Head → Session → List ℕ → Verdict → Session
settled h x c (Fresh i p) = with_block h x (index_of c) (payload_of c) 1
settled h x c (Repeat i p) = x
settled h x c (Refused r) = cond (eqb (number_of r) 41) (with_block h x (index_of c) (zeros h.s) 2) x

abbrev pub tallied : Session → Verdict → Session
tallied x v = session_of x.store x.marks (counted x.tallies v)

-- the session after a verdict, and after an offer
abbrev pub after_verdict : Head → Session → List ℕ → Verdict → Session
after_verdict h x c v = tallied (settled h x c v) v

unfoldable pub after : Head → Session → List ℕ → Session
after h x c = after_verdict h x c (verdict_of h x c)

-- where the chunk broke: what is fresh or a repeat broke nowhere
unfoldable pub spot_of : Head → List ℕ → Verdict → Option BytePlace
spot_of h c (Fresh i p) = None
spot_of h c (Repeat i p) = None
spot_of h c (Refused r) = spot_for h c (number_of r)
