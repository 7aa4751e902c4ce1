-- What is proved of the walk: statements, of any head and any bytes. Proved in proofs/WalkTheorems.antt.
use Rattle.std.specs.Prelude.{ℕ, ◌+◌, ◌-◌, ◌<◌, ◌≤◌, ◌≡◌, ◌≢◌, Bool, true, false, ◌&&◌, List, [], ◌∷◌, ◌++◌, leb, length, take, drop, Some, None}
use Rattle.sfc.specs.answer.Numbers.{passes, number_of}
use Rattle.sfc.specs.format.Chunk.{chunk_length, measure_checks}
use Rattle.sfc.specs.session.Tallies.{total}
use Rattle.sfc.specs.session.Session.{Session, session_wrong, verdict_of}
use Rattle.sfc.specs.session.History.{after_all, verdicts}
use Rattle.sfc.specs.session.Offer.{Logged, beside_wrong}
use Rattle.sfc.specs.declared.format.header.Head.{Head}
use Rattle.sfc.specs.declared.answer.reason.Reason.{Reason}
use Rattle.sfc.specs.declared.session.offer.Verdict.{Verdict}
use Rattle.sfc.specs.declared.session.offer.Verdict.TheVariants.{Fresh, Repeat, Refused}
use Rattle.sfc_walk.specs.Walk.{front_length, some_length, chunks_in, chunks_of, length_of_all, walk_over}

unfoldable pub concat : List (List ℕ) → List ℕ
concat [] = []
concat (c ∷ cs) = c ++ concat cs

-- an answer after which the next chunk is offered
abbrev pub stepped_over : Verdict → Bool
stepped_over (Fresh i p) = true
stepped_over (Repeat i p) = true
stepped_over (Refused r) = leb 33 (number_of r) && leb (number_of r) 42

unfoldable pub each : (Verdict → Bool) → List Verdict → Bool
each test [] = true
each test (v ∷ vs) = test v && each test vs

pub record WalkTheorems : Type 0 where
  -- The bound means nothing: from the bytes' own length on, a larger one changes nothing.
  pub bound_enough : (most : ℕ) (h : Head) (b : List ℕ) → length b ≤ most → chunks_in most h b ≡ chunks_of h b
  -- The chunks are the front of the bytes, cut where each of them ends.
  pub chunks-joined : (h : Head) (b : List ℕ) → concat (chunks_of h b) ≡ take (length_of_all (chunks_of h b)) b
  pub end_inside : (h : Head) (b : List ℕ) → length_of_all (chunks_of h b) ≤ length b
  pub chunks-few : (h : Head) (b : List ℕ) → length (chunks_of h b) ≤ length b
  -- The walk ends exactly where measuring refuses, by 71, 30, 31 or 32; where nothing is left that is 30.
  pub walk_stops : (h : Head) (b : List ℕ) → passes (measure_checks h (drop (length_of_all (chunks_of h b)) b)) ≡ false
  -- One step: where measuring refuses there is no chunk; else the one at the front, and then those after it.
  pub no_chunk : (h : Head) (b : List ℕ) (most : ℕ) → passes (measure_checks h b) ≡ false → chunks_in most h b ≡ []
  pub next_chunk : (h : Head) (b : List ℕ) (most : ℕ) → 0 < most → passes (measure_checks h b) ≡ true
      → chunks_in most h b ≡ take (chunk_length b) b ∷ chunks_in (most - 1) h (drop (chunk_length b) b)
  -- The same step by the length at the front: where it is 0 there is no chunk; else the first is so long, 84 bytes
  -- at least, and the others are those of the bytes after it.
  pub front_none : (h : Head) (b : List ℕ) → front_length h b ≡ 0 → chunks_of h b ≡ []
  pub front_next : (h : Head) (b : List ℕ) → front_length h b ≢ 0
      → (chunks_of h b ≡ take (front_length h b) b ∷ chunks_of h (drop (front_length h b) b))
      × (84 ≤ front_length h b) × (front_length h b ≤ length b)
  -- And by what it answers.
  pub none_found : (h : Head) (b : List ℕ) → some_length (front_length h b) ≡ None → chunks_of h b ≡ []
  pub next_found : (h : Head) (b : List ℕ) (k : ℕ) → some_length (front_length h b) ≡ Some k
      → (chunks_of h b ≡ take k b ∷ chunks_of h (drop k b)) × (84 ≤ k) × (k ≤ length b)
  -- Where 71 has nothing against the session, and short of 43, each chunk is answered fresh, repeat or 33 to 42, and what is left
  -- after the last of them, be it nothing, would be refused by 30, 31 or 32.
  pub chunks-answered : (h : Head) (x : Session) (b : List ℕ) → session_wrong h x ≡ false → total x.tallies + length b < 4294967295
      → each stepped_over (verdicts h x (chunks_of h b)) ≡ true
  pub end-answered : (h : Head) (x : Session) (b : List ℕ) → session_wrong h x ≡ false → total x.tallies + length b < 4294967295
      → (r : Reason)
      × (verdict_of h (after_all h x (chunks_of h b)) (drop (length_of_all (chunks_of h b)) b) ≡ Refused r)
      × (30 ≤ number_of r) × (number_of r ≤ 32)
  -- Where 71 has nothing against what was rebuilt, that has no say in the session: it is the one after the chunks, offered in order.
  pub walk_session : (h : Head) (y : Logged) (b : List ℕ) → beside_wrong h y ≡ false
      → (walk_over h y b).kept.session ≡ after_all h y.session (chunks_of h b)
