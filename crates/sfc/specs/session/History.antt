-- A history of offers (document 01, "Marks, hand-out, prefix"). Assumes nothing: these are definitions.
use Rattle.std.specs.Prelude.{ℕ, Bool, true, cond, ◌&&◌, List, [], ◌∷◌, eqb}
use Rattle.little.specs.Runs.{zeros, same}
use Rattle.sfc.specs.answer.Numbers.{passes}
use Rattle.sfc.specs.format.Chunk.{index_of, payload_of, chunk_checks}
use Rattle.sfc.specs.session.Session.{Session, verdict_of, after}
use Rattle.sfc.specs.declared.format.header.Head.{Head}
use Rattle.sfc.specs.declared.session.offer.Verdict.{Verdict}

-- the session after the chunks of a history were offered, the first first
unfoldable pub after_all : Head → Session → List (List ℕ) → Session
after_all h x [] = x
after_all h x (c ∷ cs) = after_all h (after h x c) cs

-- what each offer answered
unfoldable pub verdicts : Head → Session → List (List ℕ) → List Verdict
verdicts h x [] = []
verdicts h x (c ∷ cs) = verdict_of h x c ∷ verdicts h (after h x c) cs

-- ---- what an index comes to, in a session that starts blank

-- the payloads that came for index i, in chunks that pass 30 to 40
unfoldable pub payloads_for : Head → ℕ → List (List ℕ) → List (List ℕ)
payloads_for h i [] = []
payloads_for h i (c ∷ cs) =
    cond (passes (chunk_checks h c) && eqb (index_of c) i) (payload_of c ∷ payloads_for h i cs) (payloads_for h i cs)

unfoldable pub all_same : List ℕ → List (List ℕ) → Bool
all_same p [] = true
all_same p (q ∷ qs) = same p q && all_same p qs

-- its block and its mark then: absent if none came, held if all that came are one payload, else barred, and zeros
unfoldable pub end_of : ℕ → List (List ℕ) → List ℕ × ℕ
end_of s [] = (zeros s, 0)
end_of s (p ∷ ps) = cond (all_same p ps) (p, 1) (zeros s, 2)
