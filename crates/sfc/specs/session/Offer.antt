-- The offer (document 01, "Marks, hand-out, prefix"; document 02, [4] and [8]): what is kept beside a session, and what a chunk
-- that is offered makes of all of it. Past the first test the verdict is the session's own, and the rest follows from it.
-- Assumes nothing: these are definitions.
use Rattle.std.specs.Prelude.{ℕ, ◌*◌, Bool, true, false, cond, List, [], ◌∷◌, eqb, length, Option}
use Rattle.little.specs.Runs.{zeros}
use Rattle.sfc.specs.answer.Numbers.{Check, checked, number_of}
use Rattle.sfc.specs.session.Lent.{rebuilding_wrong}
use Rattle.sfc.specs.session.Session.{Session, session_of, blank, offer_checks, verdict_of, after_verdict, spot_of}
use Rattle.sfc.specs.declared.format.header.Head.{Head}
use Rattle.sfc.specs.declared.session.tallies.Tallies.{Tallies}
use Rattle.sfc.specs.declared.session.offer.Verdict.{Verdict}
use Rattle.sfc.specs.declared.session.offer.Verdict.TheVariants.{Fresh, Repeat, Refused}
use Rattle.sfc.specs.declared.answer.places.BytePlace.{BytePlace}

-- a session, the scratch into which its missing blocks are rebuilt, and how many word columns of them are finished
pub record Logged : Type 0 where
  pub session : Session
  pub scratch : List ℕ
  pub finished : ℕ

abbrev pub logged : Session → List ℕ → ℕ → Logged
logged x scratch finished = record { session = x; scratch = scratch; finished = finished }

-- as it starts
abbrev pub blank_logged : Head → Logged
blank_logged h = logged (blank h) (zeros (h.m * h.s)) 0

-- 71, of what stands beside the session
abbrev pub beside_wrong : Head → Logged → Bool
beside_wrong h y = rebuilding_wrong h.m h.s y.scratch y.finished

-- all checks of an offer, in order
abbrev pub all_checks : Head → Logged → List ℕ → List Check
all_checks h y c = (beside_wrong h y, 71) ∷ offer_checks h y.session c

-- the verdict: a session's own, and 71 for what stands beside it
unfoldable pub offer_verdict : Head → Logged → List ℕ → Verdict
offer_verdict h y c = checked ((beside_wrong h y, 71) ∷ []) Refused (verdict_of h y.session c)

-- whether what was rebuilt is void: other blocks are held than before
unfoldable pub restarts : Verdict → Bool
restarts (Fresh i p) = true
restarts (Repeat i p) = false
restarts (Refused r) = eqb (number_of r) 41

abbrev pub scratch_after : List ℕ → Verdict → List ℕ
scratch_after scratch v = cond (restarts v) (zeros (length scratch)) scratch

abbrev pub finished_after : ℕ → Verdict → ℕ
finished_after finished v = cond (restarts v) 0 finished

-- all that is kept after a verdict, and after an offer
abbrev pub logged_by : Head → Logged → List ℕ → Verdict → Logged
logged_by h y c v = logged (after_verdict h y.session c v) (scratch_after y.scratch v) (finished_after y.finished v)

unfoldable pub logged_after : Head → Logged → List ℕ → Logged
logged_after h y c = logged_by h y c (offer_verdict h y c)

-- and after the chunks of a history were offered, the first first
unfoldable pub logged_all : Head → Logged → List (List ℕ) → Logged
logged_all h y [] = y
logged_all h y (c ∷ cs) = logged_all h (logged_after h y c) cs

-- what an offer leaves and answers: tallies and finished columns, handed over by value, are among what it leaves
pub record Offered : Type 0 where
  pub kept : Logged
  pub verdict : Verdict
  pub spot : Option BytePlace

abbrev pub logged_of : List ℕ → List ℕ → Tallies → List ℕ → ℕ → Logged
logged_of store marks tallies scratch finished = logged (session_of store marks tallies) scratch finished

abbrev pub offered_of : Logged → Verdict → Option BytePlace → Offered
offered_of kept verdict spot = record { kept = kept; verdict = verdict; spot = spot }

unfoldable pub offered : Head → Logged → List ℕ → Offered
offered h y c = offered_of (logged_after h y c) (offer_verdict h y c) (spot_of h c (offer_verdict h y c))
