-- What the session's inner functions promise of an offer: one block's part in it, and the verdict before its place is found. A
-- reader of the promises can skip this file.
use Rattle.std.specs.Prelude.{ℕ, ◌≡◌, cond, false, List, eqb, length, Ok}
use Rattle.little.specs.Runs.{zeros, same}
use Rattle.sfc.specs.answer.Numbers.{verdict}
use Rattle.sfc.specs.format.Chunk.{chunk_checks}
use Rattle.sfc.specs.session.Tallies.{tally_full}
use Rattle.sfc.specs.session.Session.{Session, session_of, session_wrong, verdict_of, after}
use Rattle.sfc.specs.declared.format.header.Head.{Head}
use Rattle.sfc.specs.declared.session.tallies.Tallies.{Tallies}
use Rattle.sfc.specs.declared.session.offer.Verdict.{Verdict}
use Rattle.sfc.specs.declared.session.offer.Step.{Step}
use Rattle.sfc.specs.declared.session.offer.Step.TheVariants.{Laid, Copy, Differs, Barred}

-- a block after a payload came for it, and what happened
pub record Stepped : Type 0 where
  pub block : List ℕ
  pub step : Step

-- an absent block takes the payload, a held one compares, a barred one stays
unfoldable pub stepped : ℕ → List ℕ → List ℕ → Stepped
stepped mark block payload =
    cond (eqb mark 0) (record { block = payload; step = Laid })
    (cond (eqb mark 1)
    (cond (same block payload) (record { block = block; step = Copy }) (record { block = zeros (length block); step = Differs }))
    (record { block = block; step = Barred }))

-- an offer past 71, 43 and 30 to 40
pub record Welcome (h : Head) (x : Session) (c : List ℕ) : Type 0 where
  pub lent : session_wrong h x ≡ false
  pub room : tally_full x.tallies ≡ false
  pub whole : verdict (chunk_checks h c) ≡ Ok tt

-- what an offer leaves, and its verdict
pub record Judged : Type 0 where
  pub session : Session
  pub verdict : Verdict

abbrev pub judged_of : List ℕ → List ℕ → Tallies → Verdict → Judged
judged_of store marks tallies verdict = record { session = session_of store marks tallies; verdict = verdict }

unfoldable pub judged : Head → Session → List ℕ → Judged
judged h x c = record { session = after h x c; verdict = verdict_of h x c }
