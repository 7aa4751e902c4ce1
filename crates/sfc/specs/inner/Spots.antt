-- What the functions that find a place take for granted. A reader of the promises can skip this file. Assumes nothing: these are
-- definitions.
use Rattle.std.specs.Prelude.{ℕ, ◌≤◌, ◌≡◌, List, length}
use Rattle.sfc.specs.answer.Numbers.{number_of}
use Rattle.sfc.specs.format.Chunk.{payload_length}
use Rattle.sfc.specs.declared.answer.reason.Reason.{Reason}
use Rattle.sfc.specs.declared.session.offer.Verdict.{Verdict}
use Rattle.sfc.specs.declared.session.offer.Verdict.TheVariants.{Refused}

-- the place for number k has no more than four bytes: past 71 no payload that is measured is longer than twice the longest block
pub record SpotFits (c : List ℕ) (k : ℕ) : Type 0 where
  pub short : k ≡ 30 → length c ≤ 8276
  pub measured : 33 ≤ k → k ≤ 34 → payload_length c ≤ 8192

-- and so has the place of a verdict's number
abbrev pub Fitting : List ℕ → Verdict → Type 0
Fitting c v = (r : Reason) → v ≡ Refused r → SpotFits c (number_of r)
