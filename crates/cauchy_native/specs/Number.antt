-- The number under which an answer of `cauchy` goes out, and what a call then leaves. Assumes nothing: these are definitions.
use Rattle.std.specs.Prelude.{ℕ, List}
use Rattle.little.specs.Said.{Said, refused, says}
use Rattle.cauchy.specs.Calls.{Answer, Recovered, Rebuilt}
use Rattle.cauchy.specs.Answers.{answer_said}

-- document 01's number of a refusal, and 0 where there is none
unfoldable pub said_number : Said → ℕ
said_number (refused k) = k
said_number (says word values) = 0

unfoldable pub number_of : Answer → ℕ
number_of a = said_number (answer_said a)

-- what `cauchy_recovery` and `cauchy_recovery_four` leave
pub record RecoveryLeft : Type 0 where
  pub out : List ℕ
  pub answer : ℕ

abbrev pub recovery_left : List ℕ → ℕ → RecoveryLeft
recovery_left out answer = record { out = out; answer = answer }

abbrev pub numbered_recovery : Recovered → RecoveryLeft
numbered_recovery r = recovery_left r.out (number_of r.answer)

-- what `cauchy_rebuild_all` leaves
pub record RebuildLeft : Type 0 where
  pub scratch : List ℕ
  pub numbers : List ℕ
  pub answer : ℕ

abbrev pub rebuild_left : List ℕ → List ℕ → ℕ → RebuildLeft
rebuild_left scratch numbers answer = record { scratch = scratch; numbers = numbers; answer = answer }

abbrev pub numbered_rebuild : Rebuilt → RebuildLeft
numbered_rebuild r = rebuild_left r.scratch r.numbers (number_of r.answer)
