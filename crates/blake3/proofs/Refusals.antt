-- The refusals of the running hash, read off their definitions, and what tells its answers apart. Assumes nothing.
use Rattle.std.proofs.Common.{◌≡◌, ℕ, ◌+◌, ltb, List, length, refl, lt-ltb}
use Rattle.std.specs.Prelude.{Result, Ok, Err}
use Rattle.little.specs.Said.{Said, refused, says}
use Rattle.little.proofs.Laws.{said_laws}
use Rattle.blake3.specs.Running.{number_of, reason_of, answer_said, most_fed, fed_with, finished, hashed_two, Refusals, Numbered}
use Rattle.blake3.specs.declared.running.Running.{Running}
use Rattle.blake3.specs.declared.running.Reason.{Reason}
use Rattle.blake3.specs.declared.running.Reason.TheVariants.{RunningHash}
use Rattle.blake3.proofs.Splits.{either}

pub refusals : (r : Running) (xs : List ℕ) → Refusals r xs
unfolding fed_with finished hashed_two
refusals r xs = record {
  feed_says = either (ltb most_fed (r.fed + length xs)) (λ t. rw t) (λ t. rw t);
  feed_leaves = λ h. rw (lt-ltb most_fed (r.fed + length xs) h);
  finish_says = either (ltb most_fed r.fed) (λ t. rw t) (λ t. rw t);
  finish_none = λ h. rw (lt-ltb most_fed r.fed h);
  two_says = λ ys. either (ltb most_fed (length xs + length ys)) (λ t. rw t) (λ t. rw t);
  two-none = λ ys h. rw (lt-ltb most_fed (length xs + length ys) h);
}

reason_back : (why : Reason) → reason_of (number_of why) ≡ why
reason_back RunningHash = refl

-- an answer, from what it says
abbrev answer_of_said : Said → Result Unit Reason
answer_of_said (refused k) = Err (reason_of k)
answer_of_said (says word values) = Ok tt

answer_back : (v : Result Unit Reason) → answer_of_said (answer_said v) ≡ v
answer_back (Ok tt) = refl
answer_back (Err RunningHash) = refl

pub numbered : Numbered
numbered = record { number-back = refl; reason_back = reason_back; apart = said_laws.told_apart answer_said answer_of_said answer_back }
