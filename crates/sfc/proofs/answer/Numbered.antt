-- The table of numbers (specs/answer/Numbered.antt): four computed tests, the last over all cases of `Reason`. Assumes nothing.
use mathlib.Core.Path.{◌≡◌, refl, sym, ap, ◌∙◌}
use mathlib.Core.Bool.{Bool, true, false, cond, not}
use denote.Enum.Bare.{sameb}
use borrow.Author.Tests.{eqb-true}
use lib.Dec.{eqb}
use Rattle.little.specs.Runs.{rising_from}
use Rattle.sfc.specs.answer.Numbers.{number_of, reason_of}
use Rattle.sfc.specs.answer.Numbered.{Numbered}
use Rattle.sfc.specs.declared.answer.reason.Reason.{Reason}
use Rattle.sfc.specs.contracts.answer.reason.Reason.{the_type, the_parts as parts, as_values, the_make as make, the_eta as eta}
use Rattle.sfc.proofs.answer.CaseLaws.{case_of, case_one, in_each_lem}

-- which case a number leads to, compared with the case that has it; so each reason is in the chain of rows that `reason_of` goes through
pub reason_back : (r : Reason) → reason_of (number_of r) ≡ r
reason_back r =
    let c = as_values r in
    let e = in_each_lem parts tt (λ d. eqb (case_of parts (as_values (reason_of (number_of (make d))))) (case_of parts d)) refl c in
    let f = case_one parts tt (as_values (reason_of (number_of (make c)))) c (eqb-true _ _ e) in
    rw (eta r) at (sym (eta (reason_of (number_of (make c)))) ∙ ap make f)

-- whether a reason is that of 41, as the code compares it, is told by its number: one more test over all cases
agree : (a b : Bool) → cond a b (not b) ≡ true → a ≡ b
agree true b e = sym e
agree false true e = e
agree false false e = refl

pub is_conflict : (r : Reason) → sameb the_type r Reason.Conflict ≡ eqb (number_of r) 41
is_conflict r =
    let c = as_values r in
    let t = in_each_lem parts tt (λ d. cond (sameb the_type (make d) Reason.Conflict) (eqb (number_of (make d)) 41) (not (eqb (number_of (make d)) 41))) refl c in
    rw (eta r) at (agree (sameb the_type (make c) Reason.Conflict) (eqb (number_of (make c)) 41) t)

pub numbered : Numbered
unfolding rising_from
numbered = record { rising = refl; paper_back = refl; number-back = refl; reason_back = reason_back }
