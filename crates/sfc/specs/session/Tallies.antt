-- The tallies of a session (document 01, "Marks, hand-out, prefix"). Assumes nothing: these are definitions.
use Rattle.std.specs.Prelude.{ℕ, ◌+◌, ◌-◌, Bool, cond, ◌||◌, List, [], ◌∷◌, leb, eqb, get_or, set}
use Rattle.little.specs.Runs.{zeros}
use Rattle.sfc.specs.answer.Numbers.{number_of}
use Rattle.sfc.specs.declared.session.tallies.Tallies.{Tallies}
use Rattle.sfc.specs.declared.session.offer.Verdict.{Verdict}
use Rattle.sfc.specs.declared.session.offer.Verdict.TheVariants.{Fresh, Repeat, Refused}

abbrev pub no_tallies : Tallies
no_tallies = record { fresh = 0; repeat = 0; refused = zeros 13 }

unfoldable pub sum : List ℕ → ℕ
sum [] = 0
sum (x ∷ xs) = x + sum xs

abbrev pub total : Tallies → ℕ
total t = t.fresh + t.repeat + sum t.refused

-- 43
unfoldable pub tally_full : Tallies → Bool
tally_full t = leb 4294967295 (total t)

-- the tally of the refusals by number k, for k from 30 to 42
abbrev pub tally_of : Tallies → ℕ → ℕ
tally_of t k = get_or t.refused (k - 30) 0

-- one refusal more; those by 71 and 43 are not counted
unfoldable pub counted_refusal : Tallies → ℕ → Tallies
counted_refusal t k =
    cond (eqb k 71 || eqb k 43) t
    (record { fresh = t.fresh; repeat = t.repeat; refused = set t.refused (k - 30) (tally_of t k + 1) })

-- one more of what a verdict says
unfoldable pub counted : Tallies → Verdict → Tallies
counted t (Fresh i p) = record { fresh = t.fresh + 1; repeat = t.repeat; refused = t.refused }
counted t (Repeat i p) = record { fresh = t.fresh; repeat = t.repeat + 1; refused = t.refused }
counted t (Refused r) = counted_refusal t (number_of r)
