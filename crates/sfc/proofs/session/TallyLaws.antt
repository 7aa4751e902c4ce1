-- Sums of tallies, and that none of them outgrows the sum. Assumes nothing.
use Prim.Native.Nat.{ℕ, zero, suc, ◌+◌, ◌-◌, ◌<◌, ◌≤◌}
use mathlib.Core.Path.{◌≡◌, refl, sym}
use mathlib.Core.Bool.{false}
use mathlib.Core.List.{List, [], ◌∷◌}
use native.Mathlib.Omega.{arith}
use borrow.Author.Tests.{leb-false, ne_eqb}
use lib.ListN.{get_or, set}
use Rattle.std.specs.List.{sum as std_sum}
use Rattle.std.proofs.lemmas.List.Recursion.{is_sum_by}
use Rattle.sfc.specs.session.Tallies.{sum, total, tally_of, tally_full, counted_refusal}
use Rattle.sfc.specs.declared.session.tallies.Tallies.{Tallies}

-- the library's sum
pub summed : (xs : List ℕ) → std_sum xs ≡ sum xs
unfolding sum
summed xs = sym (is_sum_by sum (λ x. x) refl (λ _ _. refl) xs)

-- one element is at most the sum
pub in_sum : (xs : List ℕ) (i : ℕ) → get_or xs i 0 ≤ sum xs
unfolding sum
in_sum [] i = omega arith
in_sum (x ∷ xs) zero = omega arith
in_sum (x ∷ xs) (suc i) = omega (arith, in_sum xs i)

pub room_left : (t : Tallies) → tally_full t ≡ false → total t < 4294967295
unfolding tally_full
room_left t e = omega (arith, leb-false 4294967295 (total t) e)

pub counts-one : (t : Tallies) (k : ℕ) → 30 ≤ k → k ≤ 42
    → counted_refusal t k ≡ record { fresh = t.fresh; repeat = t.repeat; refused = set t.refused (k - 30) (tally_of t k + 1) }
unfolding counted_refusal
counts-one t k h l = rw (ne_eqb k 71 (λ e. omega arith), ne_eqb k 43 (λ e. omega arith))
