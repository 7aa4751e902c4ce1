-- Marks that say held just at the numbers of a list count its different numbers. Assumes nothing.
use Prim.Native.Nat.{ℕ, zero, suc, ◌<◌}
use mathlib.Core.Path.{◌≡◌, refl, sym, ap, ◌∙◌}
use mathlib.Core.Bool.{Bool, true, false, cond, ◌||◌, false≢true}
use mathlib.Core.List.{List, [], ◌∷◌}
use native.Mathlib.Decide.{ℕ_discrete}
use native.Mathlib.Omega.{arith}
use borrow.Author.Tests.{eq-eqb, ne_eqb}
use lib.ListN.{length, get_or, set, length-set}
use lib.Seq.{get_or-set_same, get_or-set_other}
use Rattle.little.specs.Runs.{any, among}
use Rattle.cauchy.specs.Decode.{held, count}
use Rattle.sfc.specs.session.Marks.{is_held, held_count}
use Rattle.sfc.specs.demand.Demand2.{different}
use Rattle.sfc.specs.Laws.{Says}

none_held : (marks : List ℕ) → ((j : ℕ) → j < length marks → is_held (get_or marks j 0) ≡ false) → held_count marks ≡ 0
unfolding held count
none_held [] f = refl
none_held (k ∷ marks) f = rw (f 0 (omega arith)) (none_held marks (λ j h. f (suc j) (omega arith)))

one_less : (marks : List ℕ) (i : ℕ) → is_held (get_or marks i 0) ≡ true → held_count marks ≡ suc (held_count (set marks i 0))
unfolding held count
one_less [] i e = absurd (false≢true e)
one_less (k ∷ marks) zero e = rw e
one_less (k ∷ marks) (suc i) e = go (is_held k) (one_less marks i e)
  where
    go : (b : Bool) → held_count marks ≡ suc (held_count (set marks i 0))
        → count (cond b 1 0 ∷ held marks) ≡ suc (count (cond b 1 0 ∷ held (set marks i 0)))
    go true q = ap suc q
    go false q = q

module _ (i : ℕ) (is marks : List ℕ) (s : Says (i ∷ is) marks) where
  first-held : is_held (get_or marks i 0) ≡ true
  unfolding any
  first-held = s.1 i s.0.0 ∙ ap (λ (t : Bool). t || among i is) (eq-eqb i i refl)

  other-held : (j : ℕ) → j < length marks → (j ≡ i → ⊥) → is_held (get_or marks j 0) ≡ among j is
  unfolding any
  other-held j h d = s.1 j h ∙ ap (λ (t : Bool). t || among j is) (ne_eqb j i d)

  -- the first number comes again, or it does not
  says_again : among i is ≡ true → Says is marks
  says_again e = (s.0.1, λ j h. at j h (ℕ_discrete j i))
    where
      at : (j : ℕ) → j < length marks → Dec (j ≡ i) → is_held (get_or marks j 0) ≡ among j is
      at j h (yes d) = rw d (first-held ∙ sym e)
      at j h (no d) = other-held j h d

  says_rest : among i is ≡ false → Says is (set marks i 0)
  says_rest e = (rw (length-set marks i 0) s.0.1, λ j h. at j (rw (length-set marks i 0) at h) (ℕ_discrete j i))
    where
      at : (j : ℕ) → j < length marks → Dec (j ≡ i) → is_held (get_or (set marks i 0) j 0) ≡ among j is
      at j h (yes d) = rw (d, get_or-set_same marks i 0 0 s.0.0, e)
      at j h (no d) = ap is_held (get_or-set_other marks i j 0 0 d) ∙ other-held j h d

pub held-different : (is marks : List ℕ) → Says is marks → held_count marks ≡ different is
unfolding any different
held-different [] marks s = none_held marks s.1
held-different (i ∷ is) marks s = go (among i is) refl (λ t u. held-different is t u)
  where
    go : (t : Bool) → among i is ≡ t → ((l : List ℕ) → Says is l → held_count l ≡ different is) → held_count marks ≡ cond t (different is) (suc (different is))
    go true e rec = rec marks (says_again i is marks s e)
    go false e rec = one_less marks i (first-held i is marks s) ∙ ap suc (rec (set marks i 0) (says_rest i is marks s e))
