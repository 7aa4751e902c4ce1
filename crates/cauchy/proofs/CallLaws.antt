-- The answers, by their cases. Assumes nothing.
use mathlib.Core.Path.{◌≡◌, refl, sym, ◌∙◌, ap}
use mathlib.Core.Bool.{Bool, true, false, not, cond, ◌||◌}
use mathlib.Core.List.{List, ◌++◌, append-nil}
use Prim.Native.Nat.{ℕ, ◌+◌, ◌-◌, ◌*◌, ◌≤◌}
use native.Mathlib.Nat.{add-mul, one-mul}
use native.Mathlib.Omega.{arith}
use lib.ListN.{length, take, drop, length-drop, take-append-drop}
use lib.Seq.{length-take-le}
use lib.Dec.{ltb, eqb}
use borrow.Author.Tests.{eq-eqb, ne_eqb}
use Rattle.std.specs.Prelude.{Ok, Err}
use Rattle.cauchy.specs.declared.shape.Refusal.{Refusal}
use Rattle.cauchy.specs.Code.{recovery_block, joined}
use Rattle.cauchy.specs.Calls.{wrong_shape, wrong_lent, recovered, recovery_spec, up_to_four, wrong_four, four_spec}
use Rattle.cauchy.specs.inner.Promises.{wrong_parts, parts_recovered}

-- ---- blocks from k on, of the data blocks in two parts

module _ (n m s k count : ℕ) (front last out : List ℕ) where
  pub parts_lent : wrong_parts n m s k count front last out ≡ true → recovered out (Err Refusal.BadShape) ≡ parts_recovered n m s k count front last out
  unfolding parts_recovered
  parts_lent e = rw e

  pub parts_done : (made : List ℕ) → wrong_parts n m s k count front last out ≡ false → made ≡ joined (λ r. recovery_block n m s (front ++ last) (k + r)) 0 count
      → recovered made (Ok tt) ≡ parts_recovered n m s k count front last out
  unfolding parts_recovered
  parts_done made e h = rw (e, h)

-- ---- up to four

pub four_shape : (n m s k : ℕ) (front last out : List ℕ) → wrong_shape n m s ≡ true → recovered out (Err Refusal.BadShape) ≡ four_spec n m s k front last out
unfolding four_spec
four_shape n m s k front last out e = rw e

pub four_parts : (n m s k : ℕ) (front last out : List ℕ) → wrong_shape n m s ≡ false
    → parts_recovered n m s k (up_to_four m k) front last out ≡ four_spec n m s k front last out
unfolding four_spec wrong_four parts_recovered wrong_parts
four_parts n m s k front last out e = rw e

-- ---- one, where the last data block does not lie apart

module _ (n m s k : ℕ) (blocks out : List ℕ) where
  pub recovery_shape : wrong_shape n m s ≡ true → recovered out (Err Refusal.BadShape) ≡ recovery_spec n m s k blocks out
  unfolding recovery_spec
  recovery_shape e = rw e

  pub recovery_length : (length blocks ≡ n * s → ⊥) → recovered out (Err Refusal.BadShape) ≡ recovery_spec n m s k blocks out
  unfolding recovery_spec wrong_lent
  recovery_length h = let e = ne_eqb (length blocks) (n * s) h in rw e (go (wrong_shape n m s) (not (ltb k m)) (not (eqb (length out) s)))
    where
      go : (t u v : Bool) → recovered out (Err Refusal.BadShape)
          ≡ cond (t || (u || true || v)) (recovered out (Err Refusal.BadShape)) (recovered (recovery_block n m s blocks k) (Ok tt))
      go true u v = refl
      go false true v = refl
      go false false v = refl

  pub recovery_parts : wrong_shape n m s ≡ false → 1 ≤ n → length blocks ≡ n * s
      → parts_recovered n m s k 1 (take ((n - 1) * s) blocks) (drop ((n - 1) * s) blocks) out ≡ recovery_spec n m s k blocks out
  unfolding parts_recovered wrong_parts recovery_spec wrong_lent joined
  recovery_parts e h lb =
      let z : n - 1 + 1 ≡ n = omega arith in
      let f : (n - 1) * s + s ≡ length blocks = sym (lb ∙ ap (λ (x : ℕ). x * s) (sym z) ∙ add-mul (n - 1) 1 s ∙ omega (arith, one-mul s)) in
      let lf = eq-eqb (length (take ((n - 1) * s) blocks)) ((n - 1) * s) (length-take-le ((n - 1) * s) blocks (omega arith)) in
      let ll = eq-eqb (length (drop ((n - 1) * s) blocks)) s (length-drop ((n - 1) * s) blocks ∙ omega arith) in
      let k0 : k + 0 ≡ k = omega arith in
      rw (e, lf, ll, eq-eqb (length blocks) (n * s) lb, take-append-drop ((n - 1) * s) blocks, one-mul s, k0, append-nil) (go (not (ltb k m)) (not (eqb (length out) s)))
    where
      go : (u v : Bool) → cond (u || false || false || v) (recovered out (Err Refusal.BadShape)) (recovered (recovery_block n m s blocks k) (Ok tt))
          ≡ cond (u || false || v) (recovered out (Err Refusal.BadShape)) (recovered (recovery_block n m s blocks k) (Ok tt))
      go true v = refl
      go false v = refl
