-- How many blocks a size wants, and that blocks of no bytes are unlawful. Assumes nothing.
use Prim.Native.Nat.{ℕ, zero, suc, ◌+◌, ◌-◌, ◌*◌, ◌/◌, ◌<◌, ◌≤◌}
use mathlib.Core.Path.{◌≡◌, refl, sym, ap}
use mathlib.Core.Bool.{true}
use native.Mathlib.Nat.{add-div_right, div-add-mod', mod-lt}
use native.Mathlib.Omega.{arith}
use borrow.Author.Tests.{ne_eqb}
use Rattle.sfc.specs.format.Limits.{wanted_blocks, unlawful}

pub wanted_none : (size s : ℕ) → size ≡ 0 → 1 ≡ wanted_blocks size s
unfolding wanted_blocks
wanted_none size s e = rw e

pub wanted_some : (size s : ℕ) → (size ≡ 0 → ⊥) → (s ≡ 0 → ⊥) → (size - 1) / s + 1 ≡ wanted_blocks size s
unfolding wanted_blocks
wanted_some size s h k =
    let e : size + s - 1 ≡ size - 1 + s = omega arith in
    rw (ne_eqb size 0 h, e) (sym (add-div_right (size - 1) {k = s} (omega arith)))

-- a size fills all the blocks that it wants but the last, and fits in all
pub wanted_holds : (size s : ℕ) → 0 < s → ((wanted_blocks size s - 1) * s ≤ size) × (size ≤ wanted_blocks size s * s)
wanted_holds zero s h =
    let w = wanted_none 0 s refl in
    let v : wanted_blocks 0 s - 1 ≡ 0 = omega arith in
    (omega (arith, ap (λ (x : ℕ). x * s) v), omega arith)
wanted_holds (suc k) s h =
    let e : suc k - 1 ≡ k = omega arith in
    let w : k / s + 1 ≡ wanted_blocks (suc k) s = rw e at (wanted_some (suc k) s (λ z. omega arith) (λ z. omega arith)) in
    let v : wanted_blocks (suc k) s - 1 ≡ k / s = omega arith in
    (omega (arith, ap (λ (x : ℕ). x * s) v, div-add-mod' k s), omega (arith, ap (λ (x : ℕ). x * s) w, div-add-mod' k s, mod-lt k h))

pub empty_unlawful : (size n m s : ℕ) → s ≡ 0 → true ≡ unlawful size n m s
unfolding unlawful
empty_unlawful size n m s e = rw e
