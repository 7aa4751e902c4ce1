-- 1 and an inverse lie below 2 ^ 16, in the two forms that `simp` wants. Assumes nothing.
use Prim.Native.Nat.{ℕ}
use native.Mathlib.Omega.{arith}
use Rattle.gf16.specs.Field.{Elem, inv}
use Rattle.gf16.proofs.Inverse.{squares-closed}

pub inv_below : (a : ℕ) → Elem a → Elem (inv a)
unfolding inv
inv_below a h = squares-closed 15 a h

abbrev pub inv-closed : (a : ℕ) → Elem a → Elem (inv a)
inv-closed a h = inv_below a h

pub one_below : Elem 1
one_below = omega arith

abbrev pub one-closed : Elem 1
one-closed = one_below
