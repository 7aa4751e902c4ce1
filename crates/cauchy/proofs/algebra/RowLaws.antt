-- A recovery word is a word. Assumes nothing.
use mathlib.Core.List.{List, [], ◌∷◌}
use Prim.Native.Nat.{ℕ, suc, ◌+◌, ◌≤◌, ◌<◌, suc-le-suc}
use native.Mathlib.Omega.{arith}
use lib.ListN.{length}
use Rattle.cauchy.proofs.algebra.WordCode.{NatOps, WordLaws, row_from}
use Rattle.cauchy.specs.inner.Promises.{Below}

below_tail : (b d : ℕ) (ds : List ℕ) → Below b (d ∷ ds) → Below b ds
below_tail b d ds h i m = h (suc i) (suc-le-suc m)

module _ (A : NatOps) (b : ℕ) (L : WordLaws A b) where
  -- d / (x + c)
  abbrev pub part : ℕ → ℕ → ℕ → ℕ
  part x c d = A.mul (A.inv (A.add x c)) d

  pub part-lt : (x c d : ℕ) → x < b → c < b → d < b → part x c d < b
  part-lt x c d hx hc hd = L.mul-lt (A.inv (A.add x c)) d (L.inv-lt (A.add x c) (L.add-lt x c hx hc)) hd

  pub row_lt : (x c : ℕ) (ds : List ℕ) → x < b → c + length ds ≤ b → Below b ds → row_from A x c ds < b
  unfolding row_from
  row_lt x c [] hx h w = omega (arith, L.one-lt)
  row_lt x c (d ∷ ds) hx h w = L.add-lt (part x c d) (row_from A x (suc c) ds) (part-lt x c d hx (omega arith) (w 0 (omega arith))) (row_lt x (suc c) ds hx (omega arith) (below_tail b d ds w))
