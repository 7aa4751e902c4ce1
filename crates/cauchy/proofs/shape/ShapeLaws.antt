-- What a right shape tells. Assumes nothing.
use mathlib.Core.Path.{◌≡◌}
use mathlib.Core.Bool.{false, not}
use Prim.Native.Nat.{ℕ, ◌*◌, ◌%◌, ◌≤◌}
use native.Mathlib.Nat.{mul-le-mul}
use native.Mathlib.Omega.{arith}
use borrow.Author.Tests.{ltb-false, eqb-false, eqb-true, not-false}
use lib.Dec.{ltb, eqb}
use Rattle.little.proofs.Laws.{test_laws}
use Rattle.cauchy.specs.Calls.{wrong_shape}
use Rattle.cauchy.specs.Laws.{Right}

pub right : (n m s : ℕ) → wrong_shape n m s ≡ false → Right n m s
unfolding wrong_shape
right n m s e =
    let a = test_laws.or-false _ (not (eqb (s % 2) 0)) e in
    let b = test_laws.or-false _ (ltb 4096 s) a.0 in
    let c = test_laws.or-false _ (ltb s 2) b.0 in
    let d = test_laws.or-false _ (ltb 32 m) c.0 in
    let f = test_laws.or-false (eqb n 0) (ltb 1024 n) d.0 in
    let z : n ≡ 0 → ⊥ = eqb-false n 0 f.0 in
    record {
      n_least = omega (arith, z);
      n_most = ltb-false 1024 n f.1;
      m_most = ltb-false 32 m d.1;
      s_least = ltb-false s 2 c.1;
      s_most = ltb-false 4096 s b.1;
      even = eqb-true (s % 2) 0 (not-false (eqb (s % 2) 0) a.1);
    }

-- a store of few blocks is small
pub few : (n s : ℕ) → n ≤ 1056 → s ≤ 4096 → n * s ≤ 4325376
few n s h k = mul-le-mul {n₁ = n} {m₁ = s} {n₂ = 1056} {m₂ = 4096} h k
