-- `sfc_probe::session::wanted` is safe: two numbers below 2^32 have a product below 2^64. Assumes nothing.
use Prim.Native.Nat.{◌*◌, ◌≤◌}
use native.Mathlib.Nat.{mul-le-mul}
use native.Mathlib.Omega.{arith}
use Rattle.sfc_probe.proofs.session.wanted.Goals as goal

pub overflow_mul-result : goal.overflow_mul-result
overflow_mul-result c =
    let k : c.args.m * c.args.s ≤ 4294967295 * 4294967295 =
    mul-le-mul {n₁ = c.args.m} {m₁ = c.args.s} {n₂ = 4294967295} {m₂ = 4294967295} (omega (arith, c.ranges.m.fits)) (omega (arith, c.ranges.s.fits)) in
    record { fits = omega (arith, k) }
