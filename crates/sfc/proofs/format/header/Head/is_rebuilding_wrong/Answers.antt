-- `sfc::format::header::Head::is_rebuilding_wrong` computes its definition; a product of two 32-bit numbers fits. Assumes nothing.
use Prim.Native.Nat.{◌<◌}
use mathlib.Core.Path.{refl}
use native.Mathlib.Omega.{arith}
use native.Mathlib.Nat.{mul-le-mul}
use borrow.Author.Rules.{rules}
use Rattle.sfc.specs.session.Lent.{rebuilding_wrong}
use Rattle.sfc.proofs.format.header.Head.is_rebuilding_wrong.Goals as goal

pub overflow_mul-result : goal.overflow_mul-result
overflow_mul-result c =
    let h = c.args.self.now in
    let m : h.m < 4294967296 = search rules in
    let s : h.s < 4294967296 = search rules in
    record { fits = omega (arith, mul-le-mul {n₁ = h.m} {m₁ = h.s} {n₂ = 4294967295} {m₂ = 4294967295} (omega arith) (omega arith)) }

pub returns : goal.returns
unfolding rebuilding_wrong
returns c = refl
