-- `gf16::mul` meets its contract, bit by bit. Assumes nothing.
use Rattle.std.proofs.Common.{◌≡◌, ◌+◌, ◌-◌, refl}
use native.Mathlib.Omega.{arith}
use Rattle.gf16.specs.Field.{mul}
use Rattle.gf16.proofs.Ring.{turn_even, turn_odd, turned}
use Rattle.gf16.proofs.mul.Goals as goal
use Rattle.gf16.proofs.mul.Goals.{then-y-eq1, else-y-eq1}

pub loop-init : goal.loop-init
unfolding mul
loop-init c = refl

pub loop-preserved : goal.loop-preserved
loop-preserved c =
    let left : 16 - (c.loop.counter + 1) ≡ 16 - c.loop.counter - 1 = omega arith in
    rw left (elim c.if-y-eq1.branch [
      | then-y-eq1 w ↦ turn_odd (16 - c.loop.counter) c.loop.x c.loop.y _ c.loop.sum _ _ (omega arith) c.loop.invariant c.double-x.ensures w.if-y-eq1.true w.sum-is
      | else-y-eq1 w ↦ turn_even (16 - c.loop.counter) c.loop.x c.loop.y _ c.loop.sum _ _ (omega arith) c.loop.invariant c.double-x.ensures w.if-y-eq1.false w.sum-is
    ])

pub returns : goal.returns
returns c = turned (16 - c.loop.counter) c.loop.x c.loop.y _ _ (omega arith) c.loop.invariant
