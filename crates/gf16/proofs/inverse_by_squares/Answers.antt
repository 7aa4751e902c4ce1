-- `gf16::inverse_by_squares` meets its contract, square by square. Assumes nothing.
use Rattle.std.proofs.Common.{◌≡◌, ◌+◌, ◌-◌}
use native.Mathlib.Omega.{arith}
use Rattle.gf16.proofs.Inverse.{start, turn, turned}
use Rattle.gf16.proofs.inverse_by_squares.Goals as goal

pub loop-init : goal.loop-init
loop-init c = start c.args.a c.ranges.a.fits

pub loop-preserved : goal.loop-preserved
loop-preserved c =
    let left : 15 - (c.loop.counter + 1) ≡ 15 - c.loop.counter - 1 = omega arith in
    rw left (turn (15 - c.loop.counter) c.loop.power c.loop.product _ _ _ (omega arith) c.loop.invariant c.mul-power.ensures c.mul-product.ensures)

pub returns : goal.returns
returns c = turned (15 - c.loop.counter) c.loop.power _ _ (omega arith) c.loop.invariant
