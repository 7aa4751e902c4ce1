-- `fill` meets its contract. Assumes nothing.
use mathlib.Core.Path.{◌≡◌}
use Prim.Native.Nat.{◌*◌, ◌<◌}
use native.Mathlib.Omega.{arith}
use Rattle.cauchy.proofs.tables.TableLaws.{power_one, power_more, power_most, filled_start, filled-turn}
use Rattle.cauchy.proofs.tables.fill.Goals as goal

pub loop-n-init : goal.loop-n-init
loop-n-init c = let a = c.args in (omega arith, power_one, filled_start a.x a.t.now (omega arith))

pub spread-requires : goal.spread-requires
spread-requires c =
    let l = c.loop-n in
    omega (arith, power_most (2 * l.n) (power_more l.n (omega arith) l.invariant.1))

pub loop-n-preserved : goal.loop-n-preserved
loop-n-preserved c =
    let l = c.loop-n in
    let a = c.args in
    let h : l.n < 256 = omega arith in
    let s = c.spread in (
      omega arith,
      power_more l.n h l.invariant.1,
      filled-turn l.n a.x l.power _ l.t s.new.t h l.invariant.1 l.invariant.2 s.ensures c.doubled-power.ensures,
    )

pub returns : goal.returns
returns c =
    let l = c.loop-n in
    let e : l.n ≡ 256 = omega (arith, power_most l.n l.invariant.1) in
    rw e at l.invariant.2
