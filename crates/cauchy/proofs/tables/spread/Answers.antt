-- `spread` meets its contract. Assumes nothing.
use Prim.Native.Nat.{◌+◌, ◌<◌}
use native.Mathlib.Omega.{arith}
use lib.ListN.{length, length-set}
use Rattle.cauchy.proofs.tables.TableLaws.{spread_kept, spread_made}
use Rattle.cauchy.proofs.tables.spread.Goals as goal

pub loop-i-preserved : goal.loop-i-preserved
loop-i-preserved c =
    let l = c.loop-i in
    let a = c.args in
    let m : a.n + l.i < length l.t = omega (arith, c.requires) in (
      simp length-set l.invariant.0,
      (λ j h. spread_kept a.n l.i _ j a.t.now l.t h (l.invariant.1 j h)),
      (λ j h. spread_made a.n l.i a.x j a.t.now l.t m (omega arith) h l.invariant.1 l.invariant.2),
    )

pub returns : goal.returns
returns c =
    let l = c.loop-i in
    record { size = l.invariant.0; kept = l.invariant.1; made = λ i h. l.invariant.2 i (omega arith) }
