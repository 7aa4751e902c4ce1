-- `put_rows` meets its contract. Assumes nothing.
use mathlib.Core.Path.{◌≡◌, sym, ◌∙◌}
use Prim.Native.Nat.{◌+◌, ◌-◌, ◌*◌}
use native.Mathlib.Nat.{add-sub_cancel_left, add-mul, one-mul}
use native.Mathlib.Omega.{arith}
use Rattle.cauchy.specs.inner.Packed.{row_bytes}
use Rattle.cauchy.proofs.encode.FourLaws.{length-row}
use Rattle.cauchy.proofs.encode.RunLaws.{run_start, run_turn}
use Rattle.cauchy.proofs.encode.put_rows.Goals as goal

pub loop-r-init : goal.loop-r-init
loop-r-init c = let z : 0 * c.args.s ≡ 0 = omega arith in rw z (run_start (λ i. row_bytes i c.args.acc.now) c.args.count c.args.s c.args.out.now c.requires.3)

pub loop-r-preserved : goal.loop-r-preserved
loop-r-preserved c =
    let l = c.loop-r in
    let s = c.args.s in
    run_turn l.invariant c.loop-r-test.true _ (l.r * s + s - l.r * s) ((l.r + 1) * s) (add-sub_cancel_left (l.r * s) s) (omega (arith, add-mul l.r 1 s, one-mul s)) c.put_one.ensures (length-row l.r c.args.acc.now ∙ sym c.requires.2)
