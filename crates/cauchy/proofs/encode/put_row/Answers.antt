-- `put_row` meets its contract. Assumes nothing.
use mathlib.Core.Path.{refl}
use Prim.Native.Nat.{◌/◌, ◌%◌, ◌<◌}
use native.Mathlib.Omega.{arith}
use lib.ListN.{get_or}
use Rattle.cauchy.proofs.blocks.MixLaws.{mixed_start, mixed-turn}
use Rattle.cauchy.proofs.encode.put_row.Goals as goal

pub loop-w-init : goal.loop-w-init
loop-w-init c = let a = c.args in mixed_start (λ v. get_or a.acc.now v 0 / a.unit % 65536) a.out.now

pub loop-w-preserved : goal.loop-w-preserved
loop-w-preserved c =
    let l = c.loop-w in
    let a = c.args in
    let h : get_or a.acc.now l.w 0 / a.unit % 65536 < 65536 = omega arith in
    mixed-turn (λ v. get_or a.acc.now v 0 / a.unit % 65536) l.w a.out.now l.out (get_or a.acc.now l.w 0 / a.unit % 65536) l.invariant (omega arith) h refl
