-- `sfc::format::priority::is_among` meets its contract. Assumes nothing.
use Rattle.std.proofs.Common.{arith}
use Rattle.sfc.proofs.format.ListLaws.{looking_start, looking_more, looking_end}
use Rattle.sfc.proofs.format.priority.is_among.Goals as goal

pub loop-i-init : goal.loop-i-init
loop-i-init g c = looking_start _ _ _

pub loop-i-preserved : goal.loop-i-preserved
loop-i-preserved g c =
    let l = c.loop-i in
    rw c.number.ensures (looking_more _ _ _ l.found l.i (omega (arith, c.loop-i-test.true, c.count-i-end.ensures)) l.invariant)

pub returns : goal.returns
returns g c = let l = c.loop-i in looking_end _ _ _ l.found l.i (omega (arith, c.loop-i-test.false, c.count-i-end.ensures)) l.invariant
