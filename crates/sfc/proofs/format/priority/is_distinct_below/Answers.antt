-- `sfc::format::priority::is_distinct_below` meets its contract. The loop's invariant: whether the numbers from i on are good. Assumes nothing.
use Rattle.std.proofs.Common.{arith}
use Rattle.sfc.proofs.format.ListLaws.{judging_start, judging_end, bad_here, good_here}
use Rattle.sfc.proofs.format.priority.is_distinct_below.Goals as goal

pub loop-i-init : goal.loop-i-init
loop-i-init g c = judging_start _ _

pub returns-then-n-x : goal.returns-then-n-x
returns-then-n-x g c =
    let l = c.loop-i in
    bad_here _ _ l.i (omega (arith, c.loop-i-test.true, c.count-i-end.ensures)) l.invariant _ (rw c.number-x.ensures at c.is_among.ensures) (rw c.number-x.ensures at c.if-n-x.true)

pub loop-i-preserved : goal.loop-i-preserved
loop-i-preserved g c =
    let l = c.loop-i in
    good_here _ _ l.i (omega (arith, c.loop-i-test.true, c.count-i-end.ensures)) l.invariant _ (rw c.number-x.ensures at c.is_among.ensures) (rw c.number-x.ensures at c.if-n-x.false)

pub returns : goal.returns
returns g c = let l = c.loop-i in judging_end _ _ l.i (omega (arith, c.loop-i-test.false, c.count-i-end.ensures)) l.invariant
