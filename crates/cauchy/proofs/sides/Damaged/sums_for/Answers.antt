-- `sums_for` meets its contract. Assumes nothing.
use native.Mathlib.Omega.{arith}
use lib.ListN.{length}
use Rattle.cauchy.proofs.sides.SideLaws.{sums_new}
use Rattle.cauchy.proofs.sides.Damaged.sums_for.Goals as goal

pub returns-then-i-eq0 : goal.returns-then-i-eq0
returns-then-i-eq0 c _ =
    let a = c.args in
    let d = a.self.now in
    sums_new d.code.n d.code.m d.code.s d.range.first (length a.acc.now) d.marks.now d.rows.now d.store.now a.i _ c.if-i-eq0.true c.sum_held.ensures

pub returns-else-i-eq0 : goal.returns-else-i-eq0
returns-else-i-eq0 c h = h (omega (arith, c.if-i-eq0.false))
