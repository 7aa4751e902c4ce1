-- `list_missing` meets its contract. Assumes nothing.
use mathlib.Core.Path.{refl}
use native.Mathlib.Omega.{arith}
use Rattle.cauchy.proofs.marks.ListLaws.{missed_start, missed_held, missed_lost, missed_end, lost}
use Rattle.cauchy.proofs.marks.list_missing.Goals as goal
use Rattle.cauchy.proofs.marks.list_missing.Goals.{then-marks-j-ne-HELD, else-marks-j-ne-HELD}

pub loop-j-init : goal.loop-j-init
loop-j-init c = missed_start c.args.n c.args.m c.args.marks.now c.args.out.now c.requires.2

pub offset_bounds-out-e : goal.offset_bounds-out-e
offset_bounds-out-e c = let l = c.loop-j in let a = c.args in let g = c.requires in
    let p = lost a.n a.m a.marks.now l.out l.e l.j g.0 (omega arith) c.if-marks-j-ne-HELD.true l.invariant in omega (arith, p.under, l.invariant.room, g.3)

pub bounds-out-e : goal.bounds-out-e
bounds-out-e c = let l = c.loop-j in let a = c.args in let g = c.requires in
    let p = lost a.n a.m a.marks.now l.out l.e l.j g.0 (omega arith) c.if-marks-j-ne-HELD.true l.invariant in omega (arith, p.under, l.invariant.room, g.3)

pub overflow_add-e : goal.overflow_add-e
overflow_add-e c = let l = c.loop-j in let a = c.args in let g = c.requires in
    let p = lost a.n a.m a.marks.now l.out l.e l.j g.0 (omega arith) c.if-marks-j-ne-HELD.true l.invariant in omega (arith, p.under, l.invariant.room, g.3)

pub loop-j-preserved : goal.loop-j-preserved
loop-j-preserved c = let l = c.loop-j in let a = c.args in let g = c.requires in
    elim c.if-marks-j-ne-HELD.branch [
      | then-marks-j-ne-HELD w ↦ rw (w.out-is, w.e-is) (missed_lost a.n a.m a.marks.now l.out l.e l.j _ g.0 (omega arith) w.if-marks-j-ne-HELD.true g.3 refl l.invariant)
      | else-marks-j-ne-HELD w ↦ rw (w.out-is, w.e-is) (missed_held a.n a.m a.marks.now l.out l.e l.j g.0 (omega arith) w.if-marks-j-ne-HELD.false l.invariant)
    ]

pub returns : goal.returns
returns c = let l = c.loop-j in let a = c.args in let g = c.requires in missed_end a.n a.m a.marks.now l.out l.e l.j g.0 (omega arith) l.invariant
