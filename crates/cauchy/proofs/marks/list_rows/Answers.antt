-- `list_rows` meets its contract. Assumes nothing.
use mathlib.Core.Path.{◌≡◌, refl}
use native.Mathlib.Omega.{arith}
use Rattle.cauchy.proofs.marks.ListLaws.{picked_start, picked_more, picked_skip, picked-take}
use Rattle.cauchy.proofs.marks.list_rows.Goals as goal
use Rattle.cauchy.proofs.marks.list_rows.Goals.{then-marks-n-eq-HELD, else-marks-n-eq-HELD}

pub loop-got-init : goal.loop-got-init
loop-got-init c = (picked_start c.args.n c.args.m c.args.marks.now c.args.out.now c.args.e c.requires.2 (λ i. (c.type_inv.out i).fits), omega arith)

pub bounds-marks-n : goal.bounds-marks-n
bounds-marks-n c = let l = c.loop-got in let a = c.args in omega (arith, picked_more a.n a.m a.marks.now l.out a.e l.got l.k c.requires.0 c.requires.4 (omega arith) l.invariant.0, c.requires.0)

pub overflow_cast-out : goal.overflow_cast-out
overflow_cast-out c = let l = c.loop-got in let a = c.args in omega (arith, picked_more a.n a.m a.marks.now l.out a.e l.got l.k c.requires.0 c.requires.4 (omega arith) l.invariant.0, c.requires.1)

pub loop-got-smaller : goal.loop-got-smaller
loop-got-smaller c = let l = c.loop-got in let a = c.args in omega (arith, picked_more a.n a.m a.marks.now l.out a.e l.got l.k c.requires.0 c.requires.4 (omega arith) l.invariant.0)

pub loop-got-preserved : goal.loop-got-preserved
loop-got-preserved c = let l = c.loop-got in let a = c.args in let g = c.requires in
    let q = picked_more a.n a.m a.marks.now l.out a.e l.got l.k c.requires.0 c.requires.4 (omega arith) l.invariant.0 in
    elim c.if-marks-n-eq-HELD.branch [
      | then-marks-n-eq-HELD w ↦
          rw (w.out-is, w.got-is) (picked-take a.n a.m a.marks.now l.out a.e l.got l.k _ w.if-marks-n-eq-HELD.true (omega arith) g.3 refl (omega (arith, q, g.1)) l.invariant.0, omega (arith, q))
      | else-marks-n-eq-HELD w ↦
          rw (w.out-is, w.got-is) (picked_skip a.n a.m a.marks.now l.out a.e l.got l.k w.if-marks-n-eq-HELD.false l.invariant.0, omega (arith, q))
    ]

pub returns-clause-rows : goal.returns-clause-rows
returns-clause-rows c = let l = c.loop-got in let a = c.args in let e : l.got ≡ a.e = omega (arith, l.invariant.0.most) in rw e at l.invariant.0.list

pub returns-clause-words : goal.returns-clause-words
returns-clause-words c = c.loop-got.invariant.0.words
