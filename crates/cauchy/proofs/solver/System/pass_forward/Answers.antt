-- `pass_forward` meets its contract. Assumes nothing.
use mathlib.Core.Path.{◌≡◌}
use native.Mathlib.Numerals.{add-one}
use native.Mathlib.Omega.{arith}
use lib.ListN.{length}
use Rattle.cauchy.proofs.solver.Passes.{Forward, forward_start, forward_next, forward-end}
use Rattle.cauchy.specs.inner.Promises.{RowTakenOff}
use Rattle.cauchy.specs.inner.System.{field}
use Rattle.cauchy.proofs.solver.ColumnLaws.{steps_start, steps_so, steps_then}
use Rattle.cauchy.proofs.solver.System.pass_forward.Goals as goal

pub loop-t-init : goal.loop-t-init
loop-t-init c =
    let q = c.args.self.now in
    steps_start q.range.s q.range.first q.range.count (length q.xs.now) q.range.words _ c.args.b.now (λ x l. forward_start field q.xs.now q.ys.now q.square x l)

pub loop-t-preserved : goal.loop-t-preserved
loop-t-preserved c =
    let q = c.args.self.now in
    let l = c.loop-t in
    steps_then q.range.s q.range.first q.range.count (length q.xs.now) q.range.words (λ x y. Forward field q.xs.now q.ys.now x l.t y) (RowTakenOff field q.xs.now q.ys.now l.t) _ c.args.b.now l.b _
    (λ x y z k f g. rw (add-one l.t) (forward_next field q.xs.now q.ys.now q.square x l.t y z c.loop-t-test.true f g)) l.invariant c.take_off_row.ensures

pub returns : goal.returns
returns c =
    let q = c.args.self.now in
    let l = c.loop-t in
    let e : l.t ≡ length q.xs.now = omega arith in
    steps_so q.range.s q.range.first q.range.count (length q.xs.now) q.range.words (λ x y. Forward field q.xs.now q.ys.now x l.t y) _ c.args.b.now l.b
    (λ x y k f. forward-end field q.xs.now q.ys.now q.square x y (rw e at f)) l.invariant
