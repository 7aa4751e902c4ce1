-- `pass_backward` meets its contract. Assumes nothing.
use mathlib.Core.Path.{◌≡◌, subst}
use Prim.Native.Nat.{ℕ, suc, ◌-◌}
use native.Mathlib.Omega.{arith}
use lib.ListN.{length}
use Rattle.cauchy.proofs.solver.Passes.{Backward, backward_start, backward_next, backward-end}
use Rattle.cauchy.specs.inner.Promises.{UnknownFound}
use Rattle.cauchy.specs.inner.System.{field}
use Rattle.cauchy.proofs.solver.ColumnLaws.{steps_start, steps_so, steps_then}
use Rattle.cauchy.proofs.solver.System.pass_backward.Goals as goal

pub loop-t-init : goal.loop-t-init
loop-t-init c =
    let q = c.args.self.now in
    steps_start q.range.s q.range.first q.range.count (length q.xs.now) q.range.words _ c.args.b.now (λ x l. backward_start field q.xs.now q.ys.now q.square x l)

pub loop-t-preserved : goal.loop-t-preserved
loop-t-preserved c =
    let q = c.args.self.now in
    let l = c.loop-t in
    let e : l.t ≡ suc (l.t - 1) = omega arith in
    steps_then q.range.s q.range.first q.range.count (length q.xs.now) q.range.words (λ x y. Backward field q.xs.now q.ys.now x l.t y) (UnknownFound field q.xs.now q.ys.now (l.t - 1)) _ c.args.b.now l.b _
    (λ x y z k f g. backward_next field q.xs.now q.ys.now q.square x (l.t - 1) y z k (omega arith) (subst (λ (n : ℕ). Backward field q.xs.now q.ys.now x n y) e f) g) l.invariant c.find_unknown.ensures

pub returns : goal.returns
returns c =
    let q = c.args.self.now in
    let l = c.loop-t in
    let e : l.t ≡ 0 = omega arith in
    steps_so q.range.s q.range.first q.range.count (length q.xs.now) q.range.words (λ x y. Backward field q.xs.now q.ys.now x l.t y) _ c.args.b.now l.b
    (λ x y k f. backward-end field q.xs.now q.ys.now q.square x y (subst (λ (n : ℕ). Backward field q.xs.now q.ys.now x n y) e f)) l.invariant
