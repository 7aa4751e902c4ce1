-- `solve_in` meets its contract. Assumes nothing.
use mathlib.Core.Path.{◌≡◌, sym, ◌∙◌, ap}
use lib.ListN.{length}
use Rattle.cauchy.proofs.algebra.SystemLaws.{solve-passes}
use Rattle.cauchy.specs.inner.Promises.{forward, backward}
use Rattle.cauchy.specs.inner.System.{field}
use Rattle.cauchy.proofs.solver.ColumnLaws.{steps_then, steps_solve}
use Rattle.cauchy.proofs.solver.System.solve_in.Goals as goal

pub returns : goal.returns
returns g c =
    let a = c.args in
    let q = a.self.now in
    steps_solve q.range.s q.range.first q.range.count q.xs.now q.ys.now a.b.now _
    (steps_then q.range.s q.range.first q.range.count (length q.xs.now) q.range.words (λ x y. y ≡ forward field q.xs.now q.ys.now x) (λ x y. y ≡ backward field q.xs.now q.ys.now x) _ a.b.now _ _
    (λ x y z k f g. g ∙ ap (backward field q.xs.now q.ys.now) f ∙ sym (solve-passes field q.xs.now q.ys.now x)) c.pass_forward.ensures c.pass_backward.ensures)
