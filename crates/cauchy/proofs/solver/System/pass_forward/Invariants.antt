-- `pass_forward` meets its contract. Assumes nothing.
use lib.ListN.{length}
use Rattle.cauchy.proofs.solver.Passes.{Forward}
use Rattle.cauchy.specs.inner.System.{field}
use Rattle.cauchy.specs.inner.Ranges.{Steps}
use Rattle.cauchy.proofs.solver.System.pass_forward.Given as goal

abbrev pub invariant-loop-t : goal.invariant-loop-t
invariant-loop-t l =
    let g = l.self.range in
    Steps (λ a a'. Forward field l.self.xs.now l.self.ys.now a l.t a') g.s g.first g.count (length l.self.xs.now) l.initial.b l.b
