-- `recovery_four` meets its contract. Assumes nothing.
use mathlib.Core.Path.{◌∙◌}
use Rattle.std.proofs.lemmas.Result.{err_from_is_err_and}
use Rattle.cauchy.proofs.CallLaws.{four_shape, four_parts}
use Rattle.cauchy.proofs.recovery_four.Goals as goal

pub returns-in_err-code : goal.returns-in_err-code
returns-in_err-code c =
    let a = c.args in
    let p = err_from_is_err_and c.from_residual.result c.from_residual.ensures.1 in
    rw (p.1, p.2, c.in_err-code.ensures.0) (four_shape a.shape.n a.shape.m a.shape.s a.k a.front.now a.last.now a.out.now c.in_err-code.ensures.1)

pub returns : goal.returns
returns c =
    let a = c.args in
    let e = c.in_ok-code.ensures in
    let f = rw (c.least-count.ensures.0, c.saturating_sub.ensures, e.1, e.2, e.3) at c.put_recovery.ensures in
    f ∙ four_parts a.shape.n a.shape.m a.shape.s a.k a.front.now a.last.now a.out.now e.0
