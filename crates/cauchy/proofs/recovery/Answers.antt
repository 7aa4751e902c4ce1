-- `recovery` meets its contract. Assumes nothing.
use mathlib.Core.Path.{◌∙◌}
use native.Mathlib.Omega.{arith}
use Rattle.std.proofs.lemmas.Result.{err_from_is_err_and}
use Rattle.cauchy.proofs.CallLaws.{recovery_shape, recovery_length, recovery_parts}
use Rattle.cauchy.proofs.recovery.Goals as goal

pub returns-in_err-code : goal.returns-in_err-code
returns-in_err-code c =
    let a = c.args in
    let p = err_from_is_err_and c.from_residual.result c.from_residual.ensures.1 in
    rw (p.1, p.2, c.in_err-code.ensures.0) (recovery_shape a.shape.n a.shape.m a.shape.s a.k a.store.now a.out.now c.in_err-code.ensures.1)

pub returns-then-store-code : goal.returns-then-store-code
returns-then-store-code c =
    let a = c.args in
    let e = c.in_ok-code.ensures in
    recovery_length a.shape.n a.shape.m a.shape.s a.k a.store.now a.out.now (rw (e.1, e.3) at c.if-store-code.true)

pub returns : goal.returns
returns c =
    let a = c.args in
    let e = c.in_ok-code.ensures in
    let p = c.split_at.ensures in
    rw (p.front, p.back, e.1, e.2, e.3) at c.put_recovery.ensures
    ∙ recovery_parts a.shape.n a.shape.m a.shape.s a.k a.store.now a.out.now e.0 (omega (arith, c.in_ok-code.code.n_least)) (rw (e.1, e.3) at c.if-store-code.false)
