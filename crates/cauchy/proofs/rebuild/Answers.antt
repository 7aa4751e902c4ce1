-- `rebuild` meets its contract. Assumes nothing.
use mathlib.Core.Path.{sym, ◌∙◌}
use native.Mathlib.Omega.{arith}
use Rattle.std.proofs.lemmas.Result.{err_from_is_err_and}
use Rattle.cauchy.proofs.columns.EndLaws.{rebuild_shape, rebuild_memory, rebuild_few, rebuild_done}
use Rattle.cauchy.proofs.rebuild.Goals as goal

pub returns-in_err-code : goal.returns-in_err-code
returns-in_err-code c =
    let a = c.args in
    let p = err_from_is_err_and c.from_residual.result c.from_residual.ensures.1 in
    rw (p.1, p.2, c.in_err-code.ensures.0) (rebuild_shape a.shape.n a.shape.m a.shape.s a.marks.now a.store.now a.scratch.now a.numbers.now a.columns.first a.columns.count c.in_err-code.ensures.1)

pub returns-then-is_memory_wrong : goal.returns-then-is_memory_wrong
returns-then-is_memory_wrong c =
    let a = c.args in
    let e = c.in_ok-code.ensures in
    rebuild_memory a.shape.n a.shape.m a.shape.s a.marks.now a.store.now a.scratch.now a.numbers.now a.columns.first a.columns.count e.0
    (rw (e.1, e.2, e.3) at (sym c.is_memory_wrong.ensures ∙ c.if-is_memory_wrong.true))

pub returns-then-held_count-code : goal.returns-then-held_count-code
returns-then-held_count-code c =
    let a = c.args in
    let e = c.in_ok-code.ensures in
    rebuild_few a.shape.n a.shape.m a.shape.s a.marks.now a.store.now a.scratch.now a.numbers.now a.columns.first a.columns.count e.0
    (rw (e.1, e.2, e.3) at (sym c.is_memory_wrong.ensures ∙ c.if-is_memory_wrong.false)) (omega (arith, c.held_count.ensures, c.if-held_count-code.true, e.1))

pub returns : goal.returns
returns c =
    let a = c.args in
    let e = c.in_ok-code.ensures in
    rebuild_done a.shape.n a.shape.m a.shape.s a.marks.now a.store.now a.scratch.now a.numbers.now a.columns.first a.columns.count _ _ e.0
    (rw (e.1, e.2, e.3) at (sym c.is_memory_wrong.ensures ∙ c.if-is_memory_wrong.false)) (omega (arith, c.held_count.ensures, c.if-held_count-code.false, e.1))
    (rw (e.1, e.2, e.3) at c.rebuild_words.ensures.0) c.rebuild_words.ensures.1
