-- `sfc::give::release::check_lent` meets its contract, and counts the columns left only of what 71 lets through. Assumes nothing.
use mathlib.Core.Path.{sym, ◌∙◌}
use native.Mathlib.Omega.{arith}
use Rattle.sfc.proofs.answer.CheckLaws.{let_by}
use Rattle.sfc.proofs.give.TurnLaws.{right_columns}
use Rattle.sfc.proofs.give.release.check_lent.Goals as goal

pub columns_left-left-requires : goal.columns_left-left-requires
columns_left-left-requires c =
    let a = c.args in
    let r = right_columns a.h.size a.h.n a.h.m a.h.s a.store.now a.marks.now a.scratch.now a.finished (sym c.is_columns_wrong-wrong.ensures ∙ let_by _ c.refuse_if.ensures c.in_ok-refuse_if.was) in
    (omega (arith, r.right.marks_long), r.beside.most)
