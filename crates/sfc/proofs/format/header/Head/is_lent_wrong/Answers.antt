-- `sfc::format::header::Head::is_lent_wrong` meets its contract; the product is taken only of numbers within the limits. Assumes nothing.
use mathlib.Core.Path.{sym, ◌∙◌}
use native.Mathlib.Omega.{arith}
use Rattle.sfc.proofs.session.MarkLaws.{right_marks}
use Rattle.sfc.proofs.session.SessionLaws.{lent_marks, lent_store}
use Rattle.sfc.proofs.format.header.Head.is_lent_wrong.Goals as goal

pub returns-then-is_marks_wrong : goal.returns-then-is_marks_wrong
returns-then-is_marks_wrong c = let a = c.args in let h = a.self.now in lent_marks h.size h.n h.m h.s a.store.now a.marks.now (sym c.is_marks_wrong.ensures ∙ c.if-is_marks_wrong.true)

pub overflow_mul-result : goal.overflow_mul-result
overflow_mul-result c = let a = c.args in let h = a.self.now in omega (arith, (right_marks h.size h.n h.m h.s a.marks.now (sym c.is_marks_wrong.ensures ∙ c.if-is_marks_wrong.false)).shape.small)

pub returns : goal.returns
returns c = let a = c.args in let h = a.self.now in lent_store h.size h.n h.m h.s a.store.now a.marks.now (sym c.is_marks_wrong.ensures ∙ c.if-is_marks_wrong.false)
