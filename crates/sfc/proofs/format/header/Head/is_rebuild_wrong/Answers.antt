-- `sfc::format::header::Head::is_rebuild_wrong` meets its contract. Assumes nothing.
use mathlib.Core.Path.{sym, ◌∙◌}
use Rattle.sfc.proofs.give.RebuildLaws.{wrong_first, wrong-rest, scratch_small}
use Rattle.sfc.proofs.format.header.Head.is_rebuild_wrong.Goals as goal

pub returns-then-is_lent_wrong : goal.returns-then-is_lent_wrong
returns-then-is_lent_wrong c = wrong_first _ _ _ (sym c.is_lent_wrong.ensures ∙ c.if-is_lent_wrong.true)

pub overflow_mul-result : goal.overflow_mul-result
overflow_mul-result c =
    let a = c.args in let h = a.self.now in
    record { fits = scratch_small h.size h.n h.m h.s a.store.now a.marks.now (sym c.is_lent_wrong.ensures ∙ c.if-is_lent_wrong.false) }

pub returns : goal.returns
returns c = wrong-rest _ _ _ (sym c.is_lent_wrong.ensures ∙ c.if-is_lent_wrong.false)
