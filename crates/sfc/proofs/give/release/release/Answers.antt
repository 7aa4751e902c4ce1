-- `sfc::give::release::release` meets its contract: a refusal by what is lent, or what the judged bytes come to. Assumes nothing.
use mathlib.Core.Path.{sym, ◌∙◌}
use borrow.Author.Tests.{ltb-false}
use Rattle.sfc.specs.give.Turns.{release_lent}
use Rattle.sfc.proofs.answer.CheckLaws.{passed}
use Rattle.sfc.proofs.give.RebuildLaws.{cut_right}
use Rattle.sfc.proofs.give.TurnLaws.{right_columns}
use Rattle.sfc.proofs.give.ReleaseLaws.{size_small, gatherable, released_not, released_judged}
use Rattle.sfc.proofs.give.release.release.Goals as goal

pub returns-in-Err : goal.returns-in-Err
returns-in-Err c =
    let a = c.args in
    released_not a.h a.store.now a.marks.now a.scratch.now a.finished.0 a.out.now _ (sym c.check_lent-checked.ensures ∙ c.in-Err.is)

pub give_joined-handed-requires : goal.give_joined-handed-requires
give_joined-handed-requires c =
    let a = c.args in
    let p = passed (release_lent a.h a.store.now a.marks.now a.scratch.now a.finished.0 a.out.now) (sym c.check_lent-checked.ensures ∙ c.in-Ok.is) in
    let r = right_columns a.h.size a.h.n a.h.m a.h.s a.store.now a.marks.now a.scratch.now a.finished.0 p.0 in
    record {
      cut = cut_right a.h.size a.h.n a.h.m a.h.s r.right.shape;
      small = size_small a.h.size a.h.n a.h.m a.h.s r.right.shape;
      gather = gatherable a.h.size a.h.n a.h.m a.h.s a.store.now a.marks.now a.scratch.now a.finished.0 r (ltb-false _ _ p.1.1.0);
      room = ltb-false _ _ p.1.0;
    }

pub returns-in-Ok : goal.returns-in-Ok
returns-in-Ok c =
    let a = c.args in
    released_judged a.h a.store.now a.marks.now a.scratch.now a.finished.0 a.out.now (sym c.check_lent-checked.ensures ∙ c.in-Ok.is)
    _ _ _ c.give_joined-handed.ensures c.clear.ensures
