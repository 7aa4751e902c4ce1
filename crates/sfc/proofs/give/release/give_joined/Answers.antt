-- `sfc::give::release::give_joined` meets its contract, by what the hash says. Assumes nothing.
use Rattle.sfc.proofs.answer.CheckLaws.{refuses, let_by}
use Rattle.sfc.proofs.give.ReleaseLaws.{joined-not, joined-all}
use Rattle.sfc.proofs.give.release.give_joined.Goals as goal

pub give_checked-given-requires : goal.give_checked-given-requires
give_checked-given-requires c = let p = c.requires in ((p.cut, p.gather), p.room)

pub returns-in_err-refuse_if : goal.returns-in_err-refuse_if
returns-in_err-refuse_if c =
    let a = c.args in
    let t = refuses c.refuse_if.ensures c.in_err-refuse_if.was c.from_residual.ensures.1 in
    rw t.1 (joined-not a.h a.store.now a.marks.now a.scratch.now a.out.now _ _ t.0 c.give_checked-given.ensures.0 c.give_checked-given.ensures.1)

pub overflow_cast-result : goal.overflow_cast-result
overflow_cast-result c = record { fits = c.requires.small }

pub returns : goal.returns
returns c =
    let a = c.args in
    joined-all a.h a.store.now a.marks.now a.scratch.now a.out.now _ _ (let_by _ c.refuse_if.ensures c.in_ok-refuse_if.was) c.give_checked-given.ensures.0 c.give_checked-given.ensures.1
