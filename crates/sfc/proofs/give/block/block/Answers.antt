-- `sfc::give::block::block` meets its contract, by its five answers. Assumes nothing.
use mathlib.Core.Path.{◌∙◌, ap}
use native.Mathlib.Omega.{arith}
use borrow.Author.Tests.{ltb-false, leb-false}
use Rattle.little.proofs.Laws.{block_laws}
use Rattle.little.specs.Runs.{zeros}
use Rattle.sfc.proofs.give.BlockLaws.{blocked_wrong, blocked_none, blocked_short, blocked_few, blocked_given}
use Rattle.sfc.proofs.give.RebuildLaws.{rebuild_told, right_rebuild, cut_right}
use Rattle.sfc.proofs.answer.CheckLaws.{refuses, let_by}
use Rattle.sfc.proofs.give.block.block.Goals as goal

pub returns-in_err-refuse_if : goal.returns-in_err-refuse_if
returns-in_err-refuse_if c =
    let t = refuses c.refuse_if.ensures c.in_err-refuse_if.was c.from_residual.ensures.1 in
    rw t.1 (blocked_wrong c.args.h c.args.store.now c.args.marks.now c.args.number.0 (record { scratch = c.args.scratch.now; numbers = c.args.numbers.now; output = c.args.out.now }) (rebuild_told c.args.h c.args.store.now c.args.marks.now (record { scratch = c.args.scratch.now; numbers = c.args.numbers.now; output = c.args.out.now }) _ _ c.is_rebuild_wrong-wrong.ensures t.0))

pub returns-in_err-refuse_if-2 : goal.returns-in_err-refuse_if-2
returns-in_err-refuse_if-2 c =
    let t = refuses c.refuse_if-2.ensures c.in_err-refuse_if-2.was c.from_residual-in_err-refuse_if-2.ensures.1 in
    rw t.1 (blocked_none c.args.h c.args.store.now c.args.marks.now c.args.number.0 (record { scratch = c.args.scratch.now; numbers = c.args.numbers.now; output = c.args.out.now }) (rebuild_told c.args.h c.args.store.now c.args.marks.now (record { scratch = c.args.scratch.now; numbers = c.args.numbers.now; output = c.args.out.now }) _ _ c.is_rebuild_wrong-wrong.ensures (let_by _ c.refuse_if.ensures c.in_ok-refuse_if.was)) t.0)

pub returns-in_err-refuse_if-3 : goal.returns-in_err-refuse_if-3
returns-in_err-refuse_if-3 c =
    let t = refuses c.refuse_if-3.ensures c.in_err-refuse_if-3.was c.from_residual-in_err-refuse_if-3.ensures.1 in
    rw t.1 (blocked_short c.args.h c.args.store.now c.args.marks.now c.args.number.0 (record { scratch = c.args.scratch.now; numbers = c.args.numbers.now; output = c.args.out.now }) (rebuild_told c.args.h c.args.store.now c.args.marks.now (record { scratch = c.args.scratch.now; numbers = c.args.numbers.now; output = c.args.out.now }) _ _ c.is_rebuild_wrong-wrong.ensures (let_by _ c.refuse_if.ensures c.in_ok-refuse_if.was)) (let_by _ c.refuse_if-2.ensures c.in_ok-refuse_if-2.was) t.0)

pub give_block-given-requires : goal.give_block-given-requires
give_block-given-requires c = ((right_rebuild c.args.h c.args.store.now c.args.marks.now (record { scratch = c.args.scratch.now; numbers = c.args.numbers.now; output = c.args.out.now }) (rebuild_told c.args.h c.args.store.now c.args.marks.now (record { scratch = c.args.scratch.now; numbers = c.args.numbers.now; output = c.args.out.now }) _ _ c.is_rebuild_wrong-wrong.ensures (let_by _ c.refuse_if.ensures c.in_ok-refuse_if.was))).able, omega (arith, leb-false _ _ (let_by _ c.refuse_if-2.ensures c.in_ok-refuse_if-2.was)), omega (arith, ltb-false _ _ (let_by _ c.refuse_if-3.ensures c.in_ok-refuse_if-3.was)))

pub returns-in_err-refuse_if-4 : goal.returns-in_err-refuse_if-4
returns-in_err-refuse_if-4 c =
    let t = refuses c.refuse_if-4.ensures c.in_err-refuse_if-4.was c.from_residual-in_err-refuse_if-4.ensures.1 in
    rw t.1 (blocked_few c.args.h c.args.store.now c.args.marks.now c.args.number.0 (record { scratch = c.args.scratch.now; numbers = c.args.numbers.now; output = c.args.out.now }) (rebuild_told c.args.h c.args.store.now c.args.marks.now (record { scratch = c.args.scratch.now; numbers = c.args.numbers.now; output = c.args.out.now }) _ _ c.is_rebuild_wrong-wrong.ensures (let_by _ c.refuse_if.ensures c.in_ok-refuse_if.was)) (let_by _ c.refuse_if-2.ensures c.in_ok-refuse_if-2.was) (let_by _ c.refuse_if-3.ensures c.in_ok-refuse_if-3.was) _ _ _
    (c.clear.ensures ∙ ap zeros c.give_block-given.ensures.2.0) (c.clear-2.ensures ∙ ap zeros c.give_block-given.ensures.2.1)
    _ t.0 c.give_block-given.ensures.0 c.give_block-given.ensures.1)

pub overflow_mul-result : goal.overflow_mul-result
overflow_mul-result c =
    let r = right_rebuild c.args.h c.args.store.now c.args.marks.now (record { scratch = c.args.scratch.now; numbers = c.args.numbers.now; output = c.args.out.now }) (rebuild_told c.args.h c.args.store.now c.args.marks.now (record { scratch = c.args.scratch.now; numbers = c.args.numbers.now; output = c.args.out.now }) _ _ c.is_rebuild_wrong-wrong.ensures (let_by _ c.refuse_if.ensures c.in_ok-refuse_if.was)) in
    let k = cut_right c.args.h.size c.args.h.n c.args.h.m c.args.h.s r.right.shape in
    record { fits = omega (arith, k.small, r.right.shape.s_least, block_laws.block_inside c.args.h.s c.args.h.n c.args.number.0 (omega (arith, leb-false _ _ (let_by _ c.refuse_if-2.ensures c.in_ok-refuse_if-2.was)))) }

pub returns : goal.returns
returns c =
    blocked_given c.args.h c.args.store.now c.args.marks.now c.args.number.0 (record { scratch = c.args.scratch.now; numbers = c.args.numbers.now; output = c.args.out.now }) (rebuild_told c.args.h c.args.store.now c.args.marks.now (record { scratch = c.args.scratch.now; numbers = c.args.numbers.now; output = c.args.out.now }) _ _ c.is_rebuild_wrong-wrong.ensures (let_by _ c.refuse_if.ensures c.in_ok-refuse_if.was)) (let_by _ c.refuse_if-2.ensures c.in_ok-refuse_if-2.was) (let_by _ c.refuse_if-3.ensures c.in_ok-refuse_if-3.was) _ _ _
    (c.clear.ensures ∙ ap zeros c.give_block-given.ensures.2.0) (c.clear-2.ensures ∙ ap zeros c.give_block-given.ensures.2.1)
    _ (let_by _ c.refuse_if-4.ensures c.in_ok-refuse_if-4.was) c.give_block-given.ensures.0 c.give_block-given.ensures.1
