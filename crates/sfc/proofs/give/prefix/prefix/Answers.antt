-- `sfc::give::prefix::prefix` meets its contract, by its three answers. Assumes nothing.
use Prim.Native.Nat.{ℕ}
use mathlib.Core.List.{List, ◌++◌}
use mathlib.Core.Path.{refl, sym, ap, ◌∙◌}
use lib.ListN.{drop}
use native.Mathlib.Omega.{arith}
use lib.Seq.{length-take-le}
use Rattle.little.proofs.Laws.{test_laws}
use Rattle.sfc.proofs.session.SessionLaws.{right_lent}
use Rattle.sfc.proofs.give.PrefixLaws.{blocks-few, end_in, prefix_lent, prefix_short, prefix_given_lem}
use Rattle.sfc.proofs.answer.CheckLaws.{refuses, let_by}
use borrow.Author.Tests.{ltb-true, ltb-false}
use Rattle.sfc.proofs.give.prefix.prefix.Goals as goal

pub returns-in_err-refuse_if : goal.returns-in_err-refuse_if
returns-in_err-refuse_if c =
    let a = c.args in
    let t = refuses c.refuse_if.ensures c.in_err-refuse_if.was c.from_residual.ensures.1 in
    rw t.1 (prefix_lent a.h a.store.now a.marks.now a.out.now (sym c.is_lent_wrong-wrong.ensures ∙ t.0))

pub slice_bounds-count_leading-end : goal.slice_bounds-count_leading-end
slice_bounds-count_leading-end c =
    let a = c.args in
    let r = right_lent a.h.size a.h.n a.h.m a.h.s a.store.now a.marks.now (sym c.is_lent_wrong-wrong.ensures ∙ let_by _ c.refuse_if.ensures c.in_ok-refuse_if.was) in
    sym (length-take-le a.h.n a.marks.now (omega (arith, r.marks_long)))

pub overflow_mul-blocks : goal.overflow_mul-blocks
overflow_mul-blocks c = let a = c.args in let f = blocks-few a.h a.store.now a.marks.now a.out.now (sym c.is_lent_wrong-wrong.ensures ∙ let_by _ c.refuse_if.ensures c.in_ok-refuse_if.was) c.count_leading-blocks.result c.count_leading-blocks.ensures in omega (arith, f.1, f.2)

pub returns-in_err-refuse_if-2 : goal.returns-in_err-refuse_if-2
returns-in_err-refuse_if-2 c =
    let a = c.args in
    let t = refuses c.refuse_if-2.ensures c.in_err-refuse_if-2.was c.from_residual-in_err-refuse_if-2.ensures.1 in
    rw t.1 (prefix_short a.h a.store.now a.marks.now a.out.now (sym c.is_lent_wrong-wrong.ensures ∙ let_by _ c.refuse_if.ensures c.in_ok-refuse_if.was) _ _ c.count_leading-blocks.ensures (test_laws.either_least c.least-end.ensures) (ltb-true _ _ t.0))

pub slice_bounds-copy_from_slice-end-3 : goal.slice_bounds-copy_from_slice-end-3
slice_bounds-copy_from_slice-end-3 c = let a = c.args in sym (length-take-le _ a.store.now (end_in a.h a.store.now a.marks.now a.out.now (sym c.is_lent_wrong-wrong.ensures ∙ let_by _ c.refuse_if.ensures c.in_ok-refuse_if.was) _ _ c.count_leading-blocks.ensures (test_laws.either_least c.least-end.ensures)))

pub copy_from_slice-requires : goal.copy_from_slice-requires
copy_from_slice-requires c = let a = c.args in omega (arith, length-take-le c.least-end.result a.out.now (ltb-false _ _ (let_by _ c.refuse_if-2.ensures c.in_ok-refuse_if-2.was)), length-take-le c.least-end.result a.store.now (end_in a.h a.store.now a.marks.now a.out.now (sym c.is_lent_wrong-wrong.ensures ∙ let_by _ c.refuse_if.ensures c.in_ok-refuse_if.was) _ _ c.count_leading-blocks.ensures (test_laws.either_least c.least-end.ensures)))

pub overflow_cast-result : goal.overflow_cast-result
overflow_cast-result c = let a = c.args in let f = blocks-few a.h a.store.now a.marks.now a.out.now (sym c.is_lent_wrong-wrong.ensures ∙ let_by _ c.refuse_if.ensures c.in_ok-refuse_if.was) c.count_leading-blocks.result c.count_leading-blocks.ensures in let e = end_in a.h a.store.now a.marks.now a.out.now (sym c.is_lent_wrong-wrong.ensures ∙ let_by _ c.refuse_if.ensures c.in_ok-refuse_if.was) _ _ c.count_leading-blocks.ensures (test_laws.either_least c.least-end.ensures) in omega (arith, f.0, f.2, (right_lent a.h.size a.h.n a.h.m a.h.s a.store.now a.marks.now (sym c.is_lent_wrong-wrong.ensures ∙ let_by _ c.refuse_if.ensures c.in_ok-refuse_if.was)).shape.n_most)

pub overflow_cast-result-2 : goal.overflow_cast-result-2
overflow_cast-result-2 c = let a = c.args in let f = blocks-few a.h a.store.now a.marks.now a.out.now (sym c.is_lent_wrong-wrong.ensures ∙ let_by _ c.refuse_if.ensures c.in_ok-refuse_if.was) c.count_leading-blocks.result c.count_leading-blocks.ensures in let e = end_in a.h a.store.now a.marks.now a.out.now (sym c.is_lent_wrong-wrong.ensures ∙ let_by _ c.refuse_if.ensures c.in_ok-refuse_if.was) _ _ c.count_leading-blocks.ensures (test_laws.either_least c.least-end.ensures) in omega (arith, f.2)

pub returns : goal.returns
returns c =
    let a = c.args in
    prefix_given_lem a.h a.store.now a.marks.now a.out.now (sym c.is_lent_wrong-wrong.ensures ∙ let_by _ c.refuse_if.ensures c.in_ok-refuse_if.was) _ _ c.count_leading-blocks.ensures (test_laws.either_least c.least-end.ensures)
    (ltb-false _ _ (let_by _ c.refuse_if-2.ensures c.in_ok-refuse_if-2.was)) _ refl _ (ap (λ (u : List ℕ). u ++ drop c.least-end.result a.out.now) c.copy_from_slice.ensures.after)
