-- `sfc::note::ranges::list_ranges` meets its contract: refused, or the ranges of as many marks as are open. Assumes nothing.
use Prim.Native.Nat.{◌≤◌}
use mathlib.Core.Path.{sym, ◌∙◌}
use native.Mathlib.Omega.{arith}
use lib.ListN.{take}
use Rattle.sfc.proofs.note.MissingLaws.{among_right}
use Rattle.sfc.proofs.note.RangeLaws.{ranges-few}
use Rattle.sfc.proofs.note.PairLaws.{ranges-wrong, ranges_short, ranges_good}
use borrow.Author.Rules.{rules}
use Rattle.sfc.proofs.answer.CheckLaws.{refuses, let_by}
use borrow.Author.Tests.{ltb-true, ltb-false}
use Rattle.sfc.proofs.note.ranges.list_ranges.Goals as goal

pub returns-in_err-refuse_if : goal.returns-in_err-refuse_if
returns-in_err-refuse_if c =
    let a = c.args in
    let t = refuses c.refuse_if.ensures c.in_err-refuse_if.was c.from_residual.ensures.1 in
    rw t.1 (ranges-wrong a.h a.marks.now _ (sym c.is_marks_wrong.ensures ∙ t.0))

pub slice_bounds-count_ranges-end : goal.slice_bounds-count_ranges-end
slice_bounds-count_ranges-end c =
    let a = c.args in
    let w = c.is_marks_wrong in
    let o = c.open_marks-among in
    let f = let_by _ c.refuse_if.ensures c.in_ok-refuse_if.was in
    let g = among_right a.h a.marks.now _ o.result w.ensures f o.ensures.0 in
    sym g.2

pub overflow_mul-length : goal.overflow_mul-length
overflow_mul-length c =
    let a = c.args in
    let w = c.is_marks_wrong in
    let o = c.open_marks-among in
    let f = let_by _ c.refuse_if.ensures c.in_ok-refuse_if.was in
    let g = among_right a.h a.marks.now _ o.result w.ensures f o.ensures.0 in
    let k = c.count_ranges-count in
    let few : k.result ≤ 1024 = omega (arith, g.2, g.1, k.ensures, ranges-few 0 (take o.result a.marks.now)) in
    search rules

pub returns-in_err-refuse_if-2 : goal.returns-in_err-refuse_if-2
returns-in_err-refuse_if-2 c =
    let a = c.args in
    let w = c.is_marks_wrong in
    let o = c.open_marks-among in
    let f = let_by _ c.refuse_if.ensures c.in_ok-refuse_if.was in
    let g = among_right a.h a.marks.now _ o.result w.ensures f o.ensures.0 in
    let k = c.count_ranges-count in
    let t = refuses c.refuse_if-2.ensures c.in_err-refuse_if-2.was c.from_residual-in_err-refuse_if-2.ensures.1 in
    rw t.1 (ranges_short a.h a.marks.now _ (sym w.ensures ∙ f) o.result _ o.ensures.1 k.ensures (ltb-true _ _ t.0))

pub slice_bounds-put_range_bounds-end : goal.slice_bounds-put_range_bounds-end
slice_bounds-put_range_bounds-end c =
    let a = c.args in
    let w = c.is_marks_wrong in
    let o = c.open_marks-among in
    let f = let_by _ c.refuse_if.ensures c.in_ok-refuse_if.was in
    let g = among_right a.h a.marks.now _ o.result w.ensures f o.ensures.0 in
    sym g.2

pub put_range_bounds-requires : goal.put_range_bounds-requires
put_range_bounds-requires c =
    let a = c.args in
    let w = c.is_marks_wrong in
    let o = c.open_marks-among in
    let f = let_by _ c.refuse_if.ensures c.in_ok-refuse_if.was in
    let g = among_right a.h a.marks.now _ o.result w.ensures f o.ensures.0 in
    let k = c.count_ranges-count in
    (omega (arith, g.2, g.1), k.ensures, (ltb-false _ _ (let_by _ c.refuse_if-2.ensures c.in_ok-refuse_if-2.was)))

pub returns : goal.returns
returns c =
    let a = c.args in
    let w = c.is_marks_wrong in
    let o = c.open_marks-among in
    let f = let_by _ c.refuse_if.ensures c.in_ok-refuse_if.was in
    let g = among_right a.h a.marks.now _ o.result w.ensures f o.ensures.0 in
    let k = c.count_ranges-count in
    ranges_good a.h a.marks.now _ (sym w.ensures ∙ f) o.result _ o.ensures.1 k.ensures _ (ltb-false _ _ (let_by _ c.refuse_if-2.ensures c.in_ok-refuse_if-2.was)) c.put_range_bounds.ensures
