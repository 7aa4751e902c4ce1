-- `sfc::note::missing::list_missing` meets its contract: refused, or listed from as many marks as are open. Assumes nothing.
use mathlib.Core.Path.{sym, ◌∙◌}
use native.Mathlib.Omega.{arith}
use Rattle.sfc.proofs.note.MissingLaws.{among_right, unheld_left, list_wrong, list_short, list_good}
use borrow.Author.Rules.{rules}
use Rattle.sfc.proofs.answer.CheckLaws.{refuses, let_by}
use borrow.Author.Tests.{ltb-true, ltb-false}
use Rattle.sfc.proofs.note.missing.list_missing.Goals as goal

pub returns-in_err-refuse_if : goal.returns-in_err-refuse_if
returns-in_err-refuse_if c =
    let a = c.args in
    let t = refuses c.refuse_if.ensures c.in_err-refuse_if.was c.from_residual.ensures.1 in
    rw t.1 (list_wrong a.h a.marks.now _ (sym c.is_marks_wrong.ensures ∙ t.0))

pub slice_bounds-held_count-end : goal.slice_bounds-held_count-end
slice_bounds-held_count-end c =
    let a = c.args in
    let w = c.is_marks_wrong in
    let o = c.open_marks-among in
    let f = let_by _ c.refuse_if.ensures c.in_ok-refuse_if.was in
    let g = among_right a.h a.marks.now _ o.result w.ensures f o.ensures.0 in
    sym g.2

pub overflow_sub-count : goal.overflow_sub-count
overflow_sub-count c =
    let a = c.args in
    let w = c.is_marks_wrong in
    let o = c.open_marks-among in
    let f = let_by _ c.refuse_if.ensures c.in_ok-refuse_if.was in
    let g = among_right a.h a.marks.now _ o.result w.ensures f o.ensures.0 in
    let u = unheld_left o.result a.marks.now _ g.0 c.held_count.ensures in
    search rules

pub returns-in_err-refuse_if-2 : goal.returns-in_err-refuse_if-2
returns-in_err-refuse_if-2 c =
    let a = c.args in
    let w = c.is_marks_wrong in
    let o = c.open_marks-among in
    let f = let_by _ c.refuse_if.ensures c.in_ok-refuse_if.was in
    let g = among_right a.h a.marks.now _ o.result w.ensures f o.ensures.0 in
    let u = unheld_left o.result a.marks.now _ g.0 c.held_count.ensures in
    let t = refuses c.refuse_if-2.ensures c.in_err-refuse_if-2.was c.from_residual-in_err-refuse_if-2.ensures.1 in
    rw t.1 (list_short a.h a.marks.now _ (sym w.ensures ∙ f) o.result _ o.ensures.1 u.1 (ltb-true _ _ t.0))

pub slice_bounds-put_unheld-end : goal.slice_bounds-put_unheld-end
slice_bounds-put_unheld-end c =
    let a = c.args in
    let w = c.is_marks_wrong in
    let o = c.open_marks-among in
    let f = let_by _ c.refuse_if.ensures c.in_ok-refuse_if.was in
    let g = among_right a.h a.marks.now _ o.result w.ensures f o.ensures.0 in
    sym g.2

pub put_unheld-requires : goal.put_unheld-requires
put_unheld-requires c =
    let a = c.args in
    let w = c.is_marks_wrong in
    let o = c.open_marks-among in
    let f = let_by _ c.refuse_if.ensures c.in_ok-refuse_if.was in
    let g = among_right a.h a.marks.now _ o.result w.ensures f o.ensures.0 in
    let u = unheld_left o.result a.marks.now _ g.0 c.held_count.ensures in
    (omega arith, u.1, (ltb-false _ _ (let_by _ c.refuse_if-2.ensures c.in_ok-refuse_if-2.was)))

pub returns : goal.returns
returns c =
    let a = c.args in
    let w = c.is_marks_wrong in
    let o = c.open_marks-among in
    let f = let_by _ c.refuse_if.ensures c.in_ok-refuse_if.was in
    let g = among_right a.h a.marks.now _ o.result w.ensures f o.ensures.0 in
    let u = unheld_left o.result a.marks.now _ g.0 c.held_count.ensures in
    list_good a.h a.marks.now _ (sym w.ensures ∙ f) o.result _ o.ensures.1 u.1 _ (ltb-false _ _ (let_by _ c.refuse_if-2.ensures c.in_ok-refuse_if-2.was)) c.put_unheld.ensures
