-- `sfc::note::resend::write_note` meets its contract: refused, or the pairs from as many marks as are open, and the start before them. Assumes nothing.
use Prim.Native.Nat.{◌≤◌}
use mathlib.Core.Path.{◌≡◌, sym, ◌∙◌}
use native.Mathlib.Omega.{arith}
use lib.ListN.{length, take}
use Rattle.sfc.proofs.note.MissingLaws.{among_right}
use Rattle.sfc.proofs.note.RangeLaws.{ranges-few}
use Rattle.sfc.proofs.note.NoteLaws.{write_wrong, write_short, write_good}
use borrow.Author.Rules.{rules}
use Rattle.sfc.proofs.answer.CheckLaws.{refuses, let_by}
use borrow.Author.Tests.{ltb-true, ltb-false}
use Rattle.sfc.proofs.note.resend.write_note.Goals as goal

pub returns-in_err-refuse_if : goal.returns-in_err-refuse_if
returns-in_err-refuse_if c =
    let a = c.args in
    let t = refuses c.refuse_if.ensures c.in_err-refuse_if.was c.from_residual.ensures.1 in
    rw t.1 (write_wrong a.h a.marks.now _ (sym c.is_marks_wrong.ensures ∙ t.0))

pub slice_bounds-count_ranges-end : goal.slice_bounds-count_ranges-end
slice_bounds-count_ranges-end c =
    let a = c.args in
    let w = c.is_marks_wrong in
    let o = c.open_marks-among in
    let f = let_by _ c.refuse_if.ensures c.in_ok-refuse_if.was in
    let g = among_right a.h a.marks.now _ o.result w.ensures f o.ensures.0 in
    sym g.2

pub overflow_mul-length : goal.overflow_mul-length
overflow_mul-length c =
    let a = c.args in
    let w = c.is_marks_wrong in
    let o = c.open_marks-among in
    let f = let_by _ c.refuse_if.ensures c.in_ok-refuse_if.was in
    let g = among_right a.h a.marks.now _ o.result w.ensures f o.ensures.0 in
    let k = c.count_ranges-count in
    let few : k.result ≤ 1024 = omega (arith, g.2, g.1, k.ensures, ranges-few 0 (take o.result a.marks.now)) in
    search rules

pub overflow_add-length : goal.overflow_add-length
overflow_add-length c =
    let a = c.args in
    let w = c.is_marks_wrong in
    let o = c.open_marks-among in
    let f = let_by _ c.refuse_if.ensures c.in_ok-refuse_if.was in
    let g = among_right a.h a.marks.now _ o.result w.ensures f o.ensures.0 in
    let k = c.count_ranges-count in
    let few : k.result ≤ 1024 = omega (arith, g.2, g.1, k.ensures, ranges-few 0 (take o.result a.marks.now)) in
    search rules

pub returns-in_err-refuse_if-2 : goal.returns-in_err-refuse_if-2
returns-in_err-refuse_if-2 c =
    let a = c.args in
    let w = c.is_marks_wrong in
    let o = c.open_marks-among in
    let f = let_by _ c.refuse_if.ensures c.in_ok-refuse_if.was in
    let g = among_right a.h a.marks.now _ o.result w.ensures f o.ensures.0 in
    let k = c.count_ranges-count in
    let few : k.result ≤ 1024 = omega (arith, g.2, g.1, k.ensures, ranges-few 0 (take o.result a.marks.now)) in
    let u : length a.h.uuid ≡ 16 = search rules in
    let t = refuses c.refuse_if-2.ensures c.in_err-refuse_if-2.was c.from_residual-in_err-refuse_if-2.ensures.1 in
    rw t.1 (write_short a.h a.marks.now _ u (sym w.ensures ∙ f) o.result k.result o.ensures.1 k.ensures (ltb-true _ _ t.0))

pub slice_bounds-put_range_bytes-end : goal.slice_bounds-put_range_bytes-end
slice_bounds-put_range_bytes-end c =
    let a = c.args in
    let w = c.is_marks_wrong in
    let o = c.open_marks-among in
    let f = let_by _ c.refuse_if.ensures c.in_ok-refuse_if.was in
    let g = among_right a.h a.marks.now _ o.result w.ensures f o.ensures.0 in
    sym g.2

pub put_range_bytes-requires : goal.put_range_bytes-requires
put_range_bytes-requires c =
    let a = c.args in
    let w = c.is_marks_wrong in
    let o = c.open_marks-among in
    let f = let_by _ c.refuse_if.ensures c.in_ok-refuse_if.was in
    let g = among_right a.h a.marks.now _ o.result w.ensures f o.ensures.0 in
    let k = c.count_ranges-count in
    let few : k.result ≤ 1024 = omega (arith, g.2, g.1, k.ensures, ranges-few 0 (take o.result a.marks.now)) in
    (omega (arith, g.2, g.1), k.ensures, (ltb-false _ _ (let_by _ c.refuse_if-2.ensures c.in_ok-refuse_if-2.was)))

pub overflow_cast-count : goal.overflow_cast-count
overflow_cast-count c =
    let a = c.args in
    let w = c.is_marks_wrong in
    let o = c.open_marks-among in
    let f = let_by _ c.refuse_if.ensures c.in_ok-refuse_if.was in
    let g = among_right a.h a.marks.now _ o.result w.ensures f o.ensures.0 in
    let k = c.count_ranges-count in
    let few : k.result ≤ 1024 = omega (arith, g.2, g.1, k.ensures, ranges-few 0 (take o.result a.marks.now)) in
    omega arith

pub put_start-requires : goal.put_start-requires
put_start-requires c =
    let a = c.args in
    let w = c.is_marks_wrong in
    let o = c.open_marks-among in
    let f = let_by _ c.refuse_if.ensures c.in_ok-refuse_if.was in
    let g = among_right a.h a.marks.now _ o.result w.ensures f o.ensures.0 in
    let k = c.count_ranges-count in
    let few : k.result ≤ 1024 = omega (arith, g.2, g.1, k.ensures, ranges-few 0 (take o.result a.marks.now)) in
    (omega (arith, (ltb-false _ _ (let_by _ c.refuse_if-2.ensures c.in_ok-refuse_if-2.was)), c.put_range_bytes.auto.out), omega arith)

pub returns : goal.returns
returns c =
    let a = c.args in
    let good = c.well_formed in
    let w = c.is_marks_wrong in
    let o = c.open_marks-among in
    let f = let_by _ c.refuse_if.ensures c.in_ok-refuse_if.was in
    let g = among_right a.h a.marks.now _ o.result w.ensures f o.ensures.0 in
    let k = c.count_ranges-count in
    let few : k.result ≤ 1024 = omega (arith, g.2, g.1, k.ensures, ranges-few 0 (take o.result a.marks.now)) in
    let u : length a.h.uuid ≡ 16 = search rules in
    write_good a.h a.marks.now _ u (sym w.ensures ∙ f) o.result k.result o.ensures.1 k.ensures c.put_range_bytes.new.out _ (ltb-false _ _ (let_by _ c.refuse_if-2.ensures c.in_ok-refuse_if-2.was)) c.put_range_bytes.ensures c.put_start.ensures
