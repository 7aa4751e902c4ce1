-- `sfc_listing::session::report` meets its contract: the pieces of the text are those of the session. Assumes nothing.
use mathlib.Core.Path.{◌≡◌, refl, sym, ◌∙◌}
use native.Mathlib.Omega.{arith}
use Prim.Native.Nat.{◌%◌, ◌≤◌}
use lib.ListN.{take}
use lib.Seq.{length-take-le}
use Rattle.sfc.specs.answer.Places.{counts}
use Rattle.sfc.specs.note.Ranges.{bounds_for}
use Rattle.sfc.specs.session.Marks.{held_count, barred_count}
use Rattle.sfc_listing.specs.Lent.{on_desk}
use Rattle.sfc_listing.proofs.ReportLaws.{marks_right, rebuild_right, size_fits, counted, made, bounds-are, bounds-told, report_put}
use Rattle.sfc_listing.proofs.session.report.Goals.{After-unwrap-count}
use Rattle.sfc_listing.proofs.session.report.Goals as goal

pub unwrap-counted-requires : goal.unwrap-counted-requires
unwrap-counted-requires c =
    let a = c.args in
    rw (c.count_marks.ensures ∙ counted a.h a.desk.marks.now (marks_right a.h (on_desk a.desk) c.requires.ready c.requires.lent)) refl

pub unwrap-count-requires : goal.unwrap-count-requires
unwrap-count-requires c =
    let a = c.args in
    rw (bounds-are a.h a.desk.marks.now (marks_right a.h (on_desk a.desk) c.requires.ready c.requires.lent) a.desk.bounds.now _ c.requires.ready.bounds_long _ c.list_ranges.ensures) refl

pub last_word-last-requires : goal.last_word-last-requires
last_word-last-requires c =
    let a = c.args in (
      rebuild_right a.h (on_desk a.desk) c.requires.ready c.requires.lent _ _ _ refl refl,
      omega (arith, size_fits a.h (on_desk a.desk) c.requires.ready c.requires.lent, c.requires.ready.content_long),
    )

-- the bounds are those of the ranges
told : (c : After-unwrap-count) → (take c.unwrap-count.result c.list_ranges.new.out ≡ bounds_for c.args.h c.args.desk.marks.now) × (c.unwrap-count.result ≤ 1024) × (c.unwrap-count.result % 2 ≡ 0)
told c =
    let a = c.args in
    bounds-told a.h a.desk.marks.now (marks_right a.h (on_desk a.desk) c.requires.ready c.requires.lent) a.desk.bounds.now _ c.requires.ready.bounds_long _ c.list_ranges.ensures _ c.unwrap-count.ensures

pub slice_bounds-put_end-end : goal.slice_bounds-put_end-end
slice_bounds-put_end-end c = omega (arith, (told (goal.at.slice_bounds-put_end-end c).After-unwrap-count).1, c.list_ranges.auto, c.requires.ready.bounds_long)

pub slice_bounds-put_end-end-2 : goal.slice_bounds-put_end-end-2
slice_bounds-put_end-end-2 c = sym (length-take-le _ _ (omega (arith, (told (goal.at.slice_bounds-put_end-end-2 c).After-unwrap-count).1, c.list_ranges.auto, c.requires.ready.bounds_long)))

pub put_end-requires-clause-even : goal.put_end-requires-clause-even
put_end-requires-clause-even c =
    let t = told (goal.at.put_end-requires-clause-even c).After-unwrap-count in
    let e = length-take-le c.unwrap-count.result c.list_ranges.new.out (omega (arith, t.1, c.list_ranges.auto, c.requires.ready.bounds_long)) in
    rw e t.2

pub returns : goal.returns
returns c =
    let a = c.args in
    let n : c.unwrap-counted.result ≡ counts (held_count a.desk.marks.now) (barred_count a.desk.marks.now) = made _ _ (sym c.unwrap-counted.ensures ∙ c.count_marks.ensures ∙ counted a.h a.desk.marks.now (marks_right a.h (on_desk a.desk) c.requires.ready c.requires.lent)) in
    report_put a.h a.desk.store.now a.desk.marks.now c.unwrap-counted.result _ _ n (told (goal.at.returns c).After-unwrap-count).0 c.last_word-last.ensures c.put_end.ensures
