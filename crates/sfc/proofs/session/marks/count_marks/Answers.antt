-- `sfc::session::marks::count_marks` meets its contract: 71, or both counts. Assumes nothing.
use mathlib.Core.Path.{sym, ◌∙◌}
use Rattle.sfc.specs.session.Lent.{count_marks}
use Rattle.sfc.proofs.answer.CheckLaws.{refuses, let_by}
use Rattle.sfc.proofs.session.marks.count_marks.Goals as goal

pub returns-in_err-refuse_if : goal.returns-in_err-refuse_if
unfolding count_marks
returns-in_err-refuse_if c =
    let t = refuses c.refuse_if.ensures c.in_err-refuse_if.was c.from_residual.ensures.1 in
    rw (t.1, sym c.is_marks_wrong.ensures ∙ t.0)

pub returns : goal.returns
unfolding count_marks
returns c =
    rw (c.barred_count.ensures, c.held_count.ensures, sym c.is_marks_wrong.ensures ∙ let_by _ c.refuse_if.ensures c.in_ok-refuse_if.was)
