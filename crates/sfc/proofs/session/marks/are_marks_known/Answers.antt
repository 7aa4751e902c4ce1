-- `sfc::session::marks::are_marks_known` meets its contract. Assumes nothing.
use Rattle.std.proofs.Common.{◌∙◌, ap, arith, ltb}
use Rattle.std.specs.List.{list_all}
use Rattle.std.proofs.lemmas.List.{take_all}
use Rattle.sfc.proofs.session.MarkLaws.{all_known}
use Rattle.sfc.proofs.session.marks.are_marks_known.Goals as goal

pub returns : goal.returns
returns c =
    let l = c.loop-mark in
    let marks = c.args.marks.now in
    l.invariant ∙ ap (list_all (λ mark. ltb mark 3)) (take_all l.mark-index marks (omega (arith, c.loop-mark-test.false))) ∙ all_known marks
