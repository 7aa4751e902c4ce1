-- `sfc::session::marks::barred_count` meets its contract. Assumes nothing.
use Rattle.std.proofs.Common.{◌∙◌, ap, arith, eqb}
use Rattle.std.specs.List.{count_by}
use Rattle.std.proofs.lemmas.List.{take_all}
use Rattle.sfc.proofs.session.MarkLaws.{counted_barred}
use Rattle.sfc.proofs.session.marks.barred_count.Goals as goal

pub returns : goal.returns
returns c =
    let l = c.loop-mark in
    let marks = c.args.marks.now in
    l.invariant.1 ∙ ap (count_by (λ mark. eqb mark 2)) (take_all l.mark-index marks (omega (arith, c.loop-mark-test.false))) ∙ counted_barred marks
