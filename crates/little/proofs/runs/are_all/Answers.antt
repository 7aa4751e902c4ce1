-- `little::runs::are_all` meets its contract. Assumes nothing.
use Rattle.std.proofs.Common.{◌∙◌, ap, arith}
use Rattle.std.specs.List.{list_all}
use Rattle.std.proofs.lemmas.List.{take_all}
use Rattle.little.proofs.RunLaws.{each_that}
use Rattle.little.proofs.runs.are_all.Goals as goal

pub returns : goal.returns
returns g c =
    let l = c.loop-x in
    let a = c.args in
    l.invariant ∙ ap (list_all (λ y. g.T.PartialEq.eq y a.value)) (take_all l.x-index a.s.now (omega (arith, c.loop-x-test.false)))
    ∙ each_that g.T.PartialEq.eq a.value a.s.now
