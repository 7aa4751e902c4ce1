-- `little::runs::are_all` meets its contract. The loop's invariant: whether all up to the index are the value. Assumes nothing.
use Rattle.std.proofs.Common.{◌≡◌, take}
use Rattle.std.specs.List.{list_all}
use Rattle.little.proofs.runs.are_all.Given as goal

abbrev pub invariant-loop-x : goal.invariant-loop-x
invariant-loop-x g l = l.all ≡ list_all (λ y. g.T.PartialEq.eq y l.value) (take l.x-index l.s)
