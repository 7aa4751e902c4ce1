-- `add_rest` meets its contract. Assumes nothing.
use Rattle.cauchy.specs.inner.Packed.{AddedMore}
use Rattle.cauchy.proofs.tables.Tables.add_rest.Given as goal

abbrev pub invariant-loop-w : goal.invariant-loop-w
invariant-loop-w l = AddedMore l.self.low l.self.high l.src l.from l.w l.initial.acc l.acc
