-- `gf16::inv_each` meets its contract. The loop's invariant: inverses up to the index, and after it the elements as they came.
-- Assumes nothing.
use Rattle.gf16.specs.Field.{inv}
use Rattle.gf16.proofs.Each.{MappedTo}
use Rattle.gf16.proofs.inv_each.Given as goal

abbrev pub invariant-loop-a : goal.invariant-loop-a
invariant-loop-a g l = MappedTo inv l.fn.elements l.a-items l.a-index
