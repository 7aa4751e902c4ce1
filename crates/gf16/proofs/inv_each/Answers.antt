-- `gf16::inv_each` meets its contract, element by element. Assumes nothing.
use native.Mathlib.Omega.{arith}
use Rattle.gf16.specs.Field.{inv}
use Rattle.gf16.proofs.Each.{mapped_more}
use Rattle.gf16.proofs.inv_each.Goals as goal

pub loop-a-preserved : goal.loop-a-preserved
loop-a-preserved g c = mapped_more inv _ _ _ _ c.loop-a.invariant (omega arith) c.looked_up.ensures
