-- `pack_four` meets its contract. Assumes nothing.
use native.Mathlib.Omega.{arith}
use Rattle.cauchy.specs.inner.Packed.{pack}
use Rattle.cauchy.proofs.tables.pack_four.Goals as goal

pub returns : goal.returns
unfolding pack
returns c = omega arith
