-- `doubled` meets its contract. Assumes nothing.
use native.Mathlib.Omega.{arith}
use Prim.Native.Nat.{◌/◌}
use lib.Bits.{and_le_r}
use Rattle.cauchy.proofs.tables.PackLaws.{pack-doubled}
use Rattle.cauchy.proofs.tables.doubled.Goals as goal

pub overflow_mul-result : goal.overflow_mul-result
overflow_mul-result c = omega (arith, and_le_r c.args.x 0x7FFF7FFF7FFF7FFF)

pub overflow_mul-result-2 : goal.overflow_mul-result-2
overflow_mul-result-2 c = omega (arith, and_le_r (c.args.x / 32768) 0x1000100010001)

pub returns : goal.returns
returns c a b d e p = pack-doubled a b d e c.args.x p
