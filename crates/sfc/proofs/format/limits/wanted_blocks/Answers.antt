-- `sfc::format::limits::wanted_blocks` meets its contract: a quotient rounded up. Assumes nothing.
use Prim.Native.Nat.{◌-◌}
use native.Mathlib.Nat.{div-le_self}
use native.Mathlib.Omega.{arith}
use Rattle.sfc.proofs.format.LimitLaws.{wanted_none, wanted_some}
use Rattle.sfc.proofs.format.limits.wanted_blocks.Goals as goal

pub returns-then-size-eq0 : goal.returns-then-size-eq0
returns-then-size-eq0 c = wanted_none _ _ c.if-size-eq0.true

pub overflow_add-result : goal.overflow_add-result
overflow_add-result c = let a = c.args in omega (arith, div-le_self (a.size - 1) a.s)

pub returns : goal.returns
returns c = let a = c.args in wanted_some a.size a.s c.if-size-eq0.false c.requires
