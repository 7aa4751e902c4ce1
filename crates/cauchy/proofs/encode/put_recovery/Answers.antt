-- `put_recovery` meets its contract. Assumes nothing.
use Prim.Native.Nat.{◌<◌}
use native.Mathlib.Omega.{arith}
use mathlib.Core.List.{◌++◌}
use Rattle.cauchy.proofs.encode.FourLaws.{rows_out}
use Rattle.cauchy.specs.inner.Promises.{wrong_parts}
use Rattle.cauchy.proofs.CallLaws.{parts_lent, parts_done}
use Rattle.cauchy.proofs.encode.put_recovery.Goals as goal

pub returns-then-k-code : goal.returns-then-k-code
unfolding wrong_parts
returns-then-k-code c = let a = c.args in parts_lent a.code.n a.code.m a.code.s a.k a.count a.front.now a.last.now a.out.now c.if-k-code.true

pub returns : goal.returns
unfolding wrong_parts
returns c =
    let a = c.args in
    let k = a.code in
    let row : a.k < k.m = grind (arith, c.if-k-code.false) in
    parts_done k.n k.m k.s a.k a.count a.front.now a.last.now a.out.now _ c.if-k-code.false
    (rows_out k.n k.m k.s a.k a.count (a.front.now ++ a.last.now) _ _ c.requires (omega (arith, k.m_most, row)) (omega (arith, k.m_most, k.n_most)) c.sum_parts.ensures c.put_rows.ensures)
