-- `sum_front` meets its contract. Assumes nothing.
use Prim.Native.Nat.{◌-◌, ◌*◌, ◌/◌}
use native.Mathlib.Nat.{add-sub_cancel_left}
use native.Mathlib.Omega.{arith}
use Rattle.cauchy.proofs.encode.SumLaws.{four_start, four-turn, four-end}
use Rattle.cauchy.proofs.encode.sum_front.Goals as goal

pub loop-j-init : goal.loop-j-init
loop-j-init c = let a = c.args in four_start a.code.m a.code.s a.k (a.code.s / 2) a.front.now _ _ c.requires.2 (c.fill.ensures.after (λ y e. e))

pub loop-j-preserved : goal.loop-j-preserved
loop-j-preserved c =
    let a = c.args in
    let l = c.loop-j in
    four-turn a.code.m a.code.s a.k l.j _ a.front.now l.acc _ (omega (arith, a.code.m_most, c.requires)) (omega (arith, a.code.m_most, a.code.n_most)) a.code.even (add-sub_cancel_left (l.j * a.code.s) a.code.s) l.invariant c.add_share.ensures

pub returns : goal.returns
returns c =
    let a = c.args in
    let l = c.loop-j in
    four-end (a.code.n - 1) a.code.m a.code.s a.k l.j a.front.now l.acc (omega arith) l.invariant
