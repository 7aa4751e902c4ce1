-- `sum_parts` meets its contract. Assumes nothing.
use Rattle.cauchy.proofs.encode.FourLaws.{parts_last}
use Rattle.cauchy.proofs.encode.sum_parts.Goals as goal

pub returns : goal.returns
returns c =
    let a = c.args in
    let k = a.code in
    let p = c.requires in
    parts_last k.n k.m k.s a.k a.front.now a.last.now _ _
    (record { n_least = k.n_least; n_most = k.n_most; m_most = k.m_most; s_most = k.s_most; even = k.even; row = p.0; front_long = p.1; last_long = p.2 })
    c.sum_front.ensures c.add_share.ensures
