-- `put_side` meets its contract. Assumes nothing.
use Rattle.cauchy.proofs.sides.SideLaws.{side-put}
use Rattle.cauchy.proofs.sides.put_side.Goals as goal

pub returns : goal.returns
returns c =
    let a = c.args in
    side-put a.r a.acc.now a.block.now _ _ (λ p. (c.slice_known-2-1.given p).fits) (λ p. (c.shared_slice_known-2-1.given p).fits) c.put_one.ensures c.add_bytes.ensures
