-- `blake3::words::mix` meets its contract. Assumes nothing.
use Rattle.blake3.proofs.CompressLaws.{mixed-made}
use Rattle.blake3.proofs.words.mix.Goals as goal

pub returns : goal.returns
returns c =
    let a = c.args in
    mixed-made a.a a.b a.c a.d a.x a.y c.ranges.b.fits c.ranges.d.fits c.rotate_right-d1.type_inv c.rotate_right-b1.type_inv c.rotate_right-d1.ensures
    c.rotate_right-b1.ensures c.rotate_right-d2.ensures c.rotate_right-b2.ensures
