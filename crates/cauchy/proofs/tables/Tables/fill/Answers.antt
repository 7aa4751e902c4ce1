-- `fill` meets its contract. Assumes nothing.
use Rattle.gf16.specs.Field.{mul}
use Rattle.cauchy.proofs.tables.Tables.fill.Goals as goal

pub returns : goal.returns
returns c a b d e p =
    let f = c.fill-up.ensures a b d e p in
    let g = c.fill.ensures (mul a 256) (mul b 256) (mul d 256) (mul e 256) f.1 in
    (f.0, g.0)
