-- `blake3::compress::round` meets its contract. Assumes nothing.
use Rattle.std.proofs.Common.{◌≡◌, length, arith, rules}
use Rattle.blake3.specs.Compress.{round}
use Rattle.blake3.proofs.CompressLaws.{first_eight, next_eight}
use Rattle.blake3.proofs.compress.round.Goals as goal

pub returns : goal.returns
unfolding round
returns c =
    let m = c.args.m in
    let l : length c.args.m ≡ 16 = search rules in
    rw (c.diagonals.ensures, c.columns.ensures, first_eight m (omega arith), next_eight m l)
