-- `blake3::compress::compress` meets its contract. Assumes nothing.
use Rattle.std.proofs.Common.{◌≡◌, length, rules}
use Rattle.blake3.specs.Compress.{compressed}
use Rattle.blake3.proofs.CompressLaws.{all_eight}
use Rattle.blake3.proofs.compress.compress.Goals as goal

pub returns : goal.returns
unfolding compressed
returns c =
    let l : length c.args.cv ≡ 8 = search rules in
    rw (c.fold.ensures, c.rounds.ensures, ← all_eight c.args.cv l)
