-- `blake3::tree::parent` meets its contract. Assumes nothing.
use Rattle.std.proofs.Common.{◌≡◌, length, rules}
use Rattle.blake3.specs.Tree.{parent}
use Rattle.blake3.proofs.CompressLaws.{all_eight}
use Rattle.blake3.proofs.tree.parent.Goals as goal

pub returns : goal.returns
unfolding parent
returns c =
    let l : length c.args.l ≡ 8 = search rules in
    let r : length c.args.r ≡ 8 = search rules in
    rw (c.compress.ensures, c.flag.ensures.0, ← all_eight c.args.l l, ← all_eight c.args.r r)
