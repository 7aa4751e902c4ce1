-- `blake3::tree::left_pieces` meets its contract. Assumes nothing.
use Rattle.std.proofs.Common.{◌<◌, ◌^◌, arith, pow_pos}
use Rattle.blake3.proofs.Splits.{left_power}
use Rattle.blake3.proofs.tree.left_pieces.Goals as goal

pub returns : goal.returns
returns c =
    let n = c.args.n in
    let k = c.ilog2.result in
    let e = c.ilog2.ensures in
    let low = e.power_le in
    let pos : 0 < 2 ^ k = pow_pos k in
    record {
      count = left_power n k (omega arith) e.power_le e.next_power_gt (omega arith);
      parts = (omega arith, omega arith);
    }
