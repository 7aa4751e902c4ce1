-- `blake3::block::bytes_of` meets its contract. Assumes nothing.
use Rattle.std.proofs.Common.{◌≡◌, ◌*◌, length, take}
use Rattle.blake3.specs.Compress.{bytes_of_words}
use Rattle.blake3.proofs.block.bytes_of.Given as goal

abbrev pub invariant-loop-k : goal.invariant-loop-k
invariant-loop-k l = record { long : length l.out ≡ 32; stored : take (4 * l.k) l.out ≡ bytes_of_words (take l.k l.v) }
