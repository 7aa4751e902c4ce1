-- `blake3::block::short_block` meets its contract. The loop's invariant: the words before the index are read. Assumes nothing.
use Rattle.std.proofs.Common.{◌≡◌, ℕ, ◌*◌, ◌<◌, length, get_or}
use Rattle.little.specs.Fields.{le}
use Rattle.blake3.proofs.block.short_block.Given as goal

abbrev pub invariant-loop-k : goal.invariant-loop-k
invariant-loop-k l = record {
  long : length l.words ≡ 16;
  read : (i : ℕ) → i < l.k → get_or l.words i 0 ≡ le l.b (4 * i) 4;
}
