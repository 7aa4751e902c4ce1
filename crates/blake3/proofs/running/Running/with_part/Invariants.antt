-- `blake3::running::Running::with_part` meets its contract. Assumes nothing.
use Rattle.std.proofs.Common.{◌≡◌, ◌+◌, ◌≤◌, length}
use Rattle.blake3.specs.Running.{most_fed, with_bytes}
use Rattle.blake3.proofs.running.Running.with_part.Given as goal

abbrev pub invariant-loop-rest : goal.invariant-loop-rest
invariant-loop-rest l = record {
  long : length l.state.piece ≡ 1024;
  room : l.state.fed + length l.rest ≤ most_fed;
  left : with_bytes l.state l.rest ≡ with_bytes l.fn.self l.part;
}

abbrev pub decreases-loop-rest : goal.decreases-loop-rest
decreases-loop-rest l = length l.rest
