-- `little::runs::fill` meets its contract. The loop's invariant: the value up to the index. Assumes nothing.
use Rattle.std.proofs.Common.{◌≡◌, length, take, replicate}
use Rattle.little.proofs.runs.fill.Given as goal

abbrev pub invariant-loop-x : goal.invariant-loop-x
invariant-loop-x g l = (length l.d ≡ length l.initial.d) × (take l.x-index l.d ≡ replicate l.x-index l.value)
