-- `blake3::stack::close` meets its contract. Assumes nothing.
use Rattle.std.proofs.Common.{◌≡◌, ◌-◌}
use Rattle.blake3.specs.Stack.{closed}
use Rattle.blake3.proofs.stack.close.Given as goal

abbrev pub invariant-loop-left : goal.invariant-loop-left
invariant-loop-left l = closed (30 - l.left-index) l.left-index l.before l.tree l.stack ≡ closed 30 0 l.t l.initial.tree l.stack
