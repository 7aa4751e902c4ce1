-- `blake3::stack::push` meets its contract. Assumes nothing.
use Rattle.std.proofs.Common.{◌≡◌, ◌-◌}
use Rattle.blake3.specs.Stack.{pushed}
use Rattle.blake3.proofs.stack.push.Given as goal

abbrev pub invariant-loop-h : goal.invariant-loop-h
invariant-loop-h l = pushed (30 - l.h) l.h l.before l.tree l.stack ≡ pushed 30 0 l.t l.initial.tree l.initial.stack
