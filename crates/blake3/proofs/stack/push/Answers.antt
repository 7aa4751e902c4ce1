-- `blake3::stack::push` meets its contract. Assumes nothing.
use Rattle.std.proofs.Common.{refl, ◌∙◌}
use Rattle.blake3.proofs.StackLaws.{push_more, push_here, push_none}
use Rattle.blake3.proofs.stack.push.Goals as goal

pub loop-h-init : goal.loop-h-init
loop-h-init c = refl

pub returns-then-before-eq0 : goal.returns-then-before-eq0
returns-then-before-eq0 c = let l = c.loop-h in push_here l.h l.before l.stack l.tree c.loop-h-test.true c.if-before-eq0.true ∙ l.invariant

pub loop-h-preserved : goal.loop-h-preserved
loop-h-preserved c = let l = c.loop-h in push_more l.h l.before l.stack l.tree c.loop-h-test.true c.if-before-eq0.false c.parent-both.ensures ∙ l.invariant

pub returns : goal.returns
returns c = let l = c.loop-h in push_none l.h l.before l.stack l.tree c.loop-h-test.false ∙ l.invariant
