-- `blake3::stack::close` meets its contract. Assumes nothing.
use Rattle.std.proofs.Common.{refl, ◌∙◌}
use Rattle.blake3.proofs.StackLaws.{close_more, close_end}
use Rattle.blake3.proofs.stack.close.Goals as goal

pub loop-left-init : goal.loop-left-init
loop-left-init c = refl

pub loop-left-preserved : goal.loop-left-preserved
loop-left-preserved c =
    let l = c.loop-left in close_more l.left-index l.before c.args.stack.now l.tree c.loop-left-test.true c.joined-next.ensures ∙ l.invariant

pub returns : goal.returns
returns c = let l = c.loop-left in close_end l.left-index l.before c.args.stack.now l.tree c.loop-left-test.false ∙ l.invariant
