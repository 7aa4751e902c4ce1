-- `blake3::stack::joined` meets its contract. Assumes nothing.
use Rattle.blake3.proofs.StackLaws.{join_none, join_some}
use Rattle.blake3.proofs.stack.joined.Goals as goal

pub returns-then-t-eq0 : goal.returns-then-t-eq0
returns-then-t-eq0 c = let a = c.args in join_none a.left a.cv a.t c.if-t-eq0.true

pub returns-else-t-eq0 : goal.returns-else-t-eq0
returns-else-t-eq0 c = let a = c.args in join_some a.left a.cv a.t c.if-t-eq0.false c.extent.ensures c.parent.ensures
