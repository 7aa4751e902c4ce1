-- `sfc::format::chunk::type_for` meets its contract, by the test. Assumes nothing.
use borrow.Author.Tests.{lt-ltb, le-ltb}
use Rattle.sfc.proofs.format.chunk.type_for.Goals as goal

pub returns-then-index-n : goal.returns-then-index-n
returns-then-index-n c = simp (lt-ltb _ _ c.if-index-n.true)

pub returns-else-index-n : goal.returns-else-index-n
returns-else-index-n c = simp (le-ltb _ _ c.if-index-n.false)
