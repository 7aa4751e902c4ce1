-- `sfc::give::gather::Gathered::content_hash` meets its contract. The loop's invariant: what is fed, and what is still to be fed, make up
-- the content. Assumes nothing.
use Rattle.sfc.proofs.give.GatherLaws.{Feeding}
use Rattle.sfc.proofs.give.gather.Gathered.content_hash.Given as goal

abbrev pub invariant-loop-j : goal.invariant-loop-j
invariant-loop-j l = Feeding l.size l.n l.s l.marks l.store l.scratch l.state l.row l.j
