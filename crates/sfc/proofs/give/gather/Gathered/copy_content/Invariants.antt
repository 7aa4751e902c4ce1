-- `sfc::give::gather::Gathered::copy_content` meets its contract. The loop's invariant: what is still to be copied, put into the output,
-- gives the promised one. Assumes nothing.
use Rattle.sfc.proofs.give.GatherLaws.{Copying}
use Rattle.sfc.proofs.give.gather.Gathered.copy_content.Given as goal

abbrev pub invariant-loop-j : goal.invariant-loop-j
invariant-loop-j l = Copying l.size l.n l.s l.marks l.store l.scratch l.initial.out l.out l.row l.j
