-- `sfc::note::resend::put_bounds` meets its contract. The loop's invariant: the pairs from k on stand in the output. Assumes nothing.
use Rattle.sfc.proofs.note.NoteLaws.{Copying}
use Rattle.sfc.proofs.note.resend.put_bounds.Given as goal

abbrev pub invariant-loop-k : goal.invariant-loop-k
invariant-loop-k l = Copying l.note l.count l.initial.out l.out l.k
