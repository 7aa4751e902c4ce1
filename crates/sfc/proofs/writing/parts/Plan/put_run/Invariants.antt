-- `sfc::writing::parts::Plan::put_run` meets its contract. The loop's invariant: the chunks before i stand there. Assumes nothing.
use Prim.Native.Nat.{◌*◌}
use Rattle.sfc.specs.inner.Writing.{run_chunk}
use Rattle.sfc.proofs.writing.RunOfChunks.{Run}
use Rattle.sfc.proofs.writing.parts.Plan.put_run.Given as goal

abbrev pub invariant-loop-i : goal.invariant-loop-i
invariant-loop-i l = Run (run_chunk l.self l.first l.blocks) l.count l.room l.initial.d l.i (l.i * l.room) l.d
