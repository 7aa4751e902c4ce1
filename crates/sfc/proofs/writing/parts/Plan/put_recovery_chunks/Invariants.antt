-- `sfc::writing::parts::Plan::put_recovery_chunks` meets its contract. The loop's invariant: the chunks of the recovery blocks before k stand there. Assumes nothing.
use Prim.Native.Nat.{◌*◌}
use Rattle.sfc.specs.inner.Writing.{recovery_chunk, all_of}
use Rattle.sfc.proofs.writing.RunOfChunks.{Run}
use Rattle.sfc.proofs.writing.parts.Plan.put_recovery_chunks.Given as goal

abbrev pub invariant-loop-k : goal.invariant-loop-k
invariant-loop-k l = Run (recovery_chunk l.self (all_of l.given)) l.self.m l.room l.initial.d l.k (l.k * l.room) l.d
