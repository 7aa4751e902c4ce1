-- `sfc::writing::parts::put_indices` meets its contract. The loop's invariant: the indices before i stand there. Assumes nothing.
use Prim.Native.Nat.{◌*◌}
use lib.ListN.{take}
use Rattle.sfc.specs.writing.Writer.{index_bytes}
use Rattle.sfc.proofs.writing.FillLaws.{Front}
use Rattle.sfc.proofs.writing.parts.put_indices.Given as goal

abbrev pub invariant-loop-i : goal.invariant-loop-i
invariant-loop-i l = Front l.initial.d (index_bytes (take l.i l.list)) (4 * l.i) l.d
