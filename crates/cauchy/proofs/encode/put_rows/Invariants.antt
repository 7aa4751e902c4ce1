-- `put_rows` meets its contract. Assumes nothing.
use Prim.Native.Nat.{◌*◌}
use Rattle.cauchy.specs.inner.Packed.{row_bytes}
use Rattle.cauchy.proofs.encode.RunLaws.{Run}
use Rattle.cauchy.proofs.encode.put_rows.Given as goal

abbrev pub invariant-loop-r : goal.invariant-loop-r
invariant-loop-r l = Run (λ i. row_bytes i l.acc) l.count l.s l.initial.out l.r (l.r * l.s) l.out
