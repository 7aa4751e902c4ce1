-- `sum_front` meets its contract. Assumes nothing.
use Prim.Native.Nat.{◌/◌}
use Rattle.cauchy.proofs.blocks.CodeLaws.{first_shares}
use Rattle.cauchy.specs.inner.Packed.{Sums}
use Rattle.cauchy.proofs.encode.sum_front.Given as goal

abbrev pub invariant-loop-j : goal.invariant-loop-j
invariant-loop-j l = Sums (λ r w. first_shares l.code.m l.code.s r l.front l.j w) l.k (l.code.s / 2) l.acc
