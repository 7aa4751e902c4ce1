-- `sum_held` meets its contract. Assumes nothing.
use lib.ListN.{length}
use Rattle.cauchy.specs.inner.Packed.{Sums}
use Rattle.cauchy.proofs.sides.HeldLaws.{shares_before}
use Rattle.cauchy.proofs.sides.Damaged.sum_held.Given as goal

abbrev pub invariant-loop-j : goal.invariant-loop-j
invariant-loop-j l =
    let d = l.self in
    Sums (shares_before d.code.m d.code.s d.range.first d.marks.now d.rows.now d.store.now l.j) l.i (length l.initial.acc) l.acc
