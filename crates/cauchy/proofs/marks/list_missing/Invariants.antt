-- `list_missing` meets its contract. Assumes nothing.
use Rattle.cauchy.proofs.marks.ListLaws.{Missed}
use Rattle.cauchy.proofs.marks.list_missing.Given as goal

abbrev pub invariant-loop-j : goal.invariant-loop-j
invariant-loop-j l = Missed l.n l.m l.marks l.out l.e l.j
