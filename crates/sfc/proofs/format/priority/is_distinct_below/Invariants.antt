-- `sfc::format::priority::is_distinct_below` meets its contract. The loop's invariant: whether the numbers from i on are good. Assumes nothing.
use Rattle.sfc.proofs.format.ListLaws.{Judging}
use Rattle.sfc.proofs.format.priority.is_distinct_below.Given as goal

abbrev pub invariant-loop-i : goal.invariant-loop-i
invariant-loop-i g l = Judging (g.L.Numbers.numbers l.list) l.n l.i
