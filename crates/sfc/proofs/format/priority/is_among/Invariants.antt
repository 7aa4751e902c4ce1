-- `sfc::format::priority::is_among` meets its contract. The loop's invariant: x was found before i, or is one of the numbers from i on, just
-- if it is among them. Assumes nothing.
use Rattle.sfc.proofs.format.ListLaws.{Looking}
use Rattle.sfc.proofs.format.priority.is_among.Given as goal

abbrev pub invariant-loop-i : goal.invariant-loop-i
invariant-loop-i g l = Looking (g.L.Numbers.numbers l.list) l.x l.from l.found l.i
