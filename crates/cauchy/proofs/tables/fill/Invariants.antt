-- `fill` meets its contract. Assumes nothing.
use Prim.Native.Nat.{◌-◌, ◌<◌}
use Rattle.cauchy.specs.inner.Packed.{FilledTo}
use Rattle.cauchy.proofs.tables.TableLaws.{Power}
use Rattle.cauchy.proofs.tables.fill.Given as goal

abbrev pub invariant-loop-n : goal.invariant-loop-n
invariant-loop-n l = (0 < l.n) × Power l.n × FilledTo l.n l.x l.t l.power

abbrev pub decreases-loop-n : goal.decreases-loop-n
decreases-loop-n l = 256 - l.n
