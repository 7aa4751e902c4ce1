-- `times` meets its contract. Assumes nothing.
use mathlib.Core.Path.{◌≡◌}
use Rattle.cauchy.specs.inner.Packed.{times_word}
use Rattle.cauchy.proofs.blocks.MixLaws.{mixed}
use Rattle.cauchy.proofs.tables.times.Given as goal

abbrev pub invariant-loop-w : goal.invariant-loop-w
invariant-loop-w l = l.dst ≡ mixed (times_word l.c l.initial.dst) l.w l.initial.dst
