-- `mix_words` meets its contract. Assumes nothing.
use mathlib.Core.Path.{◌≡◌}
use Rattle.cauchy.proofs.blocks.MixLaws.{mixed}
use Rattle.cauchy.proofs.tables.MixtureLaws.{picked}
use Rattle.cauchy.proofs.tables.Tables.mix_words.Given as goal

abbrev pub invariant-loop-w : goal.invariant-loop-w
invariant-loop-w l = l.dst ≡ mixed (picked l.self.low l.self.high l.initial.dst l.src) l.w l.initial.dst
