-- `scale_words` meets its contract. Assumes nothing.
use mathlib.Core.Path.{◌≡◌}
use Rattle.cauchy.proofs.blocks.MixLaws.{mixed}
use Rattle.cauchy.proofs.tables.MixtureLaws.{zero_row, plus_row}
use Rattle.cauchy.proofs.tables.Tables.scale_words.Given as goal

abbrev pub invariant-loop-w : goal.invariant-loop-w
invariant-loop-w l =
    (l.dst ≡ mixed (zero_row l.self.low l.self.high l.initial.dst) l.w l.initial.dst) × (l.one ≡ mixed (plus_row l.self.low l.self.high l.initial.one l.initial.dst) l.w l.initial.one)
