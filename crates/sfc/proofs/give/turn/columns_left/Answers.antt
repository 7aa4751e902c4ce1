-- `sfc::give::turn::columns_left` meets its contract: all data blocks are held, or some are missing. Assumes nothing.
use mathlib.Core.Path.{sym, ◌∙◌}
use lib.Seq.{length-take-le}
use Rattle.sfc.proofs.give.TurnLaws.{none_told, some_told}
use Rattle.sfc.proofs.give.turn.columns_left.Goals as goal

pub slice_bounds-held_count-end : goal.slice_bounds-held_count-end
slice_bounds-held_count-end c = let a = c.args in sym (length-take-le a.n a.marks.now c.requires.0)

pub returns-then-held_count-data : goal.returns-then-held_count-data
returns-then-held_count-data c = let a = c.args in none_told a.n a.s a.marks.now a.finished c.requires.0 (sym c.held_count.ensures ∙ c.if-held_count-data.true)

pub returns : goal.returns
returns c = let a = c.args in some_told a.n a.s a.marks.now a.finished c.requires.0 (λ e. c.if-held_count-data.false (c.held_count.ensures ∙ e))
