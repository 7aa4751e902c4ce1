-- `sfc::note::missing::open_marks` meets its contract: none of the marks once enough are held, else those of all data blocks. Assumes nothing.
use native.Mathlib.Omega.{arith}
use Rattle.sfc.proofs.note.MissingLaws.{missing_none, missing-all}
use Rattle.sfc.proofs.note.missing.open_marks.Goals as goal

pub returns-then-all-held_count : goal.returns-then-all-held_count
returns-then-all-held_count c = (omega arith, missing_none _ _ (omega (arith, c.held_count.ensures)))

pub returns-else-all-held_count : goal.returns-else-all-held_count
returns-else-all-held_count c = (omega arith, missing-all _ _ (omega (arith, c.held_count.ensures)))
