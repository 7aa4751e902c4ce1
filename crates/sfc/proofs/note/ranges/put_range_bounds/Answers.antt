-- `sfc::note::ranges::put_range_bounds` meets its contract: all bounds, from the output's front on. Assumes nothing.
use Rattle.sfc.proofs.note.PairLaws.{as_bounds, bounds_placed}
use Rattle.sfc.proofs.note.ranges.put_range_bounds.Goals as goal

pub put_ranges-requires : goal.put_ranges-requires
put_ranges-requires c = record { laid = as_bounds; room = c.requires }

pub returns : goal.returns
returns c = bounds_placed _ _ _ _ c.requires.1 c.put_ranges.ensures.after
