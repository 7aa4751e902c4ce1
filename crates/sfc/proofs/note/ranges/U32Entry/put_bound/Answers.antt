-- `sfc::note::ranges::U32Entry::put_bound` meets its contract: one entry stored. Assumes nothing.
use Rattle.sfc.proofs.note.PairLaws.{entry_put}
use Rattle.sfc.proofs.note.ranges.U32Entry.put_bound.Goals as goal

pub returns : goal.returns
returns c = entry_put c.args.out.now c.args.b c.args.i c.requires
