-- `sfc::note::ranges::put_range_bytes` meets its contract: bound 0 stands at byte 23, and a pair has eight bytes. Assumes nothing.
use Rattle.std.proofs.Common.{◌≡◌, ◌+◌, ◌*◌, arith}
use Rattle.sfc.proofs.note.PairLaws.{as_bytes}
use Rattle.sfc.proofs.note.ranges.put_range_bytes.Goals as goal

pub put_ranges-requires : goal.put_ranges-requires
put_ranges-requires c = record { laid = as_bytes; room = (c.requires.0, c.requires.1, omega (arith, c.requires.2)) }

pub returns : goal.returns
returns c = let e : 23 + 4 * (2 * c.args.count) ≡ 23 + 8 * c.args.count = omega arith in rw e at c.put_ranges.ensures.after
