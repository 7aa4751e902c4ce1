-- `sfc::note::ranges::count_ranges` meets its contract. The loop's invariant: the ranges of the marks after those that are left are counted, and it is known whether one begins there. Assumes nothing.
use Rattle.std.proofs.Common.{◌≡◌, length, take}
use Rattle.sfc.proofs.note.RangeLaws.{Counting}
use Rattle.sfc.proofs.note.ranges.count_ranges.Given as goal

abbrev pub invariant-loop-mark : goal.invariant-loop-mark
invariant-loop-mark l = record {
  left : l.mark-iterator.iter.rest.now ≡ take (length l.mark-iterator.iter.rest.now) l.marks;
  counting : Counting l.marks l.count l.joined (length l.mark-iterator.iter.rest.now);
}
