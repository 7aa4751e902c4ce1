-- `sfc::note::ranges::put_ranges` meets its contract. The loop's invariant: the ranges of the marks after those that are left stand in the pairs from k on. Assumes nothing.
use Rattle.std.proofs.Common.{◌≡◌, ◌*◌, length, take}
use Rattle.sfc.proofs.note.PairLaws.{Placing}
use Rattle.sfc.proofs.note.ranges.put_ranges.Given as goal

abbrev pub invariant-loop-i : goal.invariant-loop-i
invariant-loop-i g l = record {
  left : l.i-iterator.iter.iter.rest.now ≡ take (length l.i-iterator.iter.iter.rest.now) l.marks;
  from : l.i-iterator.iter.count ≡ 0;
  placing : Placing g.E.Entry.lay (λ k. g.E.Entry.place (2 * k)) l.marks l.count (g.E.Entry.held l.initial.out) (g.E.Entry.held l.out) l.k l.joined (length l.i-iterator.iter.iter.rest.now);
}
