-- `sfc::note::missing::put_unheld` meets its contract. The loop's invariant: the marks after those that are left are listed in the places from k on. Assumes nothing.
use Rattle.std.proofs.Common.{◌≡◌, length, take}
use Rattle.sfc.proofs.note.MissingLaws.{Listing}
use Rattle.sfc.proofs.note.missing.put_unheld.Given as goal

abbrev pub invariant-loop-i : goal.invariant-loop-i
invariant-loop-i l = record {
  left : l.i-iterator.iter.iter.rest.now ≡ take (length l.i-iterator.iter.iter.rest.now) l.marks;
  from : l.i-iterator.iter.count ≡ 0;
  listing : Listing l.marks l.count l.initial.out l.out l.k (length l.i-iterator.iter.iter.rest.now);
}
