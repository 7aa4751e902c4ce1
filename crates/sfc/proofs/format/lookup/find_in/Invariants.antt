-- `sfc::format::lookup::find_in` meets its contract. The loop's invariant: what is left to be found is what is to be found at all, and `at` is the place of what lies there. Assumes nothing.
use Rattle.std.proofs.Common.{◌≡◌, ◌+◌, length}
use Rattle.sfc.specs.inner.Fields.{fields_left}
use Rattle.sfc.proofs.format.LookupLaws.{Walking}
use Rattle.sfc.proofs.format.lookup.find_in.Given as goal

abbrev pub invariant-loop-field : goal.invariant-loop-field
invariant-loop-field l = Walking l.tag l.start l.e l.at (fields_left l.field-iterator) × (l.at + length l.field-iterator.rest.now ≡ l.start + length l.e)
