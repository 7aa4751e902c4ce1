-- `sfc::format::extension::do_tags_fall` meets its contract. The loop's invariant: the tags still to come fall, or the first of them below the last one met, exactly if the tags of the whole fall. Assumes nothing.
use Rattle.sfc.specs.inner.Fields.{fields_left}
use Rattle.sfc.proofs.format.TagLaws.{Climbing}
use Rattle.sfc.proofs.format.extension.do_tags_fall.Given as goal

abbrev pub invariant-loop-field : goal.invariant-loop-field
invariant-loop-field l = Climbing l.e l.least (fields_left l.field-iterator)
