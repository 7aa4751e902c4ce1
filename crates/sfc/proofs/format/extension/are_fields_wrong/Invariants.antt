-- `sfc::format::extension::are_fields_wrong` meets its contract. The loop's invariant: what is left to find wrong is what is wrong with the whole. Assumes nothing.
use Rattle.std.proofs.Common.{length}
use Rattle.sfc.specs.inner.Fields.{fields_left}
use Rattle.sfc.proofs.format.ExtensionLaws.{Judging}
use Rattle.sfc.proofs.format.extension.are_fields_wrong.Given as goal

abbrev pub invariant-loop-field : goal.invariant-loop-field
invariant-loop-field l = Judging l.blocks l.flags l.e l.fields.rest.now

abbrev pub decreases-loop-field : goal.decreases-loop-field
decreases-loop-field l = length (fields_left l.fields)
