-- `sfc::format::extension::do_tags_fall` meets its contract. The loop's invariant: the tags still to come fall, or the first of them below the last one met, exactly if the tags of the whole fall. Assumes nothing.
use Rattle.std.proofs.Common.{◌∙◌, ap}
use Rattle.sfc.specs.inner.Fields.{seen, fields_left}
use Rattle.sfc.specs.format.Extension.{fields_of}
use Rattle.sfc.proofs.format.TagLaws.{climbing_start, climbing_end, fall_here, no_fall_here}
use Rattle.sfc.proofs.format.extension.do_tags_fall.Goals as goal

pub loop-field-init : goal.loop-field-init
loop-field-init c = climbing_start c.args.e.now _ (ap fields_left c.into_iter-field-iterator.ensures.into_iter_gives ∙ ap fields_of c.of-field-items.ensures)

pub returns-then-field-least : goal.returns-then-field-least
returns-then-field-least c =
    fall_here c.args.e.now c.loop-field.least (seen c.in-Some.field) _ _ c.loop-field.invariant c.in-Some.ensures.steps.0 c.if-field-least.true

pub loop-field-preserved : goal.loop-field-preserved
loop-field-preserved c =
    no_fall_here c.args.e.now c.loop-field.least (seen c.in-Some.field) _ _ c.loop-field.invariant c.in-Some.ensures.steps.0 c.if-field-least.false

pub returns : goal.returns
returns c = climbing_end c.args.e.now c.loop-field.least _ c.in-None.ensures.steps.0 c.loop-field.invariant
