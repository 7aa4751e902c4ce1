-- `sfc::format::extension::are_fields_wrong` meets its contract. The loop's invariant: what is left to find wrong is what is wrong with the whole. Assumes nothing.
use Rattle.std.proofs.Common.{◌∙◌, ap, not}
use Rattle.sfc.specs.inner.Fields.{seen}
use Rattle.sfc.proofs.format.ExtensionLaws.{judging_start, judging_end, field_broken, field_good}
use Rattle.sfc.proofs.format.extension.are_fields_wrong.Goals as goal

pub loop-field-init : goal.loop-field-init
loop-field-init c = let a = c.args in judging_start a.blocks a.flags a.e.now _ c.of-fields.ensures

pub returns-then-breaks_rule-comes_again : goal.returns-then-breaks_rule-comes_again
returns-then-breaks_rule-comes_again c =
    let a = c.args in
    let s = c.in-Some.ensures.steps in
    field_broken a.blocks a.flags a.e.now _ _ (seen c.in-Some.field) c.loop-field.invariant s.0 s.1 (rw (c.comes_again.ensures, c.breaks_rule.ensures) at c.if-breaks_rule-comes_again.true)

pub loop-field-preserved : goal.loop-field-preserved
loop-field-preserved c =
    let a = c.args in
    let s = c.in-Some.ensures.steps in
    field_good a.blocks a.flags a.e.now _ _ (seen c.in-Some.field) c.loop-field.invariant s.0 s.1 (rw (c.comes_again.ensures, c.breaks_rule.ensures) at c.if-breaks_rule-comes_again.false)

pub returns : goal.returns
returns c =
    let a = c.args in
    let s = c.in_default.ensures.steps in
    ap not c.is_empty.ensures ∙ judging_end a.blocks a.flags a.e.now _ _ c.loop-field.invariant s.0 s.1 s.2
