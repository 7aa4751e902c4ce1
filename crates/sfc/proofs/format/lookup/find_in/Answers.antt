-- `sfc::format::lookup::find_in` meets its contract. The loop's invariant: what is left to be found is what is to be found at all, and `at` is the place of what lies there. Assumes nothing.
use Rattle.std.proofs.Common.{◌≡◌, ◌∙◌, ap, arith, length}
use Rattle.sfc.specs.inner.Fields.{seen}
use Rattle.sfc.specs.format.Extension.{fields_of}
use Rattle.sfc.proofs.format.LookupLaws.{walking_start, walking_end, found, not_this}
use Rattle.sfc.proofs.format.lookup.find_in.Goals as goal

pub loop-field-init : goal.loop-field-init
loop-field-init c =
    let a = c.args in
    let same : c.into_iter-field-iterator.result.rest.now ≡ a.e.now = ap (λ s. s.rest.now) c.into_iter-field-iterator.ensures.into_iter_gives ∙ c.of-field-items.ensures in
    (walking_start a.tag a.start a.e.now _ (ap fields_of same), omega (arith, ap length same))

pub returns-then-field-tag : goal.returns-then-field-tag
returns-then-field-tag c =
    let a = c.args in
    let l = c.loop-field in
    found a.tag a.start a.e.now l.at (seen c.in-Some.field) _ _ l.invariant.0 c.in-Some.ensures.steps.0 c.if-field-tag.true

pub loop-field-preserved : goal.loop-field-preserved
loop-field-preserved c =
    let a = c.args in
    let l = c.loop-field in
    let s = c.in-Some.ensures.steps in
    (not_this a.tag a.start a.e.now l.at (seen c.in-Some.field) _ _ l.invariant.0 s.0 c.if-field-tag.false, omega (arith, s.2, l.invariant.1))

pub returns : goal.returns
returns c =
    let a = c.args in
    walking_end a.tag a.start a.e.now c.loop-field.at _ c.in-None.ensures.steps.0 c.loop-field.invariant.0
