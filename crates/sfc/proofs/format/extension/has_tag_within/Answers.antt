-- `sfc::format::extension::has_tag_within` meets its contract: the test of each field that comes. Assumes nothing.
use Rattle.std.proofs.Common.{◌∙◌, ap, length, rules, tests}
use Rattle.std.proofs.lemmas.Iterator.Consumers.{YieldsList-from_shown}
use Rattle.std.proofs.lemmas.Iterator.Search.{any_from_yields_List}
use Rattle.little.specs.Runs.{any}
use Rattle.sfc.specs.format.Extension.{tag_within, fields_of}
use Rattle.sfc.specs.inner.Fields.{seen, fields_left, GivesField}
use Rattle.sfc.proofs.format.TagLaws.{some_element}
use Rattle.sfc.proofs.format.extension.has_tag_within.Goals as goal

pub returns : goal.returns
returns c =
    let a = c.args in
    let walk = YieldsList-from_shown GivesField seen fields_left (λ s t g. ap length g.0) (λ s x t g. g.0) c.of.result in
    any_from_yields_List (tag_within a.low a.high) _ _ _ c.any.ensures.ran walk (λ x b q k. search (rules, tests))
    ∙ some_element (tag_within a.low a.high) (fields_left c.of.result)
    ∙ ap (λ e. any (tag_within a.low a.high) (fields_of e)) c.of.ensures
