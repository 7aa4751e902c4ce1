-- `sfc::give::prefix::count_leading` meets its contract: the longest front of held marks. Assumes nothing.
use Rattle.std.proofs.Common.{◌∙◌, rules, tests}
use Rattle.std.proofs.lemmas.Iterator.{YieldsList-from_slice}
use Rattle.std.proofs.lemmas.Iterator.Consumers.{count_from_yields_List}
use Rattle.std.proofs.lemmas.Iterator.Search.{YieldsList-from_take_while}
use Rattle.std.proofs.lemmas.List.Folds.{length-prefix_len}
use Rattle.sfc.specs.session.Marks.{is_held}
use Rattle.sfc.proofs.give.PrefixLaws.{leading-front}
use Rattle.sfc.proofs.give.prefix.count_leading.Goals as goal

pub returns : goal.returns
returns c =
    let marks = c.args.marks.now in
    count_from_yields_List _ _ c.count.ensures.ran
    (YieldsList-from_take_while _ is_held (YieldsList-from_slice marks cc) c.take_while.ensures.closure c.take_while.ensures.done (λ x b q k. search (rules, tests)))
    ∙ length-prefix_len is_held marks
    ∙ leading-front marks
