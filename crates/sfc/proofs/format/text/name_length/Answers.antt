-- `sfc::format::text::name_length` meets its contract: the longest front without a zero byte. Assumes nothing.
use Rattle.std.proofs.Common.{ℕ, ◌∙◌, not, eqb, rules, tests}
use Rattle.std.proofs.lemmas.Iterator.{YieldsList-from_slice}
use Rattle.std.proofs.lemmas.Iterator.Consumers.{count_from_yields_List}
use Rattle.std.proofs.lemmas.Iterator.Search.{YieldsList-from_take_while}
use Rattle.std.proofs.lemmas.List.Folds.{length-prefix_len}
use Rattle.sfc.proofs.format.TextLaws.{name-front}
use Rattle.sfc.proofs.format.text.name_length.Goals as goal

pub returns : goal.returns
returns c =
    let field = c.args.field.now in
    let test = λ (x : ℕ). not (eqb x 0) in
    count_from_yields_List _ _ c.count.ensures.ran
    (YieldsList-from_take_while _ test (YieldsList-from_slice field cc) c.take_while.ensures.closure c.take_while.ensures.done (λ x b q k. search (rules, tests)))
    ∙ length-prefix_len test field
    ∙ name-front field
