-- `sfc::format::spot::count_agreeing` meets its contract: the wanted bytes beside their places, as far as they stand. Assumes nothing.
use Rattle.std.proofs.Common.{ℕ, ◌+◌, ◌∙◌, eqb, get_or, rules, tests, arith, length}
use Rattle.std.proofs.lemmas.Iterator.{YieldsList-from_slice, YieldsList-from_range, YieldsList-from_zip}
use Rattle.std.proofs.lemmas.Iterator.Consumers.{count_from_yields_List, YieldsList-at}
use Rattle.std.proofs.lemmas.Iterator.Search.{YieldsList-from_take_while}
use Rattle.std.proofs.lemmas.List.Folds.{length-prefix_len}
use Rattle.std.specs.List.{zip, range_with_len}
use Rattle.sfc.proofs.format.SpotLaws.{agreeing-zip}
use Rattle.sfc.proofs.format.spot.count_agreeing.Goals as goal

pub returns : goal.returns
returns c =
    let a = c.args in
    let test = λ (p : ℕ × ℕ). eqb (get_or a.c.now p.0 0) p.1 in
    let pairs = zip (range_with_len a.at (length a.wanted.now)) a.wanted.now in
    let places = YieldsList-from_range a.at (a.at + length a.wanted.now) (length a.wanted.now) c.zip.ensures.first (omega arith) in
    let bytes = YieldsList-from_slice a.wanted.now c.zip.ensures.second.0 in
    count_from_yields_List _ _ c.count.ensures.ran
    (YieldsList-from_take_while _ test (YieldsList-at c.take_while.ensures.source (YieldsList-from_zip places bytes)) c.take_while.ensures.closure c.take_while.ensures.done
    (λ x b q k. search (rules, tests)))
    ∙ length-prefix_len test pairs
    ∙ agreeing-zip a.c.now a.at a.wanted.now
