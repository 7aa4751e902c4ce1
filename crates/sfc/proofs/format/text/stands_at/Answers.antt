-- `sfc::format::text::stands_at` meets its contract: the wanted bytes beside their places, each compared. Assumes nothing.
use Rattle.std.proofs.Common.{ℕ, ◌+◌, ◌∙◌, eqb, get_or, rules, tests, arith, length}
use Rattle.std.proofs.lemmas.Iterator.{YieldsList-from_slice, YieldsList-from_range, YieldsList-from_zip}
use Rattle.std.proofs.lemmas.Iterator.Search.{all_from_yields_List}
use Rattle.sfc.proofs.format.TextLaws.{stands-zip}
use Rattle.sfc.proofs.format.text.stands_at.Goals as goal

pub returns : goal.returns
returns c =
    let a = c.args in
    let places = YieldsList-from_range a.at (a.at + length a.wanted.now) (length a.wanted.now) c.zip.ensures.first (omega arith) in
    let bytes = YieldsList-from_slice a.wanted.now c.zip.ensures.second.0 in
    all_from_yields_List (λ (p : ℕ × ℕ). eqb (get_or a.s.now p.0 0) p.1) c.all.new.self _ _ c.all.ensures.ran (YieldsList-from_zip places bytes) (λ x b q k. search (rules, tests))
    ∙ stands-zip a.s.now a.at a.wanted.now
