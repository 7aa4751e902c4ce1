-- `sfc::format::header::read_region` meets its contract: a part that refuses stops, a good one goes on, and last come the fields.
-- Assumes nothing.
use mathlib.Core.Path.{sym, ap, ◌∙◌}
use Rattle.std.specs.Prelude.{Ok, Err}
use Rattle.sfc.specs.format.Header.{head_of, region_checks, trailer_checks}
use Rattle.sfc.proofs.answer.CheckLaws.{good_then, refused_then, good_all, refused_all, passed_on}
use Rattle.sfc.proofs.format.header.read_region.Goals as goal

pub returns-in_err-check_region : goal.returns-in_err-check_region
returns-in_err-check_region c =
    let a = c.args in
    passed_on _ _ c.from_residual.ensures.1
    ∙ sym (refused_then Err (region_checks a.r.now) (trailer_checks a.r.now a.t.now) (Ok (head_of a.r.now)) _ (sym c.check_region.ensures ∙ c.in_err-check_region.was))

pub returns-in_err-check_trailer : goal.returns-in_err-check_trailer
returns-in_err-check_trailer c =
    let a = c.args in
    passed_on _ _ c.from_residual-in_err-check_trailer.ensures.1
    ∙ sym (refused_all Err (trailer_checks a.r.now a.t.now) (Ok (head_of a.r.now)) _ (sym c.check_trailer.ensures ∙ c.in_err-check_trailer.was))
    ∙ sym (good_then Err (region_checks a.r.now) (trailer_checks a.r.now a.t.now) (Ok (head_of a.r.now)) (sym c.check_region.ensures ∙ c.in_ok-check_region.was))

pub returns : goal.returns
returns c =
    let a = c.args in
    ap Ok c.head_of.ensures
    ∙ sym (good_all Err (trailer_checks a.r.now a.t.now) (Ok (head_of a.r.now)) (sym c.check_trailer.ensures ∙ c.in_ok-check_trailer.was))
    ∙ sym (good_then Err (region_checks a.r.now) (trailer_checks a.r.now a.t.now) (Ok (head_of a.r.now)) (sym c.check_region.ensures ∙ c.in_ok-check_region.was))
