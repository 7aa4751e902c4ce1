-- `sfc::format::extension::comes_again` meets its contract: one tag is the walk's case of equal bounds. Assumes nothing.
use Rattle.sfc.specs.format.Extension.{fields_of}
use Rattle.sfc.proofs.format.TagLaws.{known_again, foreign_again}
use Rattle.sfc.proofs.format.extension.comes_again.Goals as goal

pub returns-then-is_known : goal.returns-then-is_known
returns-then-is_known c =
    let a = c.args in
    known_again a.tag (fields_of a.after.now) _ c.is_known.ensures _ c.if-is_known.true c.has_tag_within.ensures

pub returns : goal.returns
returns c =
    let a = c.args in
    foreign_again a.tag (fields_of a.after.now) _ c.is_known.ensures c.if-is_known.false
