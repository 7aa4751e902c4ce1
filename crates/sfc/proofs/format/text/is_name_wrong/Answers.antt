-- `sfc::format::text::is_name_wrong` meets its contract: a zero byte cuts the name short. Assumes nothing.
use Rattle.sfc.proofs.format.TextLaws.{name_tests}
use Rattle.sfc.proofs.format.text.is_name_wrong.Goals as goal

pub returns : goal.returns
returns c = let a = c.args in name_tests a.name.now _ c.name_length.ensures
