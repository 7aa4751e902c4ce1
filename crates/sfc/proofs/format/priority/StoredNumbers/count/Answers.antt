-- `sfc::format::priority::StoredNumbers::count` meets its contract. Assumes nothing.
use Rattle.std.proofs.Common.{sym}
use Rattle.sfc.proofs.format.ListLaws.{length-indices}
use Rattle.sfc.proofs.format.priority.StoredNumbers.count.Goals as goal

pub returns : goal.returns
returns c = sym (length-indices _ _ _)
