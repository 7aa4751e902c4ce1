-- `sfc_listing::page::Page::put_range` meets its contract, piece by piece. Assumes nothing.
use Rattle.sfc_listing.specs.Text.{text}
use Rattle.sfc_listing.proofs.PageLaws.{range-made}
use Rattle.sfc_listing.proofs.page.Page.put_range.Goals as goal

pub returns : goal.returns
unfolding text
returns c = range-made c.args.first c.args.last c.requires c.put_value.ensures c.put_value-2.ensures c.put.ensures
