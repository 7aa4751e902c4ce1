-- `sfc_listing::page::Page::put_counts` meets its contract, piece by piece. Assumes nothing.
use Rattle.sfc_listing.specs.Text.{text}
use Rattle.sfc_listing.proofs.PageLaws.{counts-made}
use Rattle.sfc_listing.proofs.page.Page.put_counts.Goals as goal

pub returns : goal.returns
unfolding text
returns c = counts-made c.args.counted.held c.args.counted.barred c.requires c.put_value.ensures c.put_value-2.ensures c.put.ensures
