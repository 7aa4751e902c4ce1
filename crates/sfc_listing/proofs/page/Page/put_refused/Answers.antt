-- `sfc_listing::page::Page::put_refused` meets its contract, piece by piece. Assumes nothing.
use Rattle.sfc_listing.specs.Text.{text}
use Rattle.sfc_listing.proofs.PageLaws.{refused_made}
use Rattle.sfc_listing.proofs.page.Page.put_refused.Goals as goal

pub returns : goal.returns
unfolding text
returns c = rw c.from.ensures at (refused_made c.from.result c.requires c.put_value.ensures c.put.ensures)
