-- `sfc_listing::page::Page::put_shape` meets its contract, piece by piece. Assumes nothing.
use Rattle.sfc_listing.specs.Text.{text}
use Rattle.sfc_listing.proofs.PageLaws.{shape_made}
use Rattle.sfc_listing.proofs.page.Page.put_shape.Goals as goal

pub returns : goal.returns
unfolding text
returns c =
    let h = c.args.h in
    shape_made h.n h.m h.size h.s c.requires c.put_value.ensures c.put_value-2.ensures c.put_value-3.ensures c.put_value-4.ensures c.put.ensures
