-- `sfc_listing::page::Page::put_head` meets its contract, line by line. Assumes nothing.
use native.Mathlib.Omega.{arith}
use Rattle.sfc_listing.specs.Listing.{head_text}
use Rattle.sfc_listing.proofs.PageLaws.{puts_then}
use Rattle.sfc_listing.proofs.page.Page.put_head.Goals as goal

pub returns : goal.returns
unfolding head_text
returns c = puts_then (omega (arith, c.requires)) c.put_uuid.ensures c.put_shape.ensures
