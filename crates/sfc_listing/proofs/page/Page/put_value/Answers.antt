-- `sfc_listing::page::Page::put_value` meets its contract: the value's text after its name. Assumes nothing.
use native.Mathlib.Omega.{arith}
use Rattle.sfc_listing.proofs.PageLaws.{puts_then}
use Rattle.sfc_listing.proofs.page.Page.put_value.Goals as goal

pub returns : goal.returns
returns c = puts_then (omega (arith, c.requires)) c.put.ensures c.put_decimal.ensures
