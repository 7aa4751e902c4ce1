-- `sfc_listing::page::Page::put_refusal` meets its contract, piece by piece, with a place and without. Assumes nothing.
use Rattle.sfc_listing.specs.Text.{text}
use Rattle.sfc_listing.proofs.PageLaws.{placed_made, unplaced_made}
use Rattle.sfc_listing.proofs.page.Page.put_refusal.Goals as goal

pub returns-in-Some : goal.returns-in-Some
unfolding text
returns-in-Some c =
    placed_made c.args.own c.args.reason c.args.spot _ _ c.requires.room c.from.ensures c.in-Some.is c.put_value.ensures c.put_value-in-Some.ensures c.put.ensures

pub returns-in-None : goal.returns-in-None
returns-in-None c = unplaced_made c.args.own c.args.reason c.args.spot c.in-None.is c.put_refused.ensures
