-- `sfc_listing::page::Page::put_uuid` meets its contract, piece by piece. Assumes nothing.
use mathlib.Core.Path.{◌≡◌}
use borrow.Author.Rules.{rules}
use lib.ListN.{length}
use Rattle.sfc_listing.specs.Text.{text}
use Rattle.sfc_listing.proofs.PageLaws.{uuid_made}
use Rattle.sfc_listing.proofs.page.Page.put_uuid.Goals as goal

pub returns : goal.returns
unfolding text
returns c =
    let u : length c.args.uuid ≡ 16 = search rules in
    uuid_made c.args.uuid u c.requires c.put.ensures c.put_hex.ensures c.put-2.ensures
