-- `sfc_listing::page::Page::put_decimal` meets its contract: std's digits are ours. Assumes nothing.
use mathlib.Core.Path.{◌≡◌, ap, ◌∙◌}
use native.Mathlib.Omega.{arith}
use lib.ListN.{length}
use Rattle.sfc_listing.specs.Text.{decimal}
use Rattle.sfc_listing.proofs.PageLaws.{puts_within, decimal_is}
use Rattle.sfc_listing.proofs.page.Page.put_decimal.Goals as goal

pub returns : goal.returns
returns c =
    let e : c.format.result.now ≡ decimal c.args.value = c.format.ensures.text ∙ decimal_is c.args.value c.ranges.value.fits in
    puts_within (rw e at c.put.ensures) (omega (arith, c.format.ensures.fits, ap length e))
