-- `sfc_listing::page::Page::put_end` meets its contract, line by line. Assumes nothing.
use mathlib.Core.Path.{ap}
use lib.ListN.{length}
use native.Mathlib.Omega.{arith}
use Rattle.sfc_listing.specs.Text.{line}
use Rattle.sfc_listing.specs.Lines.{word_of}
use Rattle.sfc_listing.specs.Page.{Puts}
use Rattle.sfc_listing.proofs.PageLaws.{puts_within, end-made, word_short}
use Rattle.sfc_listing.proofs.page.Page.put_end.Goals as goal

pub put-requires : goal.put-requires
put-requires c = omega (arith, c.requires, c.put_counts.ensures, c.put_missing.ensures, word_short c.args.last, ap length c.line.ensures)

pub returns : goal.returns
returns c =
    let a = c.args in
    let w : Puts 13 c.put_missing.new.self (line (word_of a.last)) c.put.new.self = puts_within (rw c.line.ensures at c.put.ensures) (word_short a.last) in
    end-made a.counted.held a.counted.barred a.bounds.now (word_of a.last) c.requires.few c.requires.room c.put_counts.ensures c.put_missing.ensures w
