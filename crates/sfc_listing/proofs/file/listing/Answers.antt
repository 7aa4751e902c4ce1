-- `sfc_listing::file::listing` meets its contract, by its three answers. Assumes nothing.
use mathlib.Core.Path.{sym, ◌∙◌}
use borrow.Author.Rules.{rules}
use Rattle.sfc_listing.specs.Listing.{listing_of}
use Rattle.sfc_listing.specs.Lines.{Appended}
use Rattle.sfc_listing.specs.Lent.{on_desk}
use Rattle.sfc_listing.specs.Steps.{text_room}
use Rattle.sfc_listing.proofs.LineLaws.{front}
use Rattle.sfc_listing.proofs.FileLaws.{cleared-same, listed-wrong, listed_short, listed_good}
use Rattle.sfc_listing.proofs.file.listing.Goals as goal

pub returns-then-are_lengths_wrong-clause-listed : goal.returns-then-are_lengths_wrong-clause-listed
returns-then-are_lengths_wrong-clause-listed c =
    listed-wrong c.args.file.now (on_desk c.args.desk.now) c.args.out.now (sym c.are_lengths_wrong.ensures ∙ c.if-are_lengths_wrong.true)

pub returns-then-out-lt-TEXT-clause-listed : goal.returns-then-out-lt-TEXT-clause-listed
returns-then-out-lt-TEXT-clause-listed c =
    listed_short c.args.file.now (on_desk c.args.desk.now) c.args.out.now (sym c.are_lengths_wrong.ensures ∙ c.if-are_lengths_wrong.false) c.if-out-lt-TEXT.true

pub returns-clause-listed : goal.returns-clause-listed
returns-clause-listed c =
    let a = c.args in
    let d = on_desk a.desk.now in
    let t : Appended text_room a.out.now 0 (listing_of a.file.now) c.list_file.new.page.at c.list_file.new.page.out.now
    = rw (c.new-page.ensures.blank.0, c.new-page.ensures.blank.1) at c.list_file.ensures.told in
    let p = front t in
    listed_good a.file.now d a.out.now (sym c.are_lengths_wrong.ensures ∙ c.if-are_lengths_wrong.false) c.if-out-lt-TEXT.false c.length.result _ (on_desk c.clear.new.self)
    (c.length.ensures ∙ p.0, search (rules, p.1, c.list_file.ensures.memory, c.new-page.ensures.memory))
    (c.clear.ensures.cleared ∙ cleared-same _ d (search rules) (search rules) (search rules) (search rules) (search rules) (search rules))
