-- `sfc_listing::lines::LastWord::line` meets its contract: one text for each way a release ends. Assumes nothing.
use Rattle.sfc_listing.specs.Text.{text}
use Rattle.sfc_listing.specs.Lines.{word_of}
use Rattle.sfc_listing.proofs.lines.LastWord.line.Goals as goal

pub returns-in-Complete : goal.returns-in-Complete
unfolding text word_of
returns-in-Complete c = rw c.in-Complete.is

pub returns-in-HashDiffers : goal.returns-in-HashDiffers
unfolding text word_of
returns-in-HashDiffers c = rw c.in-HashDiffers.is

pub returns-in-Incomplete : goal.returns-in-Incomplete
unfolding text word_of
returns-in-Incomplete c = rw c.in-Incomplete.is
