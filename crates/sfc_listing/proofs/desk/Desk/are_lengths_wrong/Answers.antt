-- `sfc_listing::desk::Desk::are_lengths_wrong` meets its contract, length by length. Assumes nothing.
use mathlib.Core.Path.{refl}
use Rattle.sfc_listing.specs.Listing.{lengths_wrong}
use Rattle.sfc_listing.proofs.desk.Desk.are_lengths_wrong.Goals as goal

pub returns : goal.returns
unfolding lengths_wrong
returns c = refl
