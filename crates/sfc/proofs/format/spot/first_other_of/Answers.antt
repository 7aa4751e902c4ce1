-- `sfc::format::spot::first_other_of` meets its contract: std's four bytes are those of the number. Assumes nothing.
use mathlib.Core.Path.{◌∙◌}
use Rattle.sfc.proofs.format.SpotLaws.{four_bytes}
use Rattle.sfc.proofs.format.spot.first_other_of.Goals as goal

pub returns : goal.returns
returns c =
    let bytes = c.to_le_bytes.ensures ∙ four_bytes c.args.wanted in
    rw (← bytes) c.first_other.ensures
