-- `sfc::format::spot::first_other` meets its contract: no more bytes agree than are wanted. Assumes nothing.
use native.Mathlib.Omega.{arith}
use Rattle.sfc.proofs.format.SpotLaws.{agreeing_short}
use Rattle.sfc.proofs.format.spot.first_other.Goals as goal

pub overflow_add-at : goal.overflow_add-at
overflow_add-at c =
    omega (arith, c.requires, c.count_agreeing.ensures, agreeing_short c.args.c.now c.args.at c.args.wanted.now)

pub spot_at-requires : goal.spot_at-requires
spot_at-requires c =
    omega (arith, c.requires, c.count_agreeing.ensures, agreeing_short c.args.c.now c.args.at c.args.wanted.now)

pub returns : goal.returns
returns c = rw (← c.count_agreeing.ensures) c.spot_at.ensures
