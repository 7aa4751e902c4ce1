-- `gf16::half` meets its contract. Assumes nothing.
use Rattle.gf16.proofs.Listed.{doubled_half}
use Rattle.gf16.proofs.half.Goals as goal

pub returns : goal.returns
returns c = doubled_half c.args.a c.ranges.a.fits
