-- `gf16::inverses_listed` meets its contract: a test that antt computes over the table as it stands in the code (`tt`), so the
-- numbers are written nowhere else. Assumes nothing.
use Rattle.gf16.specs.Field.{polynomial, scale, double, mul_bits, mul}
use Rattle.gf16.proofs.Listed.{is_listed_inverse, lists_inverses}
use Rattle.gf16.proofs.inverses_listed.Goals as goal

pub returns : goal.returns
unfolding is_listed_inverse mul mul_bits double scale polynomial
returns c = lists_inverses _ tt
