-- `gf16::double` meets its contract, in each branch by the law for its test. Assumes nothing.
use mathlib.Core.Path.{◌≡◌, sym, subst}
use Prim.Native.Nat.{ℕ, ◌*◌, ◌<◌}
use lib.Bits.{bit_xor}
use Rattle.gf16.specs.Field.{polynomial, double}
use Rattle.gf16.proofs.Ring.{double_small, double_large, double-closed}
use Rattle.gf16.proofs.double.Goals as goal
use Rattle.gf16.proofs.double.Goals.{Else-d-lt-SIZE}

large : (c : Else-d-lt-SIZE) → double c.args.a ≡ bit_xor (2 * c.args.a) 0x1002D
unfolding polynomial
large c = double_large c.args.a c.ranges.a.fits c.if-d-lt-SIZE.false

pub overflow_cast-result-else-d-lt-SIZE : goal.overflow_cast-result-else-d-lt-SIZE
overflow_cast-result-else-d-lt-SIZE c =
    record { fits = subst (λ (x : ℕ). x < 65536) (large (goal.at.overflow_cast-result-else-d-lt-SIZE c).Else-d-lt-SIZE) (double-closed c.args.a c.ranges.a.fits) }

pub returns-then-d-lt-SIZE : goal.returns-then-d-lt-SIZE
returns-then-d-lt-SIZE c = sym (double_small c.args.a c.if-d-lt-SIZE.true)

pub returns-else-d-lt-SIZE : goal.returns-else-d-lt-SIZE
returns-else-d-lt-SIZE c = sym (large (goal.at.returns-else-d-lt-SIZE c).Else-d-lt-SIZE)
