-- `gf16::inverse_by_squares` meets its contract. The loop's invariant: the product so far, times the squares that are left, is the
-- inverse. Assumes nothing.
use Rattle.std.proofs.Common.{◌-◌}
use Rattle.gf16.specs.Field.{inv}
use Rattle.gf16.proofs.Inverse.{Balanced}
use Rattle.gf16.proofs.inverse_by_squares.Given as goal

abbrev pub invariant-loop : goal.invariant-loop
invariant-loop l = Balanced (15 - l.counter) l.power l.product (inv l.a)
