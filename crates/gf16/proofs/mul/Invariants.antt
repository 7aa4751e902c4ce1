-- `gf16::mul` meets its contract. The loop's invariant: the sum so far, and what the bits that are left add to it, are the
-- product. Assumes nothing.
use Rattle.std.proofs.Common.{◌≡◌, ◌-◌, bit_xor}
use Rattle.gf16.specs.Field.{mul, mul_bits}
use Rattle.gf16.proofs.mul.Given as goal

abbrev pub invariant-loop : goal.invariant-loop
invariant-loop l = bit_xor l.sum (mul_bits (16 - l.counter) l.x l.y) ≡ mul l.a l.b
