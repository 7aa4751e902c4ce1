-- `put_back` meets its contract. Assumes nothing.
use lib.Bits.{bit_xor, xor_lt}
use Rattle.gf16.specs.Field.{Elem, mul, inv}
use Rattle.gf16.proofs.Laws.{laws}
use Rattle.cauchy.proofs.solver.StepLaws.{scaled_dst, scaled_one}
use Rattle.cauchy.proofs.solver.put_back.Goals as goal

pub returns : goal.returns
returns c =
    let a = c.args in
    let s = rw (c.mul-d.ensures, c.inv-2.ensures, c.mul-c.ensures, c.inv.ensures) at c.scale.ensures in
    let up : Elem (bit_xor a.x0 a.y) = xor_lt 16 a.x0 a.y c.ranges.x0.fits c.ranges.y.fits in
    let hc = laws.mul_below (bit_xor a.x0 a.y) (inv (bit_xor a.y0 a.y)) up in
    let hi = laws.inv-closed (bit_xor a.x0 a.y) up in (
      scaled_dst (mul (bit_xor a.x0 a.y) (inv (bit_xor a.y0 a.y))) (inv (bit_xor a.x0 a.y)) a.dst.now a.one.now _ _ hc hi (λ p. (c.slice_known-2-1.given p).fits) (λ p. (c.slice_known-1.given p).fits) c.requires.0 s.0 s.1,
      scaled_one (mul (bit_xor a.x0 a.y) (inv (bit_xor a.y0 a.y))) (inv (bit_xor a.x0 a.y)) a.dst.now a.one.now _ _ hc hi (λ p. (c.slice_known-2-1.given p).fits) (λ p. (c.slice_known-1.given p).fits) c.requires.0 s.0 s.1,
    )
