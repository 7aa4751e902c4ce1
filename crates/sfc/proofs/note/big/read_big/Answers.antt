-- `sfc::note::big::read_big` meets its contract. The loop's invariant: the number is that of the first i bytes. Assumes nothing.
use mathlib.Core.Path.{◌≡◌, refl}
use native.Mathlib.Omega.{arith}
use Rattle.sfc.specs.note.Note.{be}
use Rattle.sfc.proofs.note.BigLaws.{read_turn, read_fits}
use Rattle.sfc.proofs.note.big.read_big.Goals as goal

pub loop-i-init : goal.loop-i-init
unfolding be
loop-i-init c = (omega arith, refl)

pub overflow_mul-v : goal.overflow_mul-v
overflow_mul-v c =
    let l = c.loop-i in
    omega (arith, read_fits _ (λ j. (c.shared_slice_known-1.given j).fits) _ l.i _ l.v c.loop-i-test.true c.requires.0 l.invariant.1)

pub overflow_add-v : goal.overflow_add-v
overflow_add-v c =
    let l = c.loop-i in
    omega (arith, read_fits _ (λ j. (c.shared_slice_known-1.given j).fits) _ l.i _ l.v c.loop-i-test.true c.requires.0 l.invariant.1)

pub loop-i-preserved : goal.loop-i-preserved
loop-i-preserved c =
    let l = c.loop-i in
    (omega arith, rw c.byte_at.ensures (read_turn _ _ l.i l.v l.invariant.1))

pub returns : goal.returns
returns c =
    let l = c.loop-i in
    let e : l.i ≡ c.args.width = omega arith in
    rw e at l.invariant.1
