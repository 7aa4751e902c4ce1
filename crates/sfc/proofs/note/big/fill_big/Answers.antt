-- `sfc::note::big::fill_big` meets its contract. The loop's invariant: the bytes left to store and those stored are the bytes of the number. Assumes nothing.
use mathlib.Core.Path.{refl}
use native.Mathlib.Omega.{arith}
use lib.ListN.{length-set}
use Rattle.sfc.proofs.note.BigLaws.{fill_start, fill_turn, fill_end}
use Rattle.sfc.proofs.note.big.fill_big.Goals as goal

pub loop-i-init : goal.loop-i-init
loop-i-init c = (omega arith, refl, fill_start c.args.d.now c.args.v)

pub loop-i-preserved : goal.loop-i-preserved
loop-i-preserved c =
    let l = c.loop-i in
    (omega arith, simp length-set l.invariant.1, fill_turn l.d _ l.i l.rest c.loop-i-test.true (omega arith) l.invariant.2)

pub returns : goal.returns
returns c =
    let l = c.loop-i in
    fill_end l.d _ l.i l.rest (omega arith) l.invariant.2
