-- `little::store` meets its contract. The loop's invariant: the bytes stored and those of the rest are the bytes of the number.
-- Assumes nothing.
use mathlib.Core.Path.{refl}
use native.Mathlib.Nat.{sub-zero}
use native.Mathlib.Omega.{arith}
use lib.ListN.{length-set}
use Rattle.little.proofs.FieldLaws.{fill_turn, fill_end}
use Rattle.little.proofs.store.Goals as goal

pub loop-x-init : goal.loop-x-init
loop-x-init c = (omega arith, refl, rw sub-zero)

pub loop-x-preserved : goal.loop-x-preserved
loop-x-preserved c =
    let l = c.loop-x in
    (omega arith, simp length-set l.invariant.1, fill_turn l.d _ _ l.x-index l.rest (omega arith) l.invariant.1 l.invariant.2)

pub returns : goal.returns
returns c = let l = c.loop-x in fill_end l.d _ _ l.x-index l.rest (omega arith) l.invariant.1 l.invariant.2
