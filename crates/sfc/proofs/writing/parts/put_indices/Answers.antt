-- `sfc::writing::parts::put_indices` meets its contract. The loop's invariant: the indices before i stand there. Assumes nothing.
use native.Mathlib.Omega.{arith}
use Rattle.sfc.proofs.writing.LayoutLaws.{indices_start, indices-turn, indices-end}
use Rattle.sfc.proofs.writing.parts.put_indices.Goals as goal

pub loop-i-init : goal.loop-i-init
loop-i-init c = indices_start c.args.d.now c.args.list.now

pub loop-i-preserved : goal.loop-i-preserved
loop-i-preserved c = let l = c.loop-i in indices-turn _ c.args.list.now _ _ l.i c.loop-i-test.true c.requires l.invariant c.write32.ensures.1

pub returns : goal.returns
returns c = let l = c.loop-i in indices-end _ c.args.list.now _ l.i (omega arith) c.requires l.invariant
