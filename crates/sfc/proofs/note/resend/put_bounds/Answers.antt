-- `sfc::note::resend::put_bounds` meets its contract. The loop's invariant: the pairs from k on stand in the output. Assumes nothing.
use native.Mathlib.Omega.{arith}
use lib.ListN.{length-set}
use Rattle.sfc.proofs.note.NoteLaws.{copy_start, copy_turn, copy_end}
use Rattle.sfc.proofs.note.resend.put_bounds.Goals as goal

pub loop-k-init : goal.loop-k-init
loop-k-init c = copy_start _ _ _

pub bounds-out-k-in-loop-k : goal.bounds-out-k-in-loop-k
bounds-out-k-in-loop-k c = simp length-set (omega (arith, c.loop-k.invariant.within, c.loop-k.invariant.long, c.requires))

pub loop-k-preserved : goal.loop-k-preserved
loop-k-preserved c =
    let l = c.loop-k in
    copy_turn _ _ _ l.out l.k _ _ c.loop-k-test.true c.requires l.invariant c.read_big-in-loop-k.ensures c.read_big.ensures

pub shape_of-out : goal.shape_of-out
shape_of-out c = c.loop-k.invariant.long

pub returns : goal.returns
returns c =
    let l = c.loop-k in
    copy_end _ _ _ l.out l.k (omega arith) l.invariant
