-- `sfc::note::resend::is_maximal` meets its contract. The loop's invariant: what is known of the first k pairs, and the rest from `least` on, are the whole. Assumes nothing.
use native.Mathlib.Omega.{arith}
use Rattle.sfc.proofs.note.NoteLaws.{judge_start, judge_turn, judge_end}
use Rattle.sfc.proofs.note.resend.is_maximal.Goals as goal

pub loop-k-init : goal.loop-k-init
loop-k-init c = (omega arith, judge_start _ _)

pub loop-k-preserved : goal.loop-k-preserved
loop-k-preserved c =
    let l = c.loop-k in
    (omega arith, judge_turn _ _ l.k l.least _ _ l.apart _ c.loop-k-test.true c.read_big-first.ensures c.read_big-last.ensures l.invariant.1)

pub returns : goal.returns
returns c =
    let l = c.loop-k in
    judge_end _ _ l.k l.least l.apart _ (omega arith) l.invariant.1
