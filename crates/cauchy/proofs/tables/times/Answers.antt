-- `times` meets its contract. Assumes nothing.
use mathlib.Core.Path.{ap, ◌∙◌}
use Prim.Native.Nat.{◌+◌, ◌*◌, ◌<◌}
use native.Mathlib.Omega.{arith}
use lib.ListN.{length}
use Rattle.gf16.specs.Field.{mul}
use Rattle.gf16.proofs.Laws.{laws}
use Rattle.cauchy.specs.Code.{word_at}
use Rattle.cauchy.specs.inner.Packed.{times_word}
use Rattle.cauchy.proofs.blocks.MixLaws.{mixed_start, mixed-turn}
use Rattle.cauchy.proofs.tables.MixtureLaws.{word_kept}
use Rattle.cauchy.proofs.tables.times.Goals as goal

pub loop-w-init : goal.loop-w-init
loop-w-init c = let a = c.args in mixed_start (times_word a.c a.dst.now) a.dst.now

pub loop-w-preserved : goal.loop-w-preserved
loop-w-preserved c =
    let l = c.loop-w in
    let a = c.args in
    let f = times_word a.c a.dst.now in
    let r = c.word in
    let p = c.mul-v in
    let m : 2 * l.w + 1 < length a.dst.now = omega arith in
    let e = p.ensures ∙ ap (mul a.c) (word_kept f a.dst.now l.dst l.w l.invariant m r.result r.ensures.0) in
    let h : p.result < 65536 = rw e (laws.mul_below a.c (word_at a.dst.now (2 * l.w)) c.ranges.c.fits) in
    mixed-turn f l.w a.dst.now l.dst p.result l.invariant m h e
