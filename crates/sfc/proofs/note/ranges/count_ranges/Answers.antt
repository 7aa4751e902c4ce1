-- `sfc::note::ranges::count_ranges` meets its contract. The loop's invariant: the ranges of the marks after those that are left are counted, and it is known whether one begins there. Assumes nothing.
use Rattle.std.proofs.Common.{◌≡◌, ◌∙◌, sym, ap, arith, length}
use Rattle.std.proofs.lemmas.List.{take_all}
use Rattle.sfc.proofs.note.MissingLaws.{back}
use Rattle.sfc.proofs.note.RangeLaws.{count_start, count-own, count_same, count_end}
use Rattle.sfc.proofs.note.ranges.count_ranges.Goals as goal

pub loop-mark-init : goal.loop-mark-init
loop-mark-init c =
    let marks = c.args.marks.now in
    let same : c.into_iter-mark-iterator.result.iter.rest.now ≡ marks =
    ap (λ s. s.iter.rest.now) c.into_iter-mark-iterator.ensures.into_iter_gives ∙ ap (λ s. s.rest.now) c.rev-mark-items.ensures.source ∙ c.iter.ensures.rest in
    record { left = rw same (sym (take_all (length marks) marks (omega arith))); counting = rw same (count_start _) }

pub loop-mark-preserved-then-unheld-joined : goal.loop-mark-preserved-then-unheld-joined
loop-mark-preserved-then-unheld-joined c =
    let l = c.loop-mark in
    let b = back _ _ _ _ l.invariant.left c.in-Some.ensures.steps in
    record { left = b.3; counting = rw (b.1, ← b.2) (count-own _ l.count l.joined _ b.0 l.invariant.counting (rw b.2 c.if-unheld-joined.true)) }

pub loop-mark-preserved : goal.loop-mark-preserved
loop-mark-preserved c =
    let l = c.loop-mark in
    let b = back _ _ _ _ l.invariant.left c.in-Some.ensures.steps in
    record { left = b.3; counting = rw (b.1, ← b.2) (count_same _ l.count l.joined _ b.0 l.invariant.counting (rw b.2 c.if-unheld-joined.false)) }

pub returns : goal.returns
returns c = let l = c.loop-mark in count_end _ l.count l.joined _ (omega (arith, c.in-None.ensures.steps.0)) l.invariant.counting
