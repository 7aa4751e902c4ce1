-- `sfc::note::ranges::put_ranges` meets its contract. The loop's invariant: the ranges of the marks after those that are left stand in the pairs from k on. Assumes nothing.
use Rattle.std.proofs.Common.{◌≡◌, ◌+◌, ◌-◌, ◌*◌, ◌∙◌, sym, ap, arith, length}
use Rattle.std.proofs.lemmas.List.{take_all}
use Rattle.sfc.proofs.note.MissingLaws.{back}
use Rattle.sfc.proofs.note.RangeLaws.{ranges-few}
use Rattle.sfc.proofs.note.PairLaws.{rising, place_start, place_skip, place_room, place-turn, place_end}
use Rattle.sfc.proofs.note.ranges.put_ranges.Goals as goal

pub loop-i-init : goal.loop-i-init
loop-i-init g c =
    let marks = c.args.marks.now in
    let it = c.into_iter-i-iterator.ensures.into_iter_gives in
    let same : c.into_iter-i-iterator.result.iter.iter.rest.now ≡ marks =
    ap (λ s. s.iter.iter.rest.now) it ∙ ap (λ s. s.iter.rest.now) c.rev-i-items.ensures.source ∙ ap (λ s. s.rest.now) c.enumerate.ensures.source ∙ c.iter.ensures.rest in
    record {
      left = rw same (sym (take_all (length marks) marks (omega arith)));
      from = ap (λ s. s.iter.count) it ∙ ap (λ s. s.count) c.rev-i-items.ensures.source ∙ c.enumerate.ensures.count;
      placing = rw same (place_start _ _ _ _ c.requires.laid _ _ _);
    }

pub loop-i-preserved-then-mark-eq-HELD : goal.loop-i-preserved-then-mark-eq-HELD
loop-i-preserved-then-mark-eq-HELD g c =
    let l = c.loop-i in
    let s = c.in-Some.ensures.steps in
    let b = back _ _ _ _ l.invariant.left s.1.0 in
    record {
      left = b.3;
      from = s.0 ∙ l.invariant.from;
      placing = rw b.1 (place_skip _ _ _ _ c.requires.laid _ _ _ _ l.k l.joined _ b.0 l.invariant.placing (b.2 ∙ c.if-mark-eq-HELD.true));
    }

pub put_index-k-requires-clause-room : goal.put_index-k-requires-clause-room
put_index-k-requires-clause-room g c =
    let l = c.loop-i in
    let p = c.requires.room in
    let y = c.requires.laid in
    let b = back _ _ _ _ l.invariant.left c.in-Some.ensures.steps.1.0 in
    let r = place_room _ _ _ (λ k. g.E.Entry.place (2 * k)) y _ _ _ _ l.k l.joined _ b.0 l.invariant.placing (λ e. c.if-mark-eq-HELD.false (sym b.2 ∙ e)) p.1 in (
      omega (arith, r.0, p.0, p.1, ranges-few 0 c.args.marks.now),
      omega (arith, rising _ _ _ y (2 * l.k) (2 * c.args.count) (omega (arith, r.0)), p.2, l.invariant.placing.long),
      λ j. omega (arith, rising _ _ _ y (2 * l.k + 1) (2 * c.args.count) (omega (arith, r.1 j)), p.2, l.invariant.placing.long),
      r.2,
    )

pub loop-i-preserved : goal.loop-i-preserved
loop-i-preserved g c =
    let l = c.loop-i in
    let x = c.put_index-k in
    let s = c.in-Some.ensures.steps in
    let b = back _ _ _ _ l.invariant.left s.1.0 in
    let i : c.in-Some.i ≡ length l.i-iterator.iter.iter.rest.now - 1 = omega (arith, s.1.1, l.invariant.from, b.1) in
    record {
      left = b.3;
      from = s.0 ∙ l.invariant.from;
      placing = rw b.1
          (place-turn _ _ _ _ c.requires.laid _ _ _ _ l.k l.joined _ b.0 l.invariant.placing (λ e. c.if-mark-eq-HELD.false (sym b.2 ∙ e)) _ x.result x.ensures.kept (rw i at x.ensures.before));
    }

pub returns-clause-kept : goal.returns-clause-kept
returns-clause-kept g c = c.loop-i.invariant.placing.long

pub returns-clause-after : goal.returns-clause-after
returns-clause-after g c =
    let l = c.loop-i in
    place_end _ _ _ _ _ _ l.k l.joined _ (omega (arith, c.in-None.ensures.steps.1.0)) c.requires.room.1 l.invariant.placing
