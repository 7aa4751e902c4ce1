-- `sfc::note::missing::put_unheld` meets its contract. The loop's invariant: the marks after those that are left are listed in the places from k on. Assumes nothing.
use Rattle.std.proofs.Common.{◌≡◌, ◌-◌, ◌∙◌, sym, ap, arith, length}
use Rattle.std.proofs.lemmas.List.{take_all}
use Rattle.sfc.proofs.note.MissingLaws.{back, list_start, list_skip, list_room, list_turn, list_end}
use Rattle.sfc.proofs.note.missing.put_unheld.Goals as goal

pub loop-i-init : goal.loop-i-init
loop-i-init c =
    let marks = c.args.marks.now in
    let it = c.into_iter-i-iterator.ensures.into_iter_gives in
    let same : c.into_iter-i-iterator.result.iter.iter.rest.now ≡ marks =
    ap (λ s. s.iter.iter.rest.now) it ∙ ap (λ s. s.iter.rest.now) c.rev-i-items.ensures.source ∙ ap (λ s. s.rest.now) c.enumerate.ensures.source ∙ c.iter.ensures.rest in
    record {
      left = rw same (sym (take_all (length marks) marks (omega arith)));
      from = ap (λ s. s.iter.count) it ∙ ap (λ s. s.count) c.rev-i-items.ensures.source ∙ c.enumerate.ensures.count;
      listing = rw same (list_start _ _ _);
    }

pub overflow_sub-k : goal.overflow_sub-k
overflow_sub-k c =
    let l = c.loop-i in
    let s = c.in-Some.ensures.steps in
    let b = back _ _ _ _ l.invariant.left s.1.0 in
    list_room _ _ _ l.out l.k _ b.0 l.invariant.listing (λ e. c.if-mark-ne-HELD.true (sym b.2 ∙ e)) c.requires.1

pub bounds-out-k : goal.bounds-out-k
bounds-out-k c =
    let l = c.loop-i in
    let s = c.in-Some.ensures.steps in
    let b = back _ _ _ _ l.invariant.left s.1.0 in
    let p = list_room _ _ _ l.out l.k _ b.0 l.invariant.listing (λ e. c.if-mark-ne-HELD.true (sym b.2 ∙ e)) c.requires.1 in
    omega (arith, p, l.invariant.listing.placed, l.invariant.listing.long, c.requires.2)

pub loop-i-preserved-then-mark-ne-HELD : goal.loop-i-preserved-then-mark-ne-HELD
loop-i-preserved-then-mark-ne-HELD c =
    let l = c.loop-i in
    let s = c.in-Some.ensures.steps in
    let b = back _ _ _ _ l.invariant.left s.1.0 in
    let i : c.in-Some.i ≡ length l.i-iterator.iter.iter.rest.now - 1 = omega (arith, s.1.1, l.invariant.from, b.1) in
    record {
      left = b.3;
      from = s.0 ∙ l.invariant.from;
      listing = rw (i, b.1) (list_turn _ _ _ l.out l.k _ b.0 l.invariant.listing (λ e. c.if-mark-ne-HELD.true (sym b.2 ∙ e)) c.requires.1 c.requires.2);
    }

pub loop-i-preserved : goal.loop-i-preserved
loop-i-preserved c =
    let l = c.loop-i in
    let s = c.in-Some.ensures.steps in
    let b = back _ _ _ _ l.invariant.left s.1.0 in
    record {
      left = b.3;
      from = s.0 ∙ l.invariant.from;
      listing = rw b.1 (list_skip _ _ _ l.out l.k _ b.0 l.invariant.listing (b.2 ∙ c.if-mark-ne-HELD.false));
    }

pub shape_of-out : goal.shape_of-out
shape_of-out c = c.loop-i.invariant.listing.long

pub returns : goal.returns
returns c =
    let l = c.loop-i in
    list_end _ _ _ l.out l.k _ (omega (arith, c.in-None.ensures.steps.1.0)) c.requires.1 l.invariant.listing
