-- `find_unknown` meets its contract. Assumes nothing.
use mathlib.Core.Path.{◌∙◌}
use native.Mathlib.Nat.{add-sub_cancel_left}
use native.Mathlib.Omega.{arith}
use lib.ListN.{length}
use Rattle.cauchy.proofs.ranges.RangeLaws.{room_of}
use Rattle.cauchy.proofs.solver.StepLaws.{found_start, found_turn, found_end}
use Rattle.cauchy.proofs.solver.System.find_unknown.Goals as goal

pub loop-k-init : goal.loop-k-init
loop-k-init c =
    let a = c.args in
    let q = a.self.now in
    let g = q.range in
    let r = room_of g (length q.xs.now) (length a.one.now) (length a.b.now) q.few c.requires.1 c.requires.2 in
    (omega arith, λ cs base whole here. found_start g.s g.first g.count _ _ q.xs.now q.ys.now r q.row_words q.column_words q.square a.t c.requires.0 cs base whole (length a.one.now) a.b.now _ here c.clear.ensures r.whole)

pub loop-k-preserved : goal.loop-k-preserved
loop-k-preserved c =
    let a = c.args in
    let q = a.self.now in
    let g = q.range in
    let r = room_of g (length q.xs.now) (length a.one.now) (length a.b.now) q.few c.requires.1 c.requires.2 in
    let l = c.loop-k in
    let at = c.place-at.result in
    let w = add-sub_cancel_left at c.width.result ∙ c.width.ensures in (
      omega arith,
      λ cs base whole here. found_turn g.s g.first g.count _ _ q.xs.now q.ys.now r q.row_words q.column_words q.square a.t c.requires.0 cs base whole l.k at _ l.one l.b (omega arith) w
          (l.invariant.1 cs base whole here) (omega arith) c.place-at.ensures.0 _ _ c.put_back.ensures.0 c.put_back.ensures.1,
    )

pub returns : goal.returns
returns c cs base whole here =
    let a = c.args in
    let q = a.self.now in
    let g = q.range in
    let r = room_of g (length q.xs.now) (length a.one.now) (length a.b.now) q.few c.requires.1 c.requires.2 in
    let l = c.loop-k in
    let at = c.place-from.result in
    let w = add-sub_cancel_left at c.width-2.result ∙ c.width-2.ensures in
    found_end g.s g.first g.count _ _ q.xs.now q.ys.now r q.row_words q.column_words q.square a.t c.requires.0 cs base whole l.k at _ l.one l.b (omega arith) w
    (l.invariant.1 cs base whole here) (omega arith) c.place-from.ensures.0 _ c.sum_times.ensures
