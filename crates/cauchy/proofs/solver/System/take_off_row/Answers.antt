-- `take_off_row` meets its contract. Assumes nothing.
use mathlib.Core.Path.{◌∙◌}
use native.Mathlib.Nat.{add-sub_cancel_left}
use native.Mathlib.Omega.{arith}
use lib.ListN.{length}
use Rattle.cauchy.proofs.ranges.RangeLaws.{room_of}
use Rattle.cauchy.proofs.solver.ColumnLaws.{read_block}
use Rattle.cauchy.proofs.solver.StepLaws.{taken_start, taken-turn, taken-end}
use Rattle.cauchy.proofs.solver.System.take_off_row.Goals as goal

pub loop-k-init : goal.loop-k-init
loop-k-init c cs base whole here _ =
    let a = c.args in
    let q = a.self.now in
    let g = q.range in
    let r = room_of g (length q.xs.now) (length a.one.now) (length a.b.now) q.few c.requires.1 c.requires.2 in
    taken_start g.s g.first g.count _ _ q.xs.now q.ys.now r q.row_words q.column_words q.square a.t c.requires.0 cs base whole a.b.now here

pub loop-k-preserved : goal.loop-k-preserved
loop-k-preserved c cs base whole here eo =
    let a = c.args in
    let q = a.self.now in
    let g = q.range in
    let r = room_of g (length q.xs.now) (length a.one.now) (length a.b.now) q.few c.requires.1 c.requires.2 in
    let l = c.loop-k in
    let at = c.place-at.result in
    let w = add-sub_cancel_left at c.width-in-loop-k.result ∙ c.width-in-loop-k.ensures in
    taken-turn g.s g.first g.count _ _ q.xs.now q.ys.now r q.row_words q.column_words q.square a.t c.requires.0 cs base whole l.k at _ _ l.b eo (omega arith) (omega arith) (omega arith)
    c.place-at.ensures.0 w (l.invariant cs base whole here eo) _ c.reduce_block.ensures

pub returns : goal.returns
returns c cs base whole here =
    let a = c.args in
    let q = a.self.now in
    let g = q.range in
    let r = room_of g (length q.xs.now) (length a.one.now) (length a.b.now) q.few c.requires.1 c.requires.2 in
    let l = c.loop-k in
    let at = c.place-from.result in
    let w = add-sub_cancel_left at c.width.result ∙ c.width.ensures in
    let eo = c.copy_from_slice.ensures.after ∙ read_block g.s g.first g.count (length q.xs.now) r.words cs base a.b.now a.t at _ here c.requires.0 r.inside c.place-from.ensures.0 w in
    taken-end g.s g.first g.count _ _ q.xs.now q.ys.now r q.row_words q.column_words q.square a.t c.requires.0 cs base whole l.k l.b (omega arith) (l.invariant cs base whole here eo)
