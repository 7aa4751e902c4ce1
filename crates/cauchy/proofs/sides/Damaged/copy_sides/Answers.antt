-- `copy_sides` meets its contract. Assumes nothing.
use mathlib.Core.Path.{refl, ◌∙◌}
use Prim.Native.Nat.{◌+◌, ◌*◌, ◌≤◌, ◌<◌}
use native.Mathlib.Nat.{add-sub_cancel_left}
use native.Mathlib.Omega.{arith}
use lib.ListN.{length, get_or}
use Rattle.little.proofs.Laws.{block_laws}
use Rattle.cauchy.proofs.sides.SideLaws.{room_in, sided_start, sided_copied, sided_end}
use Rattle.cauchy.proofs.sides.Damaged.copy_sides.Goals as goal

pub loop-i-init : goal.loop-i-init
loop-i-init c marks none =
    let a = c.args in
    let d = a.self.now in
    let r = room_in d _ _ refl c.requires in
    sided_start d.code.n d.code.m d.code.s d.range.first d.range.count d.e _ _ marks d.rows.now d.store.now a.scratch.now r

pub loop-i-preserved : goal.loop-i-preserved
loop-i-preserved c marks none =
    let a = c.args in
    let d = a.self.now in
    let l = c.loop-i in
    let r = room_in d _ _ refl c.requires in
    let at = c.place-at.result in
    let w = add-sub_cancel_left at c.width.result ∙ c.width.ensures in
    let k : d.code.n + get_or d.rows.now l.i 0 < d.code.n + d.code.m = omega (arith, d.rows_below l.i c.loop-i-test.true) in
    let hs : (d.code.n + get_or d.rows.now l.i 0) * d.code.s + 2 * d.range.first + 2 * d.range.count ≤ length d.store.now =
    omega (arith, r.words, r.even, d.store_long, block_laws.block_inside d.code.s (d.code.n + d.code.m) (d.code.n + get_or d.rows.now l.i 0) k) in
    sided_copied d.code.n d.code.m d.code.s d.range.first d.range.count d.e _ _ marks d.rows.now d.store.now a.scratch.now r l.i _ at _ _ l.scratch _
    none d.bytes c.loop-i-test.true refl refl (rw d.same at c.place-at.ensures.0) refl w hs (l.invariant marks none) (c.copy_from_slice.ensures.after ∙ c.own_words-own.ensures.words)

pub returns : goal.returns
returns c marks none =
    let a = c.args in
    let d = a.self.now in
    let l = c.loop-i in
    let r = room_in d _ _ refl c.requires in
    sided_end d.code.n d.code.m d.code.s d.range.first d.range.count d.e _ _ marks d.rows.now d.store.now a.scratch.now r l.i l.scratch (omega arith) (omega (arith, d.few, d.rows_long)) (l.invariant marks none)
