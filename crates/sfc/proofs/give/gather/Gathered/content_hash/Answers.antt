-- `sfc::give::gather::Gathered::content_hash` meets its contract. The loop's invariant: what is fed, and what is still to be fed, make up
-- the content. Assumes nothing.
use Prim.Native.Nat.{◌+◌, ◌-◌, ◌*◌}
use mathlib.Core.Path.{sym, refl, ◌∙◌, ap}
use native.Mathlib.Omega.{arith}
use Rattle.blake3.specs.Running.{with_bytes}
use Rattle.little.proofs.Laws.{test_laws}
use Rattle.sfc.proofs.give.GatherLaws.{feeding_start, feeding_next, feeding_end, block_small, before-end, count_most, next_from, block_in_store, held-part, in_scratch, lost-part, few_enough, cut_most, rank-held, rank-lost}
use Rattle.sfc.proofs.give.gather.Gathered.content_hash.Goals as goal
use Rattle.sfc.proofs.give.gather.Gathered.content_hash.Goals.{then-marks-j-eq-HELD, else-marks-j-eq-HELD}

pub loop-j-init : goal.loop-j-init
loop-j-init c =
    let a = c.args in
    let g = a.self.now in
    let p = c.requires in
    feeding_start g.size g.n g.s g.marks.now g.store.now g.scratch.now c.new-state.result c.new-state.ensures

pub overflow_mul-at : goal.overflow_mul-at
overflow_mul-at c =
    let a = c.args in
    let g = a.self.now in
    let p = c.requires in
    let l = c.loop-j in
    record { fits = omega (arith, block_small g.size g.n g.s p.0 l.j c.loop-j-test.true) }

pub overflow_sub-size : goal.overflow_sub-size
overflow_sub-size c =
    let a = c.args in
    let g = a.self.now in
    let p = c.requires in
    let l = c.loop-j in
    before-end g.size g.n g.s p.0 l.j c.loop-j-test.true

pub bounds-marks-j : goal.bounds-marks-j
bounds-marks-j c =
    let a = c.args in
    let g = a.self.now in
    let p = c.requires in
    let l = c.loop-j in
    omega (arith, p.1.marks_long, c.loop-j-test.true)

pub overflow_add-end : goal.overflow_add-end
overflow_add-end c =
    let a = c.args in
    let g = a.self.now in
    let p = c.requires in
    let l = c.loop-j in
    record { fits = omega (arith, block_small g.size g.n g.s p.0 l.j c.loop-j-test.true, count_most g.size g.n g.s g.marks.now g.store.now g.scratch.now p l.j c.loop-j-test.true c.least-count.result (test_laws.either_least c.least-count.ensures)) }

pub slice_bounds-with_part-end : goal.slice_bounds-with_part-end
slice_bounds-with_part-end c =
    let a = c.args in
    let g = a.self.now in
    let p = c.requires in
    let l = c.loop-j in
    omega (arith, block_in_store g.size g.n g.s g.marks.now g.store.now g.scratch.now p l.j c.loop-j-test.true c.least-count.result (test_laws.either_least c.least-count.ensures), count_most g.size g.n g.s g.marks.now g.store.now g.scratch.now p l.j c.loop-j-test.true c.least-count.result (test_laws.either_least c.least-count.ensures))

pub with_part-state-requires : goal.with_part-state-requires
with_part-state-requires c =
    let a = c.args in
    let g = a.self.now in
    let p = c.requires in
    let l = c.loop-j in
    few_enough g.store.now (l.j * g.s) (l.j * g.s + c.least-count.result - l.j * g.s) l.state.fed _ (omega (arith, l.invariant.few, block_small g.size g.n g.s p.0 l.j c.loop-j-test.true, count_most g.size g.n g.s g.marks.now g.store.now g.scratch.now p l.j c.loop-j-test.true c.least-count.result (test_laws.either_least c.least-count.ensures)))

pub overflow_mul-from : goal.overflow_mul-from
overflow_mul-from c =
    let a = c.args in
    let g = a.self.now in
    let p = c.requires in
    let l = c.loop-j in
    record { fits = omega (arith, in_scratch g.size g.n g.s g.marks.now g.store.now g.scratch.now p l.j c.loop-j-test.true c.least-count.result (test_laws.either_least c.least-count.ensures) c.if-marks-j-eq-HELD.false l.row l.invariant.row_is) }

pub overflow_add-end-else-marks-j-eq-HELD : goal.overflow_add-end-else-marks-j-eq-HELD
overflow_add-end-else-marks-j-eq-HELD c =
    let a = c.args in
    let g = a.self.now in
    let p = c.requires in
    let l = c.loop-j in
    record { fits = omega (arith, in_scratch g.size g.n g.s g.marks.now g.store.now g.scratch.now p l.j c.loop-j-test.true c.least-count.result (test_laws.either_least c.least-count.ensures) c.if-marks-j-eq-HELD.false l.row l.invariant.row_is) }

pub slice_bounds-with_part-end-else-marks-j-eq-HELD : goal.slice_bounds-with_part-end-else-marks-j-eq-HELD
slice_bounds-with_part-end-else-marks-j-eq-HELD c =
    let a = c.args in
    let g = a.self.now in
    let p = c.requires in
    let l = c.loop-j in
    in_scratch g.size g.n g.s g.marks.now g.store.now g.scratch.now p l.j c.loop-j-test.true c.least-count.result (test_laws.either_least c.least-count.ensures) c.if-marks-j-eq-HELD.false l.row l.invariant.row_is

pub with_part-state-requires-else-marks-j-eq-HELD : goal.with_part-state-requires-else-marks-j-eq-HELD
with_part-state-requires-else-marks-j-eq-HELD c =
    let a = c.args in
    let g = a.self.now in
    let p = c.requires in
    let l = c.loop-j in
    few_enough g.scratch.now (l.row * g.s) (l.row * g.s + c.least-count.result - l.row * g.s) l.state.fed _ (omega (arith, l.invariant.few, block_small g.size g.n g.s p.0 l.j c.loop-j-test.true, count_most g.size g.n g.s g.marks.now g.store.now g.scratch.now p l.j c.loop-j-test.true c.least-count.result (test_laws.either_least c.least-count.ensures)))

pub loop-j-preserved : goal.loop-j-preserved
loop-j-preserved c =
    let a = c.args in
    let g = a.self.now in
    let p = c.requires in
    let l = c.loop-j in
    elim c.if-marks-j-eq-HELD.branch [
      | then-marks-j-eq-HELD w ↦
          rw (w.state-is ∙ w.with_part-state.ensures ∙ ap (with_bytes l.state) (held-part g.size g.n g.s g.marks.now g.store.now g.scratch.now p l.j c.loop-j-test.true c.least-count.result (test_laws.either_least c.least-count.ensures) w.if-marks-j-eq-HELD.true))
          (feeding_next g.size g.n g.s g.marks.now g.store.now g.scratch.now l.state l.row l.j _ (cut_most g.size g.n g.s g.marks.now g.store.now g.scratch.now p l.j c.loop-j-test.true c.least-count.result (test_laws.either_least c.least-count.ensures)) c.loop-j-test.true (next_from g.size g.n g.s g.marks.now g.store.now g.scratch.now p l.j c.loop-j-test.true c.least-count.result (test_laws.either_least c.least-count.ensures)) l.invariant _
          (w.row-is ∙ l.invariant.row_is ∙ sym (rank-held g.marks.now l.j w.if-marks-j-eq-HELD.true)) (omega (arith, w.row-is, l.invariant.low)))
      | else-marks-j-eq-HELD w ↦
          rw (w.state-is ∙ w.with_part-state-else-marks-j-eq-HELD.ensures ∙ ap (with_bytes l.state) (lost-part g.size g.n g.s g.marks.now g.store.now g.scratch.now p l.j c.loop-j-test.true c.least-count.result (test_laws.either_least c.least-count.ensures) w.if-marks-j-eq-HELD.false l.row l.invariant.row_is))
          (feeding_next g.size g.n g.s g.marks.now g.store.now g.scratch.now l.state l.row l.j _ (cut_most g.size g.n g.s g.marks.now g.store.now g.scratch.now p l.j c.loop-j-test.true c.least-count.result (test_laws.either_least c.least-count.ensures)) c.loop-j-test.true (next_from g.size g.n g.s g.marks.now g.store.now g.scratch.now p l.j c.loop-j-test.true c.least-count.result (test_laws.either_least c.least-count.ensures)) l.invariant _
          (w.row-is ∙ ap (λ r. r + 1) l.invariant.row_is ∙ sym (rank-lost g.marks.now l.j (omega (arith, p.1.marks_long, c.loop-j-test.true)) w.if-marks-j-eq-HELD.false)) (omega (arith, w.row-is, l.invariant.low)))
    ]

pub unwrap-requires : goal.unwrap-requires
unwrap-requires c =
    let a = c.args in
    let g = a.self.now in
    let p = c.requires in
    let l = c.loop-j in
    rw (c.finish.ensures ∙ feeding_end g.size g.n g.s g.marks.now g.store.now g.scratch.now l.state l.row l.j (omega (arith, c.loop-j-test.false)) (omega (arith, p.0.most, p.0.small)) l.invariant) refl

pub returns : goal.returns
returns c =
    let a = c.args in
    let g = a.self.now in
    let p = c.requires in
    let l = c.loop-j in
    let e = feeding_end g.size g.n g.s g.marks.now g.store.now g.scratch.now l.state l.row l.j (omega (arith, c.loop-j-test.false)) (omega (arith, p.0.most, p.0.small)) l.invariant in
    let f = c.finish.ensures in
    let u = c.unwrap.ensures in
    cc
