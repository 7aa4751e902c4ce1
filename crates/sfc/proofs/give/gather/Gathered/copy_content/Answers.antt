-- `sfc::give::gather::Gathered::copy_content` meets its contract. The loop's invariant: what is still to be copied, put into the output,
-- gives the promised one. Assumes nothing.
use Prim.Native.Nat.{◌+◌, ◌-◌, ◌*◌, ◌≤◌}
use mathlib.Core.Path.{sym, ◌∙◌, ap}
use native.Mathlib.Omega.{arith}
use lib.ListN.{length}
use Rattle.little.specs.Parts.{part}
use Rattle.little.proofs.Laws.{test_laws, part_laws}
use Rattle.sfc.proofs.give.GatherLaws.{copying_start, copying_next, copying_end, block_small, before-end, count_most, in_store, in_cut, held-part, in_scratch, lost-part, held_long, lost_long, rank-held, rank-lost}
use Rattle.sfc.proofs.give.gather.Gathered.copy_content.Goals as goal
use Rattle.sfc.proofs.give.gather.Gathered.copy_content.Goals.{then-marks-j-eq-HELD, else-marks-j-eq-HELD}

pub loop-j-init : goal.loop-j-init
loop-j-init c =
    let a = c.args in
    let g = a.self.now in
    let p = c.requires in
    copying_start g.size g.n g.s g.marks.now g.store.now g.scratch.now a.out.now

pub overflow_mul-at : goal.overflow_mul-at
overflow_mul-at c =
    let a = c.args in
    let g = a.self.now in
    let p = c.requires in
    let l = c.loop-j in
    record { fits = omega (arith, block_small g.size g.n g.s p.0.0 l.j c.loop-j-test.true) }

pub overflow_sub-size : goal.overflow_sub-size
overflow_sub-size c =
    let a = c.args in
    let g = a.self.now in
    let p = c.requires in
    let l = c.loop-j in
    before-end g.size g.n g.s p.0.0 l.j c.loop-j-test.true

pub overflow_add-to : goal.overflow_add-to
overflow_add-to c =
    let a = c.args in
    let g = a.self.now in
    let p = c.requires in
    let l = c.loop-j in
    record { fits = omega (arith, block_small g.size g.n g.s p.0.0 l.j c.loop-j-test.true, count_most g.size g.n g.s g.marks.now g.store.now g.scratch.now p.0 l.j c.loop-j-test.true c.least-count.result (test_laws.either_least c.least-count.ensures)) }

pub bounds-marks-j : goal.bounds-marks-j
bounds-marks-j c =
    let a = c.args in
    let g = a.self.now in
    let p = c.requires in
    let l = c.loop-j in
    omega (arith, p.0.1.marks_long, c.loop-j-test.true)

pub slice_bounds-copy_from_slice-end-then-marks-j-eq-HELD : goal.slice_bounds-copy_from_slice-end-then-marks-j-eq-HELD
slice_bounds-copy_from_slice-end-then-marks-j-eq-HELD c =
    let a = c.args in
    let g = a.self.now in
    let p = c.requires in
    let l = c.loop-j in
    in_store g.size g.n g.s g.marks.now g.store.now g.scratch.now p.0 l.j c.loop-j-test.true c.least-count.result (test_laws.either_least c.least-count.ensures)

pub slice_bounds-copy_from_slice-end : goal.slice_bounds-copy_from_slice-end
slice_bounds-copy_from_slice-end c =
    let a = c.args in
    let g = a.self.now in
    let p = c.requires in
    let l = c.loop-j in
    omega (arith, l.invariant.long, p.1, in_cut g.size g.n g.s g.marks.now g.store.now g.scratch.now p.0 l.j c.loop-j-test.true c.least-count.result (test_laws.either_least c.least-count.ensures))

pub copy_from_slice-requires : goal.copy_from_slice-requires
copy_from_slice-requires c =
    let a = c.args in
    let g = a.self.now in
    let p = c.requires in
    let l = c.loop-j in
    omega (arith, held_long g.size g.n g.s g.marks.now g.store.now g.scratch.now p.0 l.j c.loop-j-test.true c.least-count.result (test_laws.either_least c.least-count.ensures), part_laws.cut_long l.out (l.j * g.s) c.least-count.result (omega (arith, l.invariant.long, p.1, in_cut g.size g.n g.s g.marks.now g.store.now g.scratch.now p.0 l.j c.loop-j-test.true c.least-count.result (test_laws.either_least c.least-count.ensures))))

pub overflow_mul-from : goal.overflow_mul-from
overflow_mul-from c =
    let a = c.args in
    let g = a.self.now in
    let p = c.requires in
    let l = c.loop-j in
    record { fits = omega (arith, in_scratch g.size g.n g.s g.marks.now g.store.now g.scratch.now p.0 l.j c.loop-j-test.true c.least-count.result (test_laws.either_least c.least-count.ensures) c.if-marks-j-eq-HELD.false l.row l.invariant.row_is) }

pub overflow_add-end : goal.overflow_add-end
overflow_add-end c =
    let a = c.args in
    let g = a.self.now in
    let p = c.requires in
    let l = c.loop-j in
    record { fits = omega (arith, in_scratch g.size g.n g.s g.marks.now g.store.now g.scratch.now p.0 l.j c.loop-j-test.true c.least-count.result (test_laws.either_least c.least-count.ensures) c.if-marks-j-eq-HELD.false l.row l.invariant.row_is) }

pub slice_bounds-copy_from_slice-end-else-marks-j-eq-HELD-2 : goal.slice_bounds-copy_from_slice-end-else-marks-j-eq-HELD-2
slice_bounds-copy_from_slice-end-else-marks-j-eq-HELD-2 c =
    let a = c.args in
    let g = a.self.now in
    let p = c.requires in
    let l = c.loop-j in
    in_scratch g.size g.n g.s g.marks.now g.store.now g.scratch.now p.0 l.j c.loop-j-test.true c.least-count.result (test_laws.either_least c.least-count.ensures) c.if-marks-j-eq-HELD.false l.row l.invariant.row_is

pub slice_bounds-copy_from_slice-end-else-marks-j-eq-HELD : goal.slice_bounds-copy_from_slice-end-else-marks-j-eq-HELD
slice_bounds-copy_from_slice-end-else-marks-j-eq-HELD c =
    let a = c.args in
    let g = a.self.now in
    let p = c.requires in
    let l = c.loop-j in
    omega (arith, l.invariant.long, p.1, in_cut g.size g.n g.s g.marks.now g.store.now g.scratch.now p.0 l.j c.loop-j-test.true c.least-count.result (test_laws.either_least c.least-count.ensures))

pub copy_from_slice-requires-else-marks-j-eq-HELD : goal.copy_from_slice-requires-else-marks-j-eq-HELD
copy_from_slice-requires-else-marks-j-eq-HELD c =
    let a = c.args in
    let g = a.self.now in
    let p = c.requires in
    let l = c.loop-j in
    omega (arith, lost_long g.size g.n g.s g.marks.now g.store.now g.scratch.now p.0 l.j c.loop-j-test.true c.least-count.result (test_laws.either_least c.least-count.ensures) c.if-marks-j-eq-HELD.false l.row l.invariant.row_is, part_laws.cut_long l.out (l.j * g.s) c.least-count.result (omega (arith, l.invariant.long, p.1, in_cut g.size g.n g.s g.marks.now g.store.now g.scratch.now p.0 l.j c.loop-j-test.true c.least-count.result (test_laws.either_least c.least-count.ensures))))

pub loop-j-preserved : goal.loop-j-preserved
loop-j-preserved c =
    let a = c.args in
    let g = a.self.now in
    let p = c.requires in
    let l = c.loop-j in
    let fits : l.j * g.s + c.least-count.result ≤ length l.out = omega (arith, l.invariant.long, p.1, in_cut g.size g.n g.s g.marks.now g.store.now g.scratch.now p.0 l.j c.loop-j-test.true c.least-count.result (test_laws.either_least c.least-count.ensures)) in
    elim c.if-marks-j-eq-HELD.branch [
      | then-marks-j-eq-HELD w ↦
          copying_next g.size g.n g.s g.marks.now g.store.now g.scratch.now p.0 l.j c.loop-j-test.true c.least-count.result (test_laws.either_least c.least-count.ensures) a.out.now l.out l.row fits l.invariant (part g.store.now (l.j * g.s) (l.j * g.s + c.least-count.result - l.j * g.s)) (held_long g.size g.n g.s g.marks.now g.store.now g.scratch.now p.0 l.j c.loop-j-test.true c.least-count.result (test_laws.either_least c.least-count.ensures)) (held-part g.size g.n g.s g.marks.now g.store.now g.scratch.now p.0 l.j c.loop-j-test.true c.least-count.result (test_laws.either_least c.least-count.ensures) w.if-marks-j-eq-HELD.true) _ _ w.out-is w.copy_from_slice.ensures.after _
          (w.row-is ∙ l.invariant.row_is ∙ sym (rank-held g.marks.now l.j w.if-marks-j-eq-HELD.true)) (omega (arith, w.row-is, l.invariant.low))
      | else-marks-j-eq-HELD w ↦
          copying_next g.size g.n g.s g.marks.now g.store.now g.scratch.now p.0 l.j c.loop-j-test.true c.least-count.result (test_laws.either_least c.least-count.ensures) a.out.now l.out l.row fits l.invariant (part g.scratch.now (l.row * g.s) (l.row * g.s + c.least-count.result - l.row * g.s)) (lost_long g.size g.n g.s g.marks.now g.store.now g.scratch.now p.0 l.j c.loop-j-test.true c.least-count.result (test_laws.either_least c.least-count.ensures) w.if-marks-j-eq-HELD.false l.row l.invariant.row_is) (lost-part g.size g.n g.s g.marks.now g.store.now g.scratch.now p.0 l.j c.loop-j-test.true c.least-count.result (test_laws.either_least c.least-count.ensures) w.if-marks-j-eq-HELD.false l.row l.invariant.row_is) _ _ w.out-is w.copy_from_slice-else-marks-j-eq-HELD.ensures.after _
          (w.row-is ∙ ap (λ r. r + 1) l.invariant.row_is ∙ sym (rank-lost g.marks.now l.j (omega (arith, p.0.1.marks_long, c.loop-j-test.true)) w.if-marks-j-eq-HELD.false)) (omega (arith, w.row-is, l.invariant.low))
    ]

pub shape_of-out : goal.shape_of-out
shape_of-out c =
    c.loop-j.invariant.long

pub returns : goal.returns
returns c =
    let a = c.args in
    let g = a.self.now in
    let p = c.requires in
    let l = c.loop-j in
    copying_end g.size g.n g.s g.marks.now g.store.now g.scratch.now a.out.now l.out l.row l.j (omega (arith, c.loop-j-test.false)) l.invariant
