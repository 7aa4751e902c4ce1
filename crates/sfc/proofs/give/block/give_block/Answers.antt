-- `sfc::give::block::give_block` meets its contract, by its three answers. Assumes nothing.
use borrow.Author.Tests.{not-true, not-false}
use Prim.Native.Nat.{ℕ, ◌-◌}
use mathlib.Core.List.{List, ◌++◌}
use mathlib.Core.Path.{refl, sym, ◌∙◌, ap}
use lib.ListN.{drop}
use native.Mathlib.Omega.{arith}
use lib.Seq.{length-take-le}
use Rattle.sfc.proofs.give.BlockLaws.{held_in, held-given, lost_in, lost-given, had_lost, rank-rest}
use Rattle.sfc.proofs.give.block.give_block.Goals as goal

pub bounds-marks-i : goal.bounds-marks-i
bounds-marks-i c = omega (arith, c.requires.0.marks_long, c.requires.1)

pub overflow_mul-at : goal.overflow_mul-at
overflow_mul-at c = record { fits = omega (arith, (held_in c.args.h.now.n c.args.h.now.m c.args.h.now.s c.args.store.now c.args.marks.now c.args.scratch.now c.args.numbers.now c.requires.0 c.args.j c.requires.1).1) }

pub overflow_add-end : goal.overflow_add-end
overflow_add-end c = record { fits = omega (arith, (held_in c.args.h.now.n c.args.h.now.m c.args.h.now.s c.args.store.now c.args.marks.now c.args.scratch.now c.args.numbers.now c.requires.0 c.args.j c.requires.1).1) }

pub returns-then-marks-i-eq-HELD : goal.returns-then-marks-i-eq-HELD
returns-then-marks-i-eq-HELD c = let q = held-given c.args.h.now.n c.args.h.now.m c.args.h.now.s c.args.store.now c.args.marks.now c.args.scratch.now c.args.numbers.now c.requires.0 c.args.j c.requires.1 c.args.out.now _ c.requires.2 c.if-marks-i-eq-HELD.true (ap (λ (u : List ℕ). u ++ drop c.args.h.now.s c.args.out.now) c.copy_from_slice.ensures.after) in (q.0, q.1, (refl, refl))

pub rebuild_missing-requires : goal.rebuild_missing-requires
rebuild_missing-requires c = c.requires.0

pub returns-then-not-rebuild_missing : goal.returns-then-not-rebuild_missing
returns-then-not-rebuild_missing c =
    (had_lost c.args.marks.now c.args.h.now.n c.args.j _ c.if-marks-i-eq-HELD.false (sym (not-true _ c.if-not-rebuild_missing.true-raw) ∙ c.rebuild_missing.ensures.0), refl, c.rebuild_missing.ensures.2)

pub slice_bounds-held_count-end : goal.slice_bounds-held_count-end
slice_bounds-held_count-end c = sym (length-take-le c.args.j c.args.marks.now (omega (arith, c.requires.0.marks_long, c.requires.1)))

pub overflow_sub-row : goal.overflow_sub-row
overflow_sub-row c = omega (arith, c.held_count.ensures, (rank-rest c.args.marks.now c.args.j (omega (arith, c.requires.0.marks_long, c.requires.1))).0)

pub overflow_mul-at-2 : goal.overflow_mul-at-2
overflow_mul-at-2 c = record { fits = omega (arith, lost_in c.args.h.now.n c.args.h.now.m c.args.h.now.s c.args.store.now c.args.marks.now c.args.scratch.now c.args.numbers.now c.requires.0 c.args.j c.requires.1 _ (c.rebuild_missing.ensures.1 (not-false _ c.if-not-rebuild_missing.false-raw)) c.if-marks-i-eq-HELD.false (c.args.j - c.held_count.result) (ap (λ (k : ℕ). c.args.j - k) c.held_count.ensures ∙ (rank-rest c.args.marks.now c.args.j (omega (arith, c.requires.0.marks_long, c.requires.1))).1)) }

pub overflow_add-end-2 : goal.overflow_add-end-2
overflow_add-end-2 c = record { fits = omega (arith, lost_in c.args.h.now.n c.args.h.now.m c.args.h.now.s c.args.store.now c.args.marks.now c.args.scratch.now c.args.numbers.now c.requires.0 c.args.j c.requires.1 _ (c.rebuild_missing.ensures.1 (not-false _ c.if-not-rebuild_missing.false-raw)) c.if-marks-i-eq-HELD.false (c.args.j - c.held_count.result) (ap (λ (k : ℕ). c.args.j - k) c.held_count.ensures ∙ (rank-rest c.args.marks.now c.args.j (omega (arith, c.requires.0.marks_long, c.requires.1))).1)) }

pub slice_bounds-copy_from_slice-end-4 : goal.slice_bounds-copy_from_slice-end-4
slice_bounds-copy_from_slice-end-4 c = lost_in c.args.h.now.n c.args.h.now.m c.args.h.now.s c.args.store.now c.args.marks.now c.args.scratch.now c.args.numbers.now c.requires.0 c.args.j c.requires.1 _ (c.rebuild_missing.ensures.1 (not-false _ c.if-not-rebuild_missing.false-raw)) c.if-marks-i-eq-HELD.false (c.args.j - c.held_count.result) (ap (λ (k : ℕ). c.args.j - k) c.held_count.ensures ∙ (rank-rest c.args.marks.now c.args.j (omega (arith, c.requires.0.marks_long, c.requires.1))).1)

pub returns : goal.returns
returns c = (
  had_lost c.args.marks.now c.args.h.now.n c.args.j _ c.if-marks-i-eq-HELD.false (sym (not-false _ c.if-not-rebuild_missing.false-raw) ∙ c.rebuild_missing.ensures.0),
  lost-given c.args.h.now.n c.args.h.now.m c.args.h.now.s c.args.store.now c.args.marks.now c.args.scratch.now c.args.numbers.now c.requires.0 c.args.j c.requires.1 _ (c.rebuild_missing.ensures.1 (not-false _ c.if-not-rebuild_missing.false-raw)) c.if-marks-i-eq-HELD.false (c.args.j - c.held_count.result) (ap (λ (k : ℕ). c.args.j - k) c.held_count.ensures ∙ (rank-rest c.args.marks.now c.args.j (omega (arith, c.requires.0.marks_long, c.requires.1))).1) c.args.out.now _ c.requires.2 (ap (λ (u : List ℕ). u ++ drop c.args.h.now.s c.args.out.now) c.copy_from_slice-2.ensures.after),
  c.rebuild_missing.ensures.2,
)
