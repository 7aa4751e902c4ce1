-- `sfc::give::turn::rebuild_turn` meets its contract, by the three answers of the code's call. Assumes nothing.
use Prim.Native.Nat.{◌+◌, ◌/◌, ◌≤◌, min}
use mathlib.Core.Path.{refl, sym, ap, ◌∙◌}
use native.Mathlib.Omega.{arith}
use Rattle.sfc.proofs.give.RebuildLaws.{is_done}
use Rattle.sfc.proofs.give.TurnLaws.{right_columns, left_most, turn-wrong, turn-other, turn_done_lem, turn-few, turn_shaped}
use Rattle.sfc.proofs.give.turn.rebuild_turn.Goals as goal

pub returns-then-is_columns_wrong : goal.returns-then-is_columns_wrong
returns-then-is_columns_wrong c =
    let a = c.args in
    rw c.refused.ensures (turn-wrong a.h a.store.now a.marks.now a.scratch.now a.numbers.now a.finished.0 a.budget (sym c.is_columns_wrong.ensures ∙ c.if-is_columns_wrong.true))

pub returns-then-numbers-ne-ELEMENTS : goal.returns-then-numbers-ne-ELEMENTS
returns-then-numbers-ne-ELEMENTS c =
    let a = c.args in
    rw c.refused-then-numbers-ne-ELEMENTS.ensures (turn-other a.h a.store.now a.marks.now a.scratch.now a.numbers.now a.finished.0 a.budget (sym c.is_columns_wrong.ensures ∙ c.if-is_columns_wrong.false) c.if-numbers-ne-ELEMENTS.true)

pub columns_left-left-requires : goal.columns_left-left-requires
columns_left-left-requires c =
    let a = c.args in
    let w = sym c.is_columns_wrong.ensures ∙ c.if-is_columns_wrong.false in
    let r = right_columns a.h.size a.h.n a.h.m a.h.s a.store.now a.marks.now a.scratch.now a.finished.0 w in
    (omega (arith, r.right.marks_long), r.beside.most)

pub overflow_cast-from : goal.overflow_cast-from
overflow_cast-from c =
    let a = c.args in
    let w = sym c.is_columns_wrong.ensures ∙ c.if-is_columns_wrong.false in
    let r = right_columns a.h.size a.h.n a.h.m a.h.s a.store.now a.marks.now a.scratch.now a.finished.0 w in
    record { fits = omega (arith, r.beside.most, r.right.shape.s_most) }

pub overflow_add-result : goal.overflow_add-result
overflow_add-result c =
    let a = c.args in
    let w = sym c.is_columns_wrong.ensures ∙ c.if-is_columns_wrong.false in
    let r = right_columns a.h.size a.h.n a.h.m a.h.s a.store.now a.marks.now a.scratch.now a.finished.0 w in
    let fits : a.finished.0 + c.least-count.result ≤ a.h.s / 2 = omega (arith, r.beside.most, c.least-count.ensures.2, c.columns_left-left.ensures, left_most a.h.n a.h.s a.marks.now a.finished.0) in
    record { fits = omega (arith, fits, r.right.shape.s_most) }

pub returns-in-Ok : goal.returns-in-Ok
returns-in-Ok c =
    let a = c.args in
    let w = sym c.is_columns_wrong.ensures ∙ c.if-is_columns_wrong.false in
    let r = right_columns a.h.size a.h.n a.h.m a.h.s a.store.now a.marks.now a.scratch.now a.finished.0 w in
    let fits : a.finished.0 + c.least-count.result ≤ a.h.s / 2 = omega (arith, r.beside.most, c.least-count.ensures.2, c.columns_left-left.ensures, left_most a.h.n a.h.s a.marks.now a.finished.0) in
    turn_done_lem a.h a.store.now a.marks.now a.scratch.now a.numbers.now a.finished.0 a.budget w c.if-numbers-ne-ELEMENTS.false _ c.least-count.result fits (c.least-count.ensures.0 ∙ ap (min a.budget) c.columns_left-left.ensures) c.rebuild.ensures c.in-Ok.is

pub returns-in-Err-TooFew : goal.returns-in-Err-TooFew
returns-in-Err-TooFew c =
    let a = c.args in
    let w = sym c.is_columns_wrong.ensures ∙ c.if-is_columns_wrong.false in
    let r = right_columns a.h.size a.h.n a.h.m a.h.s a.store.now a.marks.now a.scratch.now a.finished.0 w in
    let fits : a.finished.0 + c.least-count.result ≤ a.h.s / 2 = omega (arith, r.beside.most, c.least-count.ensures.2, c.columns_left-left.ensures, left_most a.h.n a.h.s a.marks.now a.finished.0) in
    rw c.refused-in-Err-TooFew.ensures (turn-few a.h a.store.now a.marks.now a.scratch.now a.numbers.now a.finished.0 a.budget w c.if-numbers-ne-ELEMENTS.false _ c.least-count.result fits (c.least-count.ensures.0 ∙ ap (min a.budget) c.columns_left-left.ensures) c.rebuild.ensures (ap is_done c.in-Err-TooFew.is))

pub returns-in-Err-BadShape : goal.returns-in-Err-BadShape
returns-in-Err-BadShape c =
    let a = c.args in
    let w = sym c.is_columns_wrong.ensures ∙ c.if-is_columns_wrong.false in
    let r = right_columns a.h.size a.h.n a.h.m a.h.s a.store.now a.marks.now a.scratch.now a.finished.0 w in
    let fits : a.finished.0 + c.least-count.result ≤ a.h.s / 2 = omega (arith, r.beside.most, c.least-count.ensures.2, c.columns_left-left.ensures, left_most a.h.n a.h.s a.marks.now a.finished.0) in
    absurd (turn_shaped a.h a.store.now a.marks.now a.scratch.now a.numbers.now a.finished.0 a.budget w c.if-numbers-ne-ELEMENTS.false _ c.least-count.result fits (c.least-count.ensures.0 ∙ ap (min a.budget) c.columns_left-left.ensures) (rw c.in-Err-BadShape.field-0-is at c.in-Err-BadShape.ensures) refl)
