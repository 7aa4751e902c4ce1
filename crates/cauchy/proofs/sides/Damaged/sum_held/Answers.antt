-- `sum_held` meets its contract. Assumes nothing.
use mathlib.Core.Path.{◌∙◌}
use native.Mathlib.Nat.{add-sub_cancel_left}
use native.Mathlib.Omega.{arith}
use lib.ListN.{length}
use Rattle.cauchy.proofs.sides.HeldLaws.{held_start, held-turn, held-other, held-end}
use Rattle.cauchy.proofs.sides.Damaged.sum_held.Goals as goal
use Rattle.cauchy.proofs.sides.Damaged.sum_held.Goals.{then-self-j-eq-HELD, else-self-j-eq-HELD}

pub loop-j-init : goal.loop-j-init
loop-j-init c =
    let a = c.args in
    let d = a.self.now in
    held_start d.code.m d.code.s d.range.first a.i (length a.acc.now) d.marks.now d.rows.now d.store.now _ (c.fill.ensures.after (λ y e. e))

pub loop-j-preserved : goal.loop-j-preserved
loop-j-preserved c =
    let a = c.args in
    let d = a.self.now in
    let l = c.loop-j in
    elim c.if-self-j-eq-HELD.branch [
      | then-self-j-eq-HELD w ↦
          let at = w.place-at.result in
          rw w.acc-is (held-turn d.code.m d.code.s d.range.first a.i _ l.j at _ d.marks.now d.rows.now d.store.now l.acc _ d.row_words (omega (arith, d.code.m_most, d.code.n_most))
          (rw d.same at w.place-at.ensures.0) (add-sub_cancel_left at w.width.result ∙ w.width.ensures ∙ omega (arith, c.requires.0, c.fill.ensures.len)) w.if-self-j-eq-HELD.true l.invariant w.add_listed.ensures)
      | else-self-j-eq-HELD w ↦ rw w.acc-is (held-other d.code.m d.code.s d.range.first a.i _ l.j d.marks.now d.rows.now d.store.now l.acc w.if-self-j-eq-HELD.false l.invariant)
    ]

pub returns : goal.returns
returns c =
    let a = c.args in
    let d = a.self.now in
    let l = c.loop-j in
    held-end d.code.n d.code.m d.code.s d.range.first a.i _ (length a.acc.now) l.j d.marks.now d.rows.now d.store.now l.acc (omega arith) c.fill.ensures.len l.invariant
