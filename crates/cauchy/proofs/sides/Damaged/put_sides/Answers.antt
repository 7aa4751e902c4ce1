-- `put_sides` meets its contract. Assumes nothing.
use mathlib.Core.Path.{◌≡◌, refl, ◌∙◌}
use Prim.Native.Nat.{◌+◌, ◌*◌}
use native.Mathlib.Nat.{add-sub_cancel_left}
use native.Mathlib.Omega.{arith}
use lib.ListN.{length, length-take, length-replicate}
use Rattle.little.proofs.Laws.{part_laws}
use Rattle.cauchy.proofs.ranges.RangeLaws.{range_in}
use Rattle.cauchy.proofs.sides.SideLaws.{room_in, sided_start, sided_turn, sided_end, sums_here, sums_next}
use Rattle.cauchy.proofs.sides.Damaged.put_sides.Goals as goal

pub loop-i-init : goal.loop-i-init
loop-i-init c =
    let a = c.args in
    let d = a.self.now in
    let r = room_in d _ _ refl c.requires in
    (simp (length-take, length-replicate) (omega (arith, d.range.words, d.range.s_most)), (λ h. absurd (omega arith)), sided_start d.code.n d.code.m d.code.s d.range.first d.range.count d.e _ _ d.marks.now d.rows.now d.store.now a.scratch.now r)

pub put_side-requires : goal.put_side-requires
put_side-requires c =
    let a = c.args in
    let d = a.self.now in
    let l = c.loop-i in
    let hi = c.loop-i-test.true in
    let r = room_in d _ (length a.scratch.now) refl c.requires in
    let z = c.sums_for.auto.acc in
    let at = c.place-at.result in
    let ea : at ≡ l.i * d.code.s + 2 * d.range.first = rw d.same at c.place-at.ensures.0 in
    let w = add-sub_cancel_left at c.width.result ∙ c.width.ensures in
    let u : length c.sums_for.new.acc ≡ d.range.count = omega (arith, z, l.invariant.0) in (
      omega arith,
      omega (arith, c.own_words-own.ensures.long, u),
      part_laws.length_part l.scratch at _ (omega (arith, w, ea, r.inside, range_in d.code.s d.range.first d.range.count d.e _ _ l.i r hi)) ∙ omega (arith, w, u),
    )

pub loop-i-preserved : goal.loop-i-preserved
loop-i-preserved c =
    let a = c.args in
    let d = a.self.now in
    let l = c.loop-i in
    let r = room_in d _ _ refl c.requires in
    let at = c.place-at.result in
    let w = add-sub_cancel_left at c.width.result ∙ c.width.ensures in
    let o = sums_here d.code.n d.code.m d.code.s d.range.first d.range.count d.marks.now d.rows.now d.store.now l.i l.acc _ l.invariant.0 l.invariant.1 c.sums_for.ensures in (
      c.sums_for.auto.acc ∙ l.invariant.0,
      sums_next d.code.n d.code.m d.code.s d.range.first d.range.count d.marks.now d.rows.now d.store.now l.i _ o,
      sided_turn d.code.n d.code.m d.code.s d.range.first d.range.count d.e _ _ d.marks.now d.rows.now d.store.now a.scratch.now r l.i _ at _ _ _ l.scratch _
          (omega (arith, d.code.n_most, d.code.m_most)) d.row_words c.loop-i-test.true refl refl (rw d.same at c.place-at.ensures.0) refl w o l.invariant.2 (rw c.own_words-own.ensures.words at c.put_side.ensures),
    )

pub returns : goal.returns
returns c =
    let a = c.args in
    let d = a.self.now in
    let l = c.loop-i in
    let r = room_in d _ _ refl c.requires in
    sided_end d.code.n d.code.m d.code.s d.range.first d.range.count d.e _ _ d.marks.now d.rows.now d.store.now a.scratch.now r l.i l.scratch (omega arith) (omega (arith, d.few, d.rows_long)) l.invariant.2
