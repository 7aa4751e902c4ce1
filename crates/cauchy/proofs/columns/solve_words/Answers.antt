-- `solve_words` meets its contract. Assumes nothing.
use mathlib.Core.Path.{◌≡◌, refl, sym, ◌∙◌, ap}
use Prim.Native.Nat.{ℕ}
use native.Mathlib.Omega.{arith}
use lib.ListN.{length, take}
use lib.Seq.{length-take-le}
use Rattle.cauchy.specs.Decode.{sides}
use Rattle.cauchy.specs.inner.Ranges.{columned}
use Rattle.cauchy.proofs.sides.SideLaws.{sides-columns, taken_below}
use Rattle.cauchy.proofs.columns.solve_words.Goals as goal

pub returns : goal.returns
returns c =
    let a = c.args in
    let d = a.damaged.now in
    let l : length (take d.e d.rows.now) ≡ d.e = length-take-le d.e d.rows.now (omega (arith, d.few, d.rows_long)) in
    let g = rw d.same at c.solve.ensures in
    g (λ w. sides d.code.n d.code.m d.code.s d.marks.now d.store.now w (take d.e d.rows.now)) a.scratch.now
    (sides-columns d.code.n d.code.m d.code.s _ d.marks.now d.store.now _ (omega (arith, d.code.n_most, d.code.m_most)) d.bytes (taken_below d.e d.rows.now d.row_words) refl)
    (c.lay_sides.ensures ∙ ap (λ (x : ℕ). columned d.code.s d.range.first d.range.count x (λ w. sides d.code.n d.code.m d.code.s d.marks.now d.store.now w (take d.e d.rows.now)) a.scratch.now) (sym l))
