-- `rebuild_words` meets its contract. Assumes nothing.
use mathlib.Core.Path.{refl, sym, ◌∙◌, ap}
use native.Mathlib.Omega.{arith}
use Prim.Native.Nat.{◌≤◌}
use native.Mathlib.Nat.{mul-le-mul_right}
use lib.ListN.{length}
use Rattle.little.specs.Runs.{zeros}
use Rattle.cauchy.proofs.columns.EndLaws.{fine, enough, rows_are, rows_fit, rebuilt}
use Rattle.cauchy.proofs.columns.rebuild_words.Goals as goal

pub list_missing-e-requires : goal.list_missing-e-requires
list_missing-e-requires c =
    let a = c.args in
    let k = a.code in
    let f = fine k.n k.m k.s _ _ _ _ a.columns.first a.columns.count c.requires.0 in
    let h = enough k.n k.m a.marks.now f.marks_long c.requires.1 in
    (omega (arith, f.marks_long), omega (arith, k.n_most, k.m_most), refl, omega (arith, h.few, k.m_most))

pub list_rows-requires : goal.list_rows-requires
list_rows-requires c =
    let a = c.args in
    let k = a.code in
    let f = fine k.n k.m k.s _ _ _ _ a.columns.first a.columns.count c.requires.0 in
    let h = enough k.n k.m a.marks.now f.marks_long c.requires.1 in
    (f.marks_long, omega (arith, k.n_most, k.m_most), refl, omega (arith, h.few, k.m_most, c.list_missing-e.ensures.0), omega (arith, h.rows, c.list_missing-e.ensures.0))

pub invariant_of-range : goal.invariant_of-range
invariant_of-range c =
    let a = c.args in
    let k = a.code in
    let f = fine k.n k.m k.s _ _ _ _ a.columns.first a.columns.count c.requires.0 in
    record { s_least = k.s_least; s_most = k.s_most; even = k.even; words = f.words }

pub invariant_of-damaged : goal.invariant_of-damaged
invariant_of-damaged c =
    let a = c.args in
    let k = a.code in
    let f = fine k.n k.m k.s _ _ _ _ a.columns.first a.columns.count c.requires.0 in
    let h = enough k.n k.m a.marks.now f.marks_long c.requires.1 in
    let few : c.list_missing-e.result ≤ 32 = omega (arith, h.few, k.m_most, c.list_missing-e.ensures.0) in
    record {
      same = refl;
      store_long = f.store_long;
      marks_long = f.marks_long;
      rows_long = c.list_rows.auto.out;
      rows_below = rows_fit k.n k.m c.list_missing-e.result a.marks.now _ f.marks_long c.requires.1 c.list_missing-e.ensures.0 c.list_rows.ensures.rows c.list_rows.auto.out few;
      row_words = c.list_rows.ensures.words;
      bytes = λ i. (c.type_inv.store i).fits;
      few = few;
      each = c.list_missing-e.ensures.0;
    }

pub solve_words-requires : goal.solve_words-requires
solve_words-requires c =
    let a = c.args in
    let k = a.code in
    let f = fine k.n k.m k.s _ _ _ _ a.columns.first a.columns.count c.requires.0 in
    let h = enough k.n k.m a.marks.now f.marks_long c.requires.1 in
    let e : c.list_missing-e.result ≤ k.m = omega (arith, h.few, c.list_missing-e.ensures.0) in
    (ap length c.list_missing-e.ensures.1 ∙ sym c.list_missing-e.ensures.0, omega (arith, f.scratch_long, mul-le-mul_right {m = c.list_missing-e.result} {n = k.m} k.s e))

pub returns : goal.returns
returns c =
    let a = c.args in
    let k = a.code in
    let f = fine k.n k.m k.s _ _ _ _ a.columns.first a.columns.count c.requires.0 in
    let ex = rows_are k.n k.m c.list_missing-e.result a.marks.now _ f.marks_long c.requires.1 c.list_missing-e.ensures.0 c.list_rows.ensures.rows in
    (rebuilt k.n k.m k.s a.columns.first a.columns.count a.marks.now a.store.now a.scratch.now _ _ _ f.marks_long c.requires.1 ex c.list_missing-e.ensures.1 c.solve_words.ensures, c.clear.ensures ∙ ap zeros f.numbers_long)
