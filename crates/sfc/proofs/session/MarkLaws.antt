-- What 71 lets through of the numbers handed in and of the marks, and what the walks over marks compute. Assumes nothing.
use Prim.Native.Nat.{ℕ, zero, suc, ◌+◌, ◌*◌, ◌%◌, ◌<◌, ◌≤◌}
use mathlib.Core.Path.{◌≡◌, refl, sym, ap}
use mathlib.Core.Bool.{Bool, true, false, not, ◌&&◌, ◌||◌}
use mathlib.Core.List.{List, [], ◌∷◌}
use native.Mathlib.Nat.{mul-le-mul}
use native.Mathlib.Omega.{arith}
use borrow.Author.Tests.{eqb-true, ltb-true, ltb-false, lt-ltb, not-false}
use lib.Dec.{eqb, ltb}
use lib.ListN.{length, get_or}
use Rattle.std.specs.List.{list_all, count_by}
use Rattle.std.proofs.lemmas.List.Recursion.{is_count_by}
use Rattle.little.proofs.Laws.{test_laws}
use Rattle.sfc.specs.format.Limits.{unlawful, above_house, wanted_blocks}
use Rattle.sfc.specs.session.Lent.{shape_wrong, marks_wrong}
use Rattle.sfc.specs.session.Marks.{barred_count, marks_known}
use Rattle.sfc.specs.session.Right.{RightShape, RightMarks}

-- ---- what 71 lets through

pub right_shape : (size n m s : ℕ) → shape_wrong size n m s ≡ false → RightShape size n m s
unfolding shape_wrong unlawful above_house
right_shape size n m s e =
    let o = test_laws.or-false (unlawful size n m s) (above_house n m s) e in
    let i = test_laws.or-false _ (not (eqb n (wanted_blocks size s))) o.0 in
    let h = test_laws.or-false _ (ltb 1099511627776 size) i.0 in
    let g = test_laws.or-false _ (ltb 65535 (n + m)) h.0 in
    let f = test_laws.or-false _ (ltb 65534 m) g.0 in
    let d = test_laws.or-false _ (ltb 65534 n) f.0 in
    let c = test_laws.or-false _ (ltb n 1) d.0 in
    let b = test_laws.or-false _ (not (eqb (s % 2) 0)) c.0 in
    let a = test_laws.or-false (ltb s 2) (ltb 268435456 s) b.0 in
    let v = test_laws.or-false (ltb 1024 n || ltb 32 m) (ltb 4096 s) o.1 in
    let u = test_laws.or-false (ltb 1024 n) (ltb 32 m) v.0 in
    let n_most : n ≤ 1024 = ltb-false 1024 n u.0 in
    let m_most : m ≤ 32 = ltb-false 32 m u.1 in
    let s_most : s ≤ 4096 = ltb-false 4096 s v.1 in
    let all : (n + m) * s ≤ 1056 * 4096 = mul-le-mul {n₁ = n + m} {m₁ = s} {n₂ = 1056} {m₂ = 4096} (omega arith) s_most in
    record {
      n_least = ltb-false n 1 c.1;
      n_most = n_most;
      m_most = m_most;
      s_least = ltb-false s 2 a.0;
      s_most = s_most;
      s_even = eqb-true (s % 2) 0 (not-false (eqb (s % 2) 0) b.1);
      size_most = ltb-false 1099511627776 size h.1;
      wanted = eqb-true n (wanted_blocks size s) (not-false (eqb n (wanted_blocks size s)) i.1);
      small = omega arith;
    }

pub right_marks : (size n m s : ℕ) (marks : List ℕ) → marks_wrong size n m s marks ≡ false → RightMarks size n m s marks
unfolding marks_wrong
right_marks size n m s marks e =
    let a = test_laws.or-false _ (not (marks_known marks)) e in
    let b = test_laws.or-false (shape_wrong size n m s) (not (eqb (length marks) (n + m))) a.0 in
    record {
      shape = right_shape size n m s b.0;
      marks_long = eqb-true (length marks) (n + m) (not-false (eqb (length marks) (n + m)) b.1);
      fit = not-false (marks_known marks) a.1;
    }

-- a mark is below 3
pub fit_at : (marks : List ℕ) (i : ℕ) → marks_known marks ≡ true → get_or marks i 0 < 3
unfolding marks_known
fit_at [] i e = omega arith
fit_at (k ∷ marks) zero e = ltb-true k 3 (test_laws.and_both (ltb k 3) (marks_known marks) e).0
fit_at (k ∷ marks) (suc i) e = fit_at marks i (test_laws.and_both (ltb k 3) (marks_known marks) e).1

pub fit_all : (marks : List ℕ) → ((i : ℕ) → get_or marks i 0 < 3) → marks_known marks ≡ true
unfolding marks_known
fit_all [] f = refl
fit_all (k ∷ marks) f = rw (lt-ltb k 3 (f 0), fit_all marks (λ i. f (suc i)))

-- the library's words for the two walks over marks
pub all_known : (marks : List ℕ) → list_all (λ mark. ltb mark 3) marks ≡ marks_known marks
unfolding marks_known
all_known [] = refl
all_known (k ∷ marks) = ap (λ (t : Bool). ltb k 3 && t) (all_known marks)

pub counted_barred : (marks : List ℕ) → count_by (λ mark. eqb mark 2) marks ≡ barred_count marks
unfolding barred_count
counted_barred marks = sym (is_count_by barred_count (λ mark. eqb mark 2) refl (λ mark rest. let e : 1 + barred_count rest ≡ suc (barred_count rest) = omega arith in rw e) marks)
