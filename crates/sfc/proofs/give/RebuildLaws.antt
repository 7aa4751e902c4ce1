-- Rebuilding: what it may take for granted past 71, what the code's call answers, and which blocks then lie in scratch. Assumes
-- nothing.
use Prim.Native.Nat.{ℕ, ◌+◌, ◌-◌, ◌*◌, ◌/◌, ◌%◌, ◌^◌, ◌<◌, ◌≤◌}
use mathlib.Core.Path.{◌≡◌, refl, sym, ◌∙◌, ap}
use mathlib.Core.Bool.{Bool, true, false, cond, not, ◌||◌, true≢false, false≢true}
use mathlib.Core.List.{List}
use native.Mathlib.Omega.{arith}
use native.Mathlib.Nat.{mul-le-mul_right}
use borrow.Author.Tests.{eq-eqb, ne_eqb, le-ltb, ltb-false, eqb-true, not-false, not-true}
use lib.Dec.{eqb, ltb}
use lib.ListN.{length, replicate}
use Rattle.little.specs.Runs.{zeros}
use Rattle.little.proofs.Laws.{test_laws}
use Rattle.cauchy.specs.Decode.{holding, missing_data}
use Rattle.cauchy.specs.Calls.{wrong_shape, wrong_memory, Rebuilt, rebuilt, rebuilt_scratch, rebuild_spec, decoded_scratch, rebuild_all_spec, Answer}
use Rattle.cauchy.specs.declared.shape.Refusal.{Refusal}
use Rattle.std.specs.Prelude.{Ok, Err, is_ok}
use Rattle.cauchy.proofs.Theorems.{theorems}
use Rattle.cauchy.proofs.Laws.{missing_laws}
use Rattle.sfc.specs.session.Marks.{held_count}
use Rattle.sfc.specs.session.Lent.{lent_wrong, Lent, rebuild_wrong}
use Rattle.sfc.specs.inner.Gather.{Rebuildable, Restored, Cut}
use Rattle.sfc.specs.session.Right.{RightShape, RightLent}
use Rattle.sfc.specs.declared.format.header.Head.{Head}
use Rattle.sfc.proofs.format.LimitLaws.{wanted_holds}
use Rattle.sfc.proofs.session.SessionLaws.{right_lent}

-- ---- past 71

-- what the test of 71 says
pub rebuild_told : (h : Head) (store marks : List ℕ) (l : Lent) (r t : Bool)
    → r ≡ (lent_wrong h.size h.n h.m h.s store marks || not (eqb (length l.scratch) (h.m * h.s)) || not (eqb (length l.numbers) 1024)) → r ≡ t
    → rebuild_wrong h store marks l ≡ t
unfolding rebuild_wrong
rebuild_told h store marks l r t e f = sym e ∙ f

pub wrong_first : (x a b : Bool) → x ≡ true → true ≡ (x || a || b)
wrong_first x a b e = rw e

pub wrong-rest : (x a b : Bool) → x ≡ false → (a || b) ≡ (x || a || b)
wrong-rest x a b e = rw e

pub scratch_small : (size n m s : ℕ) (store marks : List ℕ) → lent_wrong size n m s store marks ≡ false → m * s < 2 ^ 64
scratch_small size n m s store marks e = let r = right_lent size n m s store marks e in omega (arith, r.shape.small, mul-le-mul_right {m = m} {n = n + m} s (omega arith))

-- past it: the shape, and what can be rebuilt from
pub record RightRebuild (h : Head) (store marks : List ℕ) (l : Lent) : Type 0 where
  pub right : RightLent h.size h.n h.m h.s store marks
  pub able : Rebuildable h.n h.m h.s store marks l.scratch l.numbers

pub right_rebuild : (h : Head) (store marks : List ℕ) (l : Lent) → rebuild_wrong h store marks l ≡ false → RightRebuild h store marks l
unfolding rebuild_wrong
right_rebuild h store marks l e =
    let a = test_laws.or-false (lent_wrong h.size h.n h.m h.s store marks || not (eqb (length l.scratch) (h.m * h.s))) (not (eqb (length l.numbers) 1024)) e in
    let b = test_laws.or-false (lent_wrong h.size h.n h.m h.s store marks) (not (eqb (length l.scratch) (h.m * h.s))) a.0 in
    let r = right_lent h.size h.n h.m h.s store marks b.0 in
    record {
      right = r;
      able = record {
        n_least = r.shape.n_least;
        n_most = r.shape.n_most;
        m_most = r.shape.m_most;
        s_least = r.shape.s_least;
        s_most = r.shape.s_most;
        even = r.shape.s_even;
        marks_long = r.marks_long;
        store_long = r.store_long;
        scratch_long = eqb-true (length l.scratch) (h.m * h.s) (not-false (eqb (length l.scratch) (h.m * h.s)) b.1);
        numbers_long = eqb-true (length l.numbers) 1024 (not-false (eqb (length l.numbers) 1024) a.1);
      };
    }

-- only the last block is cut
pub cut_right : (size n m s : ℕ) → RightShape size n m s → Cut size n s
cut_right size n m s r = record {
  some = r.n_least;
  most = omega (arith, (wanted_holds size s (omega (arith, r.s_least))).1, ap (λ (x : ℕ). x * s) r.wanted);
  least = omega (arith, (wanted_holds size s (omega (arith, r.s_least))).0, ap (λ (x : ℕ). (x - 1) * s) r.wanted);
  small = omega (arith, r.small, mul-le-mul_right {m = n} {n = n + m} s (omega arith));
}

-- ---- what the code's call answers

able_shape : (n m s : ℕ) (store marks scratch numbers : List ℕ) → Rebuildable n m s store marks scratch numbers → (first count : ℕ) → first + count ≤ s / 2
    → (wrong_shape n m s || wrong_memory n m s (length marks) (length store) (length scratch) (length numbers) first count) ≡ false
unfolding wrong_shape wrong_memory
able_shape n m s store marks scratch numbers r first count fits =
    rw (
      ne_eqb n 0 (λ z. omega (arith, r.n_least)),
      le-ltb 1024 n r.n_most,
      le-ltb 32 m r.m_most,
      le-ltb s 2 r.s_least,
      le-ltb 4096 s r.s_most,
      eq-eqb (s % 2) 0 r.even,
      eq-eqb (length marks) (n + m) r.marks_long,
      eq-eqb (length store) ((n + m) * s) r.store_long,
      eq-eqb (length scratch) (m * s) r.scratch_long,
      eq-eqb (length numbers) 1024 r.numbers_long,
      le-ltb (s / 2) first (omega arith),
      le-ltb (s / 2 - first) count (omega arith),
    )

rebuilt_cases : (n m s : ℕ) (store marks scratch numbers : List ℕ) → Rebuildable n m s store marks scratch numbers
    → rebuild_all_spec n m s marks store scratch numbers
    ≡ cond (ltb (held_count marks) n) (record { scratch = scratch; numbers = numbers; answer = Err Refusal.TooFew })
    (record { scratch = decoded_scratch n m s marks store scratch; numbers = replicate 1024 0; answer = Ok tt })
unfolding rebuild_all_spec
rebuilt_cases n m s store marks scratch numbers r = rw (able_shape n m s store marks scratch numbers r 0 (s / 2) (omega arith))

pub columns_cases : (n m s : ℕ) (store marks scratch numbers : List ℕ) → Rebuildable n m s store marks scratch numbers → (first count : ℕ) → first + count ≤ s / 2
    → rebuild_spec n m s marks store scratch numbers first count
    ≡ cond (ltb (held_count marks) n) (rebuilt scratch numbers (Err Refusal.TooFew))
    (rebuilt (rebuilt_scratch n m s marks store first count scratch) (zeros 1024) (Ok tt))
unfolding rebuild_spec
columns_cases n m s store marks scratch numbers r first count fits = rw (able_shape n m s store marks scratch numbers r first count fits)

abbrev pub is_done : Answer → Bool
is_done answer = is_ok answer

-- ---- a test and its negation

pub few-told : (r t : Bool) → not r ≡ true → r ≡ not t → t ≡ true
few-told r t p e = not-false t (sym e ∙ not-true r p)

pub enough_told : (r t : Bool) → not r ≡ false → r ≡ not t → t ≡ false
enough_told r t p e = not-true t (sym e ∙ not-false r p)

-- ---- by the answer

done_told : (t : Bool) (x few done : Rebuilt) → x ≡ cond t few done → few.answer ≡ Err Refusal.TooFew → is_done x.answer ≡ true → (true ≡ not t) × (x.scratch ≡ done.scratch)
done_told true x few done e f a = absurd (true≢false (sym a ∙ ap is_done (ap (λ (y : Rebuilt). y.answer) e ∙ f)))
done_told false x few done e f a = (refl, ap (λ (y : Rebuilt). y.scratch) e)

other-told : (t : Bool) (x few done : Rebuilt) → x ≡ cond t few done → done.answer ≡ Ok tt → is_done x.answer ≡ false → false ≡ not t
other-told true x few done e d a = refl
other-told false x few done e d a = absurd (true≢false (sym (ap is_done (ap (λ (y : Rebuilt). y.answer) e ∙ d)) ∙ a))

-- where it could be done, scratch has the missing blocks
pub restored : (n m s : ℕ) (store marks scratch numbers scratch' : List ℕ) → Rebuildable n m s store marks scratch numbers → ltb (held_count marks) n ≡ false
    → scratch' ≡ decoded_scratch n m s marks store scratch → length scratch' ≡ length scratch → Restored n m s marks store scratch'
restored n m s store marks scratch numbers scratch' r few e l =
    let h : n ≤ holding marks = omega (arith, ltb-false (held_count marks) n few) in
    record {
      even = r.even;
      marks_long = r.marks_long;
      store_long = r.store_long;
      room = omega (arith, l, r.scratch_long, mul-le-mul_right {m = length (missing_data n marks)} {n = m} s (omega (arith, (missing_laws.enough n m marks r.marks_long h).few, (missing_laws.enough n m marks r.marks_long h).same)));
      found = λ k hk. rw e (theorems.decodes n m s marks store scratch r.s_least r.even r.marks_long r.scratch_long h k hk);
    }

rebuilt_done : (n m s : ℕ) (store marks scratch numbers : List ℕ) (x : Rebuilt) → Rebuildable n m s store marks scratch numbers
    → x ≡ rebuild_all_spec n m s marks store scratch numbers → is_done x.answer ≡ true → length x.scratch ≡ length scratch
    → (true ≡ not (ltb (held_count marks) n)) × (true ≡ true → Restored n m s marks store x.scratch)
rebuilt_done n m s store marks scratch numbers x r e a l =
    let t = done_told (ltb (held_count marks) n) x _ _ (e ∙ rebuilt_cases n m s store marks scratch numbers r) refl a in
    (t.0, λ q. restored n m s store marks scratch numbers x.scratch r (enough_told true (ltb (held_count marks) n) refl t.0) t.1 l)

rebuilt-not : (n m s : ℕ) (store marks scratch numbers : List ℕ) (x : Rebuilt) → Rebuildable n m s store marks scratch numbers
    → x ≡ rebuild_all_spec n m s marks store scratch numbers → is_done x.answer ≡ false → length x.scratch ≡ length scratch
    → (false ≡ not (ltb (held_count marks) n)) × (false ≡ true → Restored n m s marks store x.scratch)
rebuilt-not n m s store marks scratch numbers x r e a l =
    (other-told (ltb (held_count marks) n) x _ _ (e ∙ rebuilt_cases n m s store marks scratch numbers r) refl a, λ q. absurd (false≢true q))

-- by whether the call went well
pub rebuilt_told : (n m s : ℕ) (store marks scratch numbers : List ℕ) (x : Rebuilt) (r : Bool) → Rebuildable n m s store marks scratch numbers
    → x ≡ rebuild_all_spec n m s marks store scratch numbers → is_done x.answer ≡ r → length x.scratch ≡ length scratch
    → (r ≡ not (ltb (held_count marks) n)) × (r ≡ true → Restored n m s marks store x.scratch)
rebuilt_told n m s store marks scratch numbers x true h e a l = rebuilt_done n m s store marks scratch numbers x h e a l
rebuilt_told n m s store marks scratch numbers x false h e a l = rebuilt-not n m s store marks scratch numbers x h e a l
