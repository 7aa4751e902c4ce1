-- Rebuilding as a whole: the system is one that can be solved, and its solution is what is promised. Assumes nothing.
use mathlib.Core.Path.{◌≡◌, sym, ◌∙◌, ap, ap₂}
use mathlib.Core.Bool.{true, false, not}
use mathlib.Core.List.{List}
use Prim.Native.Nat.{ℕ, ◌+◌, ◌-◌, ◌*◌, ◌/◌, ◌≤◌, ◌<◌}
use native.Mathlib.Omega.{arith}
use lib.ListN.{length, get_or, take, drop, replicate, length-drop}
use lib.Seq.{get_or-take, length-take-le}
use lib.Dec.{ltb, eqb}
use borrow.Author.Tests.{ltb-false, eqb-true, not-false, lt-ltb, le-ltb}
use Rattle.std.specs.Prelude.{Ok, Err}
use Rattle.cauchy.specs.declared.shape.Refusal.{Refusal}
use Rattle.cauchy.proofs.decoding.Known.{length-held, held-take, held-drop, count_split, length-missing, length-present, UsedRows, rows_used_lem}
use Rattle.little.proofs.Laws.{test_laws}
use Rattle.cauchy.specs.Laws.{Enough}
use Rattle.cauchy.specs.Decode.{missing, count, held, holding, present, rows_used, sides, found_words}
use Rattle.cauchy.specs.inner.System.{solve, field, zeros}
use Rattle.cauchy.specs.Calls.{wrong_shape, filled, wrong_memory, rebuilt_scratch, Rebuilt, rebuild_spec}

-- what a right shape and right memory tell
pub record Fine (n m s marks store scratch numbers first count : ℕ) : Type 0 where
  pub marks_long : marks ≡ n + m
  pub store_long : store ≡ (n + m) * s
  pub scratch_long : scratch ≡ m * s
  pub numbers_long : numbers ≡ 1024
  pub words : first + count ≤ s / 2

pub fine : (n m s marks store scratch numbers first count : ℕ) → wrong_memory n m s marks store scratch numbers first count ≡ false → Fine n m s marks store scratch numbers first count
unfolding wrong_memory
fine n m s marks store scratch numbers first count f =
    let a = test_laws.or-false _ (ltb (s / 2 - first) count) f in
    let b = test_laws.or-false _ (ltb (s / 2) first) a.0 in
    let c = test_laws.or-false _ (not (eqb numbers 1024)) b.0 in
    let d = test_laws.or-false _ (not (eqb scratch (m * s))) c.0 in
    let g = test_laws.or-false (not (eqb marks (n + m))) (not (eqb store ((n + m) * s))) d.0 in
    record {
      marks_long = eqb-true marks (n + m) (not-false (eqb marks (n + m)) g.0);
      store_long = eqb-true store ((n + m) * s) (not-false (eqb store ((n + m) * s)) g.1);
      scratch_long = eqb-true scratch (m * s) (not-false (eqb scratch (m * s)) d.1);
      numbers_long = eqb-true numbers 1024 (not-false (eqb numbers 1024) c.1);
      words = omega (arith, ltb-false (s / 2 - first) count a.1, ltb-false (s / 2) first b.1);
    }

-- no more are missing than recovery blocks are held
pub enough : (n m : ℕ) (marks : List ℕ) → length marks ≡ n + m → n ≤ holding marks → Enough n m marks
enough n m marks l h =
    let lt : length (held (take n marks)) ≡ n = length-held (take n marks) ∙ length-take-le n marks (omega arith) in
    let ld : length (held (drop n marks)) ≡ m = length-held (drop n marks) ∙ length-drop n marks ∙ omega arith in
    let hs : holding marks ≡ count (held (take n marks)) + count (held (drop n marks)) = count_split n (held marks) ∙ ap₂ (λ (x y : List ℕ). count x + count y) (sym (held-take n marks)) (sym (held-drop n marks)) in
    let a : length (missing m (held (take n marks))) + count (held (take n marks)) ≡ length (held (take n marks)) = length-missing m (held (take n marks)) in
    let b : length (missing 0 (held (take n marks))) + count (held (take n marks)) ≡ length (held (take n marks)) = length-missing 0 (held (take n marks)) in
    let p : length (present 0 (held (drop n marks))) ≡ count (held (drop n marks)) = length-present 0 (held (drop n marks)) in
    let q : length (missing 0 (held (drop n marks))) + count (held (drop n marks)) ≡ length (held (drop n marks)) = length-missing 0 (held (drop n marks)) in
    record { rows = omega arith; few = omega arith; same = omega arith }

pub rows_are : (n m e : ℕ) (marks l : List ℕ) → length marks ≡ n + m → n ≤ holding marks → e ≡ length (missing m (held (take n marks))) → l ≡ take e (present 0 (held (drop n marks))) → l ≡ rows_used n marks
unfolding rows_used
rows_are n m e marks l lm h ee el = el ∙ ap (λ (x : ℕ). take x (present 0 (held (drop n marks)))) (ee ∙ (enough n m marks lm h).same)

-- each of them is one of the m
pub rows_fit : (n m e : ℕ) (marks rows : List ℕ) → length marks ≡ n + m → n ≤ holding marks → e ≡ length (missing m (held (take n marks))) → take e rows ≡ take e (present 0 (held (drop n marks)))
    → length rows ≡ 32 → e ≤ 32 → (i : ℕ) → i < e → get_or rows i 0 < m
rows_fit n m e marks rows lm h ee el lr few i hi =
    let ex = rows_are n m e marks (take e rows) lm h ee el in
    let b = (rows_used_lem n m marks lm h).below i (omega (arith, ap length ex, length-take-le e rows (omega arith))) in
    let t = get_or-take e rows i 0 hi in rw t at (rw (← ex) at b)

pub rebuilt : (n m s first count : ℕ) (marks store scratch new xs ys : List ℕ) → length marks ≡ n + m → n ≤ holding marks → xs ≡ rows_used n marks → ys ≡ missing m (held (take n marks))
    → new ≡ filled s first count (length xs) (λ l w. get_or (solve field xs ys (sides n m s marks store w xs)) l 0) scratch → new ≡ rebuilt_scratch n m s marks store first count scratch
unfolding rebuilt_scratch found_words
rebuilt n m s first count marks store scratch new xs ys lm h ex ey e =
    let r : UsedRows n m marks = rows_used_lem n m marks lm h in
    e ∙ rw (ex, ey) (ap (λ (x : ℕ). filled s first count x (λ l w. get_or (solve field (rows_used n marks) (missing m (held (take n marks))) (sides n m s marks store w (rows_used n marks))) l 0) scratch) r.size)

-- ---- the answers

module _ (n m s : ℕ) (marks store scratch numbers : List ℕ) (first count : ℕ) where
  pub rebuild_shape : wrong_shape n m s ≡ true → ◌≡◌ {A = Rebuilt} (record { scratch = scratch; numbers = numbers; answer = Err Refusal.BadShape }) (rebuild_spec n m s marks store scratch numbers first count)
  unfolding rebuild_spec
  rebuild_shape e = rw e

  pub rebuild_memory : wrong_shape n m s ≡ false → wrong_memory n m s (length marks) (length store) (length scratch) (length numbers) first count ≡ true
      → ◌≡◌ {A = Rebuilt} (record { scratch = scratch; numbers = numbers; answer = Err Refusal.BadShape }) (rebuild_spec n m s marks store scratch numbers first count)
  unfolding rebuild_spec
  rebuild_memory e f = rw (e, f)

  pub rebuild_few : wrong_shape n m s ≡ false → wrong_memory n m s (length marks) (length store) (length scratch) (length numbers) first count ≡ false → holding marks < n
      → ◌≡◌ {A = Rebuilt} (record { scratch = scratch; numbers = numbers; answer = Err Refusal.TooFew }) (rebuild_spec n m s marks store scratch numbers first count)
  unfolding rebuild_spec
  rebuild_few e f h = rw (e, f, lt-ltb (holding marks) n h)

  pub rebuild_done : (new zeros : List ℕ) → wrong_shape n m s ≡ false → wrong_memory n m s (length marks) (length store) (length scratch) (length numbers) first count ≡ false → n ≤ holding marks
      → new ≡ rebuilt_scratch n m s marks store first count scratch → zeros ≡ replicate 1024 0
      → ◌≡◌ {A = Rebuilt} (record { scratch = new; numbers = zeros; answer = Ok tt }) (rebuild_spec n m s marks store scratch numbers first count)
  unfolding rebuild_spec
  rebuild_done new zeros e f h en ez = rw (e, f, le-ltb (holding marks) n h, en, ez)
