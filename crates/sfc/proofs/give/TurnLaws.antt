-- A turn: what it may take for granted past 71, how many columns are left, and its answers. Assumes nothing.
use Prim.Native.Nat.{ℕ, ◌+◌, ◌-◌, ◌/◌, ◌≤◌}
use mathlib.Core.Path.{◌≡◌, sym, ap, ◌∙◌}
use mathlib.Core.Bool.{Bool, true, false, cond, true≢false}
use mathlib.Core.List.{List}
use native.Mathlib.Omega.{arith}
use borrow.Author.Tests.{eq-eqb, ne_eqb}
use lib.Dec.{eqb, ltb}
use lib.ListN.{length, take}
use lib.Seq.{length-take-le}
use Rattle.little.specs.Runs.{zeros}
use Rattle.little.proofs.Laws.{test_laws}
use Rattle.cauchy.specs.Decode.{held}
use Rattle.cauchy.specs.Calls.{Rebuilt, rebuilt, rebuilt_scratch, rebuild_spec, Answer}
use Rattle.cauchy.specs.declared.shape.Refusal.{Refusal}
use Rattle.std.specs.Prelude.{Ok, Err}
use Rattle.cauchy.proofs.Laws.{missing_laws}
use Rattle.sfc.specs.answer.Places.{columns}
use Rattle.sfc.specs.session.Marks.{held_count}
use Rattle.sfc.specs.session.Lent.{lent_wrong, rebuilding_wrong, columns_wrong}
use Rattle.sfc.specs.session.Right.{RightLent}
use Rattle.sfc.specs.inner.Gather.{Rebuildable}
use Rattle.sfc.specs.give.Turns.{gone, columns_left, turning_of, turn_count, turn}
use Rattle.sfc.specs.declared.format.header.Head.{Head}
use Rattle.sfc.specs.declared.answer.reason.Reason.TheVariants.{Few, Lent as LentWrong}
use Rattle.sfc.proofs.session.SessionLaws.{right_lent}
use Rattle.sfc.proofs.session.KeptLaws.{RightBeside, right_beside}
use Rattle.sfc.proofs.give.RebuildLaws.{is_done, columns_cases}
use Rattle.std.specs.Prelude.{Ok, Err}

-- ---- past 71

pub record RightColumns (size n m s : ℕ) (store marks scratch : List ℕ) (f : ℕ) : Type 0 where
  pub right : RightLent size n m s store marks
  pub beside : RightBeside m s scratch f

pub right_columns : (size n m s : ℕ) (store marks scratch : List ℕ) (f : ℕ) → columns_wrong size n m s store marks scratch f ≡ false
    → RightColumns size n m s store marks scratch f
unfolding columns_wrong
right_columns size n m s store marks scratch f e =
    let t = test_laws.or-false (lent_wrong size n m s store marks) (rebuilding_wrong m s scratch f) e in
    record { right = right_lent size n m s store marks t.0; beside = right_beside m s scratch f t.1 }

pub able_columns : (size n m s : ℕ) (store marks scratch : List ℕ) (f : ℕ) → RightColumns size n m s store marks scratch f
    → (numbers : List ℕ) → length numbers ≡ 1024 → Rebuildable n m s store marks scratch numbers
able_columns size n m s store marks scratch f r numbers l = record {
  n_least = r.right.shape.n_least;
  n_most = r.right.shape.n_most;
  m_most = r.right.shape.m_most;
  s_least = r.right.shape.s_least;
  s_most = r.right.shape.s_most;
  even = r.right.shape.s_even;
  marks_long = r.right.marks_long;
  store_long = r.right.store_long;
  scratch_long = r.beside.long;
  numbers_long = l;
}

-- ---- the columns left

-- no data block is missing just where as many are held as there are
gone_held : (n : ℕ) (marks : List ℕ) → n ≤ length marks → gone n marks + held_count (take n marks) ≡ n
gone_held n marks l = missing_laws.length-missing 0 (held (take n marks)) ∙ missing_laws.length-held (take n marks) ∙ length-take-le n marks l

module _ (n s : ℕ) (marks : List ℕ) (f : ℕ) where
  pub left_none : gone n marks ≡ 0 → columns_left n s marks f ≡ 0
  unfolding columns_left
  left_none e = rw (eq-eqb (gone n marks) 0 e)

  pub left_some : (gone n marks ≡ 0 → ⊥) → columns_left n s marks f ≡ s / 2 - f
  unfolding columns_left
  left_some e = rw (ne_eqb (gone n marks) 0 e)

  pub none_told : n ≤ length marks → held_count (take n marks) ≡ n → 0 ≡ columns_left n s marks f
  none_told l e = sym (left_none (omega (arith, gone_held n marks l, e)))

  pub some_told : n ≤ length marks → (held_count (take n marks) ≡ n → ⊥) → s / 2 - f ≡ columns_left n s marks f
  some_told l e = sym (left_some (λ z. e (omega (arith, gone_held n marks l, z))))

  pub left_most : columns_left n s marks f ≤ s / 2 - f
  unfolding columns_left
  left_most = go (eqb (gone n marks) 0)
    where
      go : (b : Bool) → cond b 0 (s / 2 - f) ≤ s / 2 - f
      go true = omega arith
      go false = omega arith

-- ---- the answers

module _ (h : Head) (store marks scratch numbers : List ℕ) (f b : ℕ) where
  pub turn-wrong : columns_wrong h.size h.n h.m h.s store marks scratch f ≡ true
      → turning_of (Err LentWrong) f scratch numbers ≡ turn h store marks scratch numbers f b
  unfolding turn
  turn-wrong e = rw e

  module _ (right : columns_wrong h.size h.n h.m h.s store marks scratch f ≡ false) where
    pub turn-other : (length numbers ≡ 1024 → ⊥) → turning_of (Err LentWrong) f scratch numbers ≡ turn h store marks scratch numbers f b
    unfolding turn
    turn-other l = rw (right, ne_eqb (length numbers) 1024 l)

    module _ (long : length numbers ≡ 1024) where
      turn_past : turn h store marks scratch numbers f b
          ≡ cond (ltb (held_count marks) h.n) (turning_of (Err Few) f scratch numbers)
          (turning_of (Ok (columns (turn_count h marks f b))) (f + turn_count h marks f b) (rebuilt_scratch h.n h.m h.s marks store f (turn_count h marks f b) scratch) (zeros 1024))
      unfolding turn
      turn_past = rw (right, eq-eqb (length numbers) 1024 long)

      -- what the code's call answers is what the turn answers
      module _ (x : Rebuilt) (count : ℕ) (fits : f + count ≤ h.s / 2) (as-counted : count ≡ turn_count h marks f b)
          (e : x ≡ rebuild_spec h.n h.m h.s marks store scratch numbers f count) where
        cases : x ≡ cond (ltb (held_count marks) h.n) (rebuilt scratch numbers (Err Refusal.TooFew))
            (rebuilt (rebuilt_scratch h.n h.m h.s marks store f count scratch) (zeros 1024) (Ok tt))
        cases =
            e ∙ columns_cases h.n h.m h.s store marks scratch numbers
            (able_columns h.size h.n h.m h.s store marks scratch f (right_columns h.size h.n h.m h.s store marks scratch f right) numbers long) f count fits

        pub turn_done_lem : x.answer ≡ Ok tt → turning_of (Ok (columns count)) (f + count) x.scratch x.numbers ≡ turn h store marks scratch numbers f b
        turn_done_lem a = go (ltb (held_count marks) h.n) cases turn_past
          where
            go : (t : Bool) → x ≡ cond t (rebuilt scratch numbers (Err Refusal.TooFew)) (rebuilt (rebuilt_scratch h.n h.m h.s marks store f count scratch) (zeros 1024) (Ok tt))
                → turn h store marks scratch numbers f b
                ≡ cond t (turning_of (Err Few) f scratch numbers)
                (turning_of (Ok (columns (turn_count h marks f b))) (f + turn_count h marks f b) (rebuilt_scratch h.n h.m h.s marks store f (turn_count h marks f b) scratch) (zeros 1024))
                → turning_of (Ok (columns count)) (f + count) x.scratch x.numbers ≡ turn h store marks scratch numbers f b
            go true q p = absurd (true≢false (ap is_done (sym a ∙ ap (λ (y : Rebuilt). y.answer) q)))
            go false q p =
                ap (λ (y : Rebuilt). turning_of (Ok (columns count)) (f + count) y.scratch y.numbers) q
                ∙ ap (λ (k : ℕ). turning_of (Ok (columns k)) (f + k) (rebuilt_scratch h.n h.m h.s marks store f k scratch) (zeros 1024)) as-counted ∙ sym p

        pub turn-few : is_done x.answer ≡ false → turning_of (Err Few) f x.scratch x.numbers ≡ turn h store marks scratch numbers f b
        turn-few a = go (ltb (held_count marks) h.n) cases turn_past
          where
            go : (t : Bool) → x ≡ cond t (rebuilt scratch numbers (Err Refusal.TooFew)) (rebuilt (rebuilt_scratch h.n h.m h.s marks store f count scratch) (zeros 1024) (Ok tt))
                → turn h store marks scratch numbers f b
                ≡ cond t (turning_of (Err Few) f scratch numbers)
                (turning_of (Ok (columns (turn_count h marks f b))) (f + turn_count h marks f b) (rebuilt_scratch h.n h.m h.s marks store f (turn_count h marks f b) scratch) (zeros 1024))
                → turning_of (Err Few) f x.scratch x.numbers ≡ turn h store marks scratch numbers f b
            go true q p = ap (λ (y : Rebuilt). turning_of (Err Few) f y.scratch y.numbers) q ∙ sym p
            go false q p = absurd (true≢false (sym (ap is_done (ap (λ (y : Rebuilt). y.answer) q)) ∙ a))

        -- and it never finds the shape wrong
        pub turn_shaped : x.answer ≡ Err Refusal.BadShape → ⊥
        turn_shaped a = go (ltb (held_count marks) h.n) cases
          where
            go : (t : Bool) → x ≡ cond t (rebuilt scratch numbers (Err Refusal.TooFew)) (rebuilt (rebuilt_scratch h.n h.m h.s marks store f count scratch) (zeros 1024) (Ok tt)) → ⊥
            go true q = absurd (let z : ◌≡◌ {A = Answer} (Err Refusal.BadShape) (Err Refusal.TooFew) = sym a ∙ ap (λ (y : Rebuilt). y.answer) q in let w : ◌≡◌ {A = ℕ} 0 1 = cc in omega arith)
            go false q = absurd (let z : ◌≡◌ {A = Answer} (Err Refusal.BadShape) (Ok tt) = sym a ∙ ap (λ (y : Rebuilt). y.answer) q in let w : ◌≡◌ {A = ℕ} 0 1 = cc in omega arith)
