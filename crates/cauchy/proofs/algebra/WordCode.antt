-- The code over numbers: words are the numbers below a bound b, the operations are functions of numbers, and the laws hold below b.
-- N data words ds, M recovery words: row k (k < M) has the node k, data word j the node M + j.
use mathlib.Core.Path.{◌≡◌, refl, sym, ◌∙◌, ap, ap₂}
use mathlib.Core.Logic.{◌≢◌}
use mathlib.Core.HLevel.{Σ_prop_path}
use mathlib.Core.Bool.{Bool, true, false, cond}
use mathlib.Core.List.{map, List, [], ◌∷◌}
use Prim.Native.Nat.{ℕ, zero, suc, ◌+◌, ◌-◌, ◌≤◌, ◌<◌, suc-le-suc}
use native.Mathlib.Bridge.{le_prop}
use native.Mathlib.Nat.{add-zero}
use native.Mathlib.Decide.{dec_lt}
use native.Mathlib.Omega.{arith}
use lib.ListN.{length, get_or, take, drop, length-drop}
use lib.Seq.{drop-cons, ext_get_or, get_or-take, get_or-drop, length-take-le}
use lib.Dec.{ltb, T, lt→ltb, ltb→lt}
use Rattle.cauchy.specs.inner.System.{Ops, dot, zeros, reduce, back, first, extend, solve}
use Rattle.cauchy.specs.Decode.{count, missing}
use Rattle.cauchy.specs.inner.Promises.{Below, Apart, Distinct, Cross, Nodes}
use Rattle.cauchy.proofs.algebra.Field.{Laws, Field}
use Rattle.cauchy.proofs.algebra.SystemLaws.{sums}
use Rattle.cauchy.proofs.algebra.Kept.{length-kept, blank, blank_of, trues, kept, lost, kept_of_agree, agree_of_kept}
use Rattle.cauchy.proofs.algebra.FieldCode.{Decoded, nodes_kept, length-sums, get_or-sums, length-plus, get_or-plus, plus, decode}
use Rattle.cauchy.proofs.algebra.FieldCode
use Rattle.cauchy.proofs.algebra.SystemLaws

-- ---- operations and laws

pub record NatOps : Type 0 where
  pub add : ℕ → ℕ → ℕ
  pub mul : ℕ → ℕ → ℕ
  pub inv : ℕ → ℕ

pub record WordLaws (A : NatOps) (b : ℕ) : Type 0 where
  pub one-lt : 1 < b
  pub add-lt : (x y : ℕ) → x < b → y < b → A.add x y < b
  pub mul-lt : (x y : ℕ) → x < b → y < b → A.mul x y < b
  pub inv-lt : (x : ℕ) → x < b → A.inv x < b
  pub add_assoc : (x y z : ℕ) → x < b → y < b → z < b → A.add (A.add x y) z ≡ A.add x (A.add y z)
  pub add_comm : (x y : ℕ) → x < b → y < b → A.add x y ≡ A.add y x
  pub add-zero : (x : ℕ) → x < b → A.add x 0 ≡ x
  pub add_self : (x : ℕ) → x < b → A.add x x ≡ 0
  pub mul_assoc : (x y z : ℕ) → x < b → y < b → z < b → A.mul (A.mul x y) z ≡ A.mul x (A.mul y z)
  pub mul_comm : (x y : ℕ) → x < b → y < b → A.mul x y ≡ A.mul y x
  pub mul-one : (x : ℕ) → x < b → A.mul x 1 ≡ x
  pub mul-zero : (x : ℕ) → x < b → A.mul x 0 ≡ 0
  pub mul-add : (x y z : ℕ) → x < b → y < b → z < b → A.mul x (A.add y z) ≡ A.add (A.mul x y) (A.mul x z)
  pub mul_inverse : (x : ℕ) → x < b → x ≢ 0 → A.mul x (A.inv x) ≡ 1

-- the numbers, with these operations
abbrev pub raw : NatOps → Ops
raw A = record { F = ℕ; ◌⊕◌ = A.add; ◌⊗◌ = A.mul; inv = A.inv; O = 0; I = 1 }

-- ---- the code

module _ (A : NatOps) where
  -- Σ_j d_j / (x + (c + j))
  unfoldable pub row_from : ℕ → ℕ → List ℕ → ℕ
  row_from x c [] = 0
  row_from x c (d ∷ ds) = A.add (A.mul (A.inv (A.add x c)) d) (row_from x (suc c) ds)

  -- word i of the N + M
  unfoldable pub code_word : ℕ → List ℕ → ℕ → ℕ
  code_word M ds i = cond (ltb i (length ds)) (get_or ds i 0) (row_from (i - length ds) M ds)

  T_true : (t : Bool) → T t → t ≡ true
  T_true true h = refl
  T_true false h = absurd h

  T_false : (t : Bool) → ¬ (T t) → t ≡ false
  T_false true h = absurd (h tt)
  T_false false h = refl

  pub code_data : (M : ℕ) (ds : List ℕ) (i : ℕ) → i < length ds → code_word M ds i ≡ get_or ds i 0
  unfolding code_word
  code_data M ds i h = ap (λ (t : Bool). cond t (get_or ds i 0) (row_from (i - length ds) M ds)) (T_true (ltb i (length ds)) (lt→ltb i (length ds) h))

  pub code_row : (M : ℕ) (ds : List ℕ) (k : ℕ) → code_word M ds (length ds + k) ≡ row_from k M ds
  unfolding code_word
  code_row M ds k =
      ap (λ (t : Bool). cond t (get_or ds (length ds + k) 0) (row_from (length ds + k - length ds) M ds))
      (T_false (ltb (length ds + k) (length ds)) (λ t. omega (arith, ltb→lt (length ds + k) (length ds) t)))
      ∙ ap (λ (n : ℕ). row_from n M ds) (omega arith)

  -- two lists of N data words give the same code word at each index that is held
  abbrev pub Agree : ℕ → ℕ → List ℕ → List ℕ → List ℕ → Type 0
  Agree M N ms ds ds' = (i : ℕ) → i < N + M → 0 < get_or ms i 0 → code_word M ds i ≡ code_word M ds' i

  -- the data words ds have the code words ws at each index that is held
  abbrev pub Fits : ℕ → ℕ → List ℕ → List ℕ → List ℕ → Type 0
  Fits M N ms ws ds = (i : ℕ) → i < N + M → 0 < get_or ms i 0 → code_word M ds i ≡ get_or ws i 0

-- c, c + 1, … : n of them
unfoldable pub upto : ℕ → ℕ → List ℕ
upto c zero = []
upto c (suc n) = c ∷ upto (suc c) n

pub length-upto : (c n : ℕ) → length (upto c n) ≡ n
unfolding upto
length-upto c zero = refl
length-upto c (suc n) = ap suc (length-upto (suc c) n)

pub get_or-upto : (c n i : ℕ) → i < n → get_or (upto c n) i 0 ≡ c + i
unfolding upto
get_or-upto c zero i h = absurd (omega arith)
get_or-upto c (suc n) zero h = omega arith
get_or-upto c (suc n) (suc i) h = get_or-upto (suc c) n i (omega arith) ∙ omega arith

apart_upto : (x c n : ℕ) → x < c → Apart x (upto c n)
unfolding upto
apart_upto x c zero h = tt
apart_upto x c (suc n) h = ((λ e. omega arith), apart_upto x (suc c) n (omega arith))

distinct_upto : (c n : ℕ) → Distinct (upto c n)
unfolding upto
distinct_upto c zero = tt
distinct_upto c (suc n) = (apart_upto c (suc c) n (omega arith), distinct_upto (suc c) n)

-- rows that ascend, each below the first column
abbrev pub Ascending : List ℕ → Type 0
Ascending ks = (i : ℕ) → suc i < length ks → get_or ks i 0 < get_or ks (suc i) 0

ascending_tail : (k : ℕ) (ks : List ℕ) → Ascending (k ∷ ks) → Ascending ks
ascending_tail k ks a i h = a (suc i) (suc-le-suc h)

ascending_head : (k : ℕ) (ks : List ℕ) → Ascending (k ∷ ks) → (x : ℕ) → x ≤ k → Apart x ks
ascending_head k [] a x h = tt
ascending_head k (j ∷ ks) a x h =
    let l : k < j = a 0 (omega arith) in
    ((λ e. omega arith), ascending_head j ks (ascending_tail k (j ∷ ks) a) x (omega arith))

pub ascending_distinct : (ks : List ℕ) → Ascending ks → Distinct ks
ascending_distinct [] a = tt
ascending_distinct (k ∷ ks) a = (ascending_head k ks a k (omega arith), ascending_distinct ks (ascending_tail k ks a))

below_cross : (ks : List ℕ) (c n : ℕ) → ((i : ℕ) → i < length ks → get_or ks i 0 < c) → Cross ks (upto c n)
below_cross [] c n h = tt
below_cross (k ∷ ks) c n h = (apart_upto k c n (h 0 (omega arith)), below_cross ks c n (λ i m. h (suc i) (suc-le-suc m)))

pub code_nodes : (ks : List ℕ) (M N : ℕ) → ((i : ℕ) → i < length ks → get_or ks i 0 < M) → Ascending ks → Nodes ks (upto M N)
code_nodes ks M N h a = record { rows = ascending_distinct ks a; cols = distinct_upto M N; apart = below_cross ks M N h }

-- the marks as truth values
unfoldable pub ons : List ℕ → List Bool
ons [] = []
ons (zero ∷ ms) = false ∷ ons ms
ons (suc m ∷ ms) = true ∷ ons ms

length-ons : (ms : List ℕ) → length (ons ms) ≡ length ms
unfolding ons
length-ons [] = refl
length-ons (zero ∷ ms) = ap suc (length-ons ms)
length-ons (suc m ∷ ms) = ap suc (length-ons ms)

on_held : (ms : List ℕ) (i : ℕ) → get_or (ons ms) i false ≡ true → 0 < get_or ms i 0
unfolding ons
on_held [] i e = absurd (let z : ◌≡◌ {A = ℕ} 0 1 = cc in omega arith)
on_held (zero ∷ ms) zero e = absurd (let z : ◌≡◌ {A = ℕ} 0 1 = cc in omega arith)
on_held (zero ∷ ms) (suc i) e = on_held ms i e
on_held (suc m ∷ ms) zero e = omega arith
on_held (suc m ∷ ms) (suc i) e = on_held ms i e

held_on : (ms : List ℕ) (i : ℕ) → 0 < get_or ms i 0 → get_or (ons ms) i false ≡ true
unfolding ons
held_on [] i h = absurd (omega arith)
held_on (zero ∷ ms) zero h = absurd (omega arith)
held_on (zero ∷ ms) (suc i) h = held_on ms i h
held_on (suc m ∷ ms) zero h = refl
held_on (suc m ∷ ms) (suc i) h = held_on ms i h

off_unheld : (ms : List ℕ) (i : ℕ) → get_or (ons ms) i true ≡ false → get_or ms i 0 ≡ 0
unfolding ons
off_unheld [] i e = refl
off_unheld (zero ∷ ms) zero e = refl
off_unheld (zero ∷ ms) (suc i) e = off_unheld ms i e
off_unheld (suc m ∷ ms) zero e = absurd (let z : ◌≡◌ {A = ℕ} 0 1 = cc in omega arith)
off_unheld (suc m ∷ ms) (suc i) e = off_unheld ms i e

pub count-trues : (ms : List ℕ) → count ms ≡ trues (ons ms)
unfolding count ons trues
count-trues [] = refl
count-trues (zero ∷ ms) = count-trues ms
count-trues (suc m ∷ ms) = ap suc (count-trues ms)

count_split : (n : ℕ) (ms : List ℕ) → count ms ≡ trues (ons (take n ms)) + trues (ons (drop n ms))
unfolding count ons trues
count_split zero [] = refl
count_split (suc n) [] = refl
count_split zero (zero ∷ ms) = count_split zero ms
count_split zero (suc m ∷ ms) = omega (arith, count_split zero ms)
count_split (suc n) (zero ∷ ms) = count_split n ms
count_split (suc n) (suc m ∷ ms) = omega (arith, count_split n ms)

-- the lost nodes, and the lost words, by those indices
pub lost_nodes : (ms : List ℕ) (c n : ℕ) → length ms ≡ n → lost (ons ms) (upto c n) ≡ missing c ms
unfolding ons lost missing upto
lost_nodes [] c n h = refl
lost_nodes (zero ∷ ms) c zero h = absurd (omega arith)
lost_nodes (zero ∷ ms) c (suc n) h = ap (◌∷◌ c) (lost_nodes ms (suc c) n (omega arith))
lost_nodes (suc m ∷ ms) c zero h = absurd (omega arith)
lost_nodes (suc m ∷ ms) c (suc n) h = lost_nodes ms (suc c) n (omega arith)

lost_from : (ms : List ℕ) (c : ℕ) (l : List ℕ) → c + length ms ≤ length l → lost (ons ms) (drop c l) ≡ map (λ j. get_or l j 0) (missing c ms)
unfolding ons lost missing
lost_from [] c l h = refl
lost_from (zero ∷ ms) c l h = ap (lost (false ∷ ons ms)) (drop-cons l c 0 (omega arith)) ∙ ap (◌∷◌ (get_or l c 0)) (lost_from ms (suc c) l (omega arith))
lost_from (suc m ∷ ms) c l h = ap (lost (true ∷ ons ms)) (drop-cons l c 0 (omega arith)) ∙ lost_from ms (suc c) l (omega arith)

pub lost-words : (ms l : List ℕ) → length l ≡ length ms → lost (ons ms) l ≡ map (λ j. get_or l j 0) (missing 0 ms)
lost-words ms l h = lost_from ms 0 l (omega arith)

-- ---- the field of the words

module _ (A : NatOps) (b : ℕ) (L : WordLaws A b) where
  abbrev pub Word : Type 0
  Word = (n : ℕ) × (n < b)

  pub word_path : (u v : Word) → u.0 ≡ v.0 → u ≡ v
  word_path u v e = Σ_prop_path (λ n. le_prop) e

  abbrev pub word_ops : Ops
  word_ops = record {
    F = Word;
    ◌⊕◌ = λ u v. (A.add u.0 v.0, L.add-lt u.0 v.0 u.1 v.1);
    ◌⊗◌ = λ u v. (A.mul u.0 v.0, L.mul-lt u.0 v.0 u.1 v.1);
    inv = λ u. (A.inv u.0, L.inv-lt u.0 u.1);
    O = (0, omega (arith, L.one-lt));
    I = (1, L.one-lt);
  }

  pub word_laws : Laws word_ops
  word_laws = record {
    add_assoc = λ u v w. word_path _ _ (L.add_assoc u.0 v.0 w.0 u.1 v.1 w.1);
    add_comm = λ u v. word_path _ _ (L.add_comm u.0 v.0 u.1 v.1);
    add-zero = λ u. word_path _ _ (L.add-zero u.0 u.1);
    add_self = λ u. word_path _ _ (L.add_self u.0 u.1);
    mul_assoc = λ u v w. word_path _ _ (L.mul_assoc u.0 v.0 w.0 u.1 v.1 w.1);
    mul_comm = λ u v. word_path _ _ (L.mul_comm u.0 v.0 u.1 v.1);
    mul-one = λ u. word_path _ _ (L.mul-one u.0 u.1);
    mul-zero = λ u. word_path _ _ (L.mul-zero u.0 u.1);
    mul-add = λ u v w. word_path _ _ (L.mul-add u.0 v.0 w.0 u.1 v.1 w.1);
    mul_inverse = λ u n. word_path _ _ (L.mul_inverse u.0 u.1 (λ e. n (word_path _ _ e)));
  }

  abbrev pub words : Field
  words = record { R = word_ops; laws = word_laws }

  zero_w : Word
  zero_w = word_ops.O

  -- ---- lists of words

  vals : List Word → List ℕ
  vals [] = []
  vals (u ∷ us) = u.0 ∷ vals us

  lifts : (l : List ℕ) → Below b l → List Word
  lifts [] h = []
  lifts (a ∷ l) h = (a, h 0 (omega arith)) ∷ lifts l (λ i m. h (suc i) (suc-le-suc m))

  vals_lifts : (l : List ℕ) (h : Below b l) → vals (lifts l h) ≡ l
  unfolding vals lifts
  vals_lifts [] h = refl
  vals_lifts (a ∷ l) h = ap (◌∷◌ a) (vals_lifts l (λ i m. h (suc i) (suc-le-suc m)))

  length_lifts : (l : List ℕ) (h : Below b l) → length (lifts l h) ≡ length l
  unfolding lifts
  length_lifts [] h = refl
  length_lifts (a ∷ l) h = ap suc (length_lifts l (λ i m. h (suc i) (suc-le-suc m)))

  length-vals : (us : List Word) → length (vals us) ≡ length us
  unfolding vals
  length-vals [] = refl
  length-vals (u ∷ us) = ap suc (length-vals us)

  get_or-vals : (us : List Word) (i : ℕ) (z : Word) → i < length us → get_or (vals us) i 0 ≡ (get_or us i z).0
  unfolding vals
  get_or-vals [] i z h = absurd (omega arith)
  get_or-vals (u ∷ us) zero z h = refl
  get_or-vals (u ∷ us) (suc i) z h = get_or-vals us i z (omega arith)

  below_vals : (us : List Word) → Below b (vals us)
  below_vals us i h =
      let m : i < length us = omega (arith, length-vals us) in
      rw (get_or-vals us i zero_w m) (get_or us i zero_w).1

  -- ---- the system over numbers: what holds of words holds of numbers below b

  dot-vals : (x : Word) (ys us : List Word) → (dot word_ops x ys us).0 ≡ dot (raw A) x.0 (vals ys) (vals us)
  unfolding vals dot
  dot-vals x [] us = refl
  dot-vals x (y ∷ ys) [] = refl
  dot-vals x (y ∷ ys) (u ∷ us) = ap (A.add (A.mul u.0 (A.inv (A.add x.0 y.0)))) (dot-vals x ys us)

  sums-vals : (xs ys us : List Word) → vals (sums word_ops xs ys us) ≡ sums (raw A) (vals xs) (vals ys) (vals us)
  unfolding vals sums
  sums-vals [] ys us = refl
  sums-vals (x ∷ xs) ys us = ap₂ ◌∷◌ (dot-vals x ys us) (sums-vals xs ys us)

  zeros-vals : (ys : List Word) → vals (zeros word_ops ys) ≡ zeros (raw A) (vals ys)
  unfolding vals zeros
  zeros-vals [] = refl
  zeros-vals (y ∷ ys) = ap (◌∷◌ 0) (zeros-vals ys)

  reduce-vals : (x₀ y₀ s₀ : Word) (xs ss : List Word) → vals (reduce word_ops x₀ y₀ s₀ xs ss) ≡ reduce (raw A) x₀.0 y₀.0 s₀.0 (vals xs) (vals ss)
  unfolding vals reduce
  reduce-vals x₀ y₀ s₀ [] ss = refl
  reduce-vals x₀ y₀ s₀ (x ∷ xs) [] = refl
  reduce-vals x₀ y₀ s₀ (x ∷ xs) (s ∷ ss) = ap₂ ◌∷◌ refl (reduce-vals x₀ y₀ s₀ xs ss)

  back-vals : (x₀ y₀ : Word) (ys us : List Word) → vals (back word_ops x₀ y₀ ys us) ≡ back (raw A) x₀.0 y₀.0 (vals ys) (vals us)
  unfolding vals back
  back-vals x₀ y₀ [] us = refl
  back-vals x₀ y₀ (y ∷ ys) [] = refl
  back-vals x₀ y₀ (y ∷ ys) (u ∷ us) = ap₂ ◌∷◌ refl (back-vals x₀ y₀ ys us)

  extend-vals : (x₀ y₀ s₀ : Word) (ys us : List Word) → vals (extend word_ops x₀ y₀ s₀ ys us) ≡ extend (raw A) x₀.0 y₀.0 s₀.0 (vals ys) (vals us)
  unfolding vals extend first
  extend-vals x₀ y₀ s₀ ys us = ap (λ (n : ℕ). A.mul (A.add x₀.0 y₀.0) (A.add s₀.0 n) ∷ vals us) (dot-vals x₀ ys us)

  solve-vals : (xs ys ss : List Word) → vals (solve word_ops xs ys ss) ≡ solve (raw A) (vals xs) (vals ys) (vals ss)
  unfolding vals solve
  solve-vals [] ys ss = zeros-vals ys
  solve-vals (x ∷ xs) [] ss = refl
  solve-vals (x ∷ xs) (y ∷ ys) [] = zeros-vals (y ∷ ys)
  solve-vals (x ∷ xs) (y ∷ ys) (s ∷ ss) =
      extend-vals x y s ys (back word_ops x y ys (solve word_ops xs ys (reduce word_ops x y s xs ss)))
      ∙ ap (extend (raw A) x.0 y.0 s.0 (vals ys))
      (back-vals x y ys (solve word_ops xs ys (reduce word_ops x y s xs ss))
      ∙ ap (back (raw A) x.0 y.0 (vals ys)) (solve-vals xs ys (reduce word_ops x y s xs ss) ∙ ap (solve (raw A) (vals xs) (vals ys)) (reduce-vals x y s xs ss)))

  apart_vals : (x : Word) (ys : List Word) → Apart x.0 (vals ys) → Apart x ys
  unfolding vals
  apart_vals x [] a = tt
  apart_vals x (y ∷ ys) a = ((λ e. a.0 (ap (λ (u : Word). u.0) e)), apart_vals x ys a.1)

  distinct_vals : (xs : List Word) → Distinct (vals xs) → Distinct xs
  unfolding vals
  distinct_vals [] a = tt
  distinct_vals (x ∷ xs) a = (apart_vals x xs a.0, distinct_vals xs a.1)

  cross_vals : (xs ys : List Word) → Cross (vals xs) (vals ys) → Cross xs ys
  unfolding vals
  cross_vals [] ys c = tt
  cross_vals (x ∷ xs) ys c = (apart_vals x ys c.0, cross_vals xs ys c.1)

  nodes_vals : (xs ys : List Word) → Nodes (vals xs) (vals ys) → Nodes xs ys
  nodes_vals xs ys n = record { rows = distinct_vals xs n.rows; cols = distinct_vals ys n.cols; apart = cross_vals xs ys n.apart }

  correct_vals : (xs ys ss : List Word) → Nodes (vals xs) (vals ys) → length (vals ss) ≡ length (vals xs) → length (vals xs) ≤ length (vals ys)
      → sums (raw A) (vals xs) (vals ys) (solve (raw A) (vals xs) (vals ys) (vals ss)) ≡ vals ss
  correct_vals xs ys ss n l m =
      ap (sums (raw A) (vals xs) (vals ys)) (sym (solve-vals xs ys ss)) ∙ sym (sums-vals xs ys (solve word_ops xs ys ss))
      ∙ ap vals (SystemLaws.solve_correct words xs ys ss (nodes_vals xs ys n) (omega (arith, length-vals xs, length-vals ss)) (omega (arith, length-vals xs, length-vals ys)))

  vals_inj : (us vs : List Word) → vals us ≡ vals vs → us ≡ vs
  unfolding vals
  vals_inj [] [] e = refl
  vals_inj [] (v ∷ vs) e = absurd (let z : ◌≡◌ {A = ℕ} 0 1 = cc in omega arith)
  vals_inj (u ∷ us) [] e = absurd (let z : ◌≡◌ {A = ℕ} 0 1 = cc in omega arith)
  vals_inj (u ∷ us) (v ∷ vs) e = ap₂ ◌∷◌ (word_path u v (cc)) (vals_inj us vs (cc))

  unique_vals : (xs ys ss us : List Word) → Nodes (vals xs) (vals ys) → length (vals us) ≡ length (vals ys) → length (vals ys) ≤ length (vals xs)
      → sums (raw A) (vals xs) (vals ys) (vals us) ≡ vals ss → vals us ≡ solve (raw A) (vals xs) (vals ys) (vals ss)
  unique_vals xs ys ss us n l m e =
      ap vals (SystemLaws.solve_unique words xs ys ss us (nodes_vals xs ys n) (omega (arith, length-vals us, length-vals ys)) (omega (arith, length-vals xs, length-vals ys))
      (vals_inj _ _ (sums-vals xs ys us ∙ e)))
      ∙ solve-vals xs ys ss

  pub solve_correct : (xs ys ss : List ℕ) → Below b xs → Below b ys → Below b ss → Nodes xs ys → length ss ≡ length xs → length xs ≤ length ys
      → sums (raw A) xs ys (solve (raw A) xs ys ss) ≡ ss
  solve_correct xs ys ss hx hy hs n l m = rw (vals_lifts xs hx, vals_lifts ys hy, vals_lifts ss hs) at (correct_vals (lifts xs hx) (lifts ys hy) (lifts ss hs)) n l m

  pub solve_unique : (xs ys ss ds : List ℕ) → Below b xs → Below b ys → Below b ss → Below b ds → Nodes xs ys → length ds ≡ length ys → length ys ≤ length xs
      → sums (raw A) xs ys ds ≡ ss → ds ≡ solve (raw A) xs ys ss
  solve_unique xs ys ss ds hx hy hs hd n l m e =
      (rw (vals_lifts xs hx, vals_lifts ys hy, vals_lifts ss hs, vals_lifts ds hd) at (unique_vals (lifts xs hx) (lifts ys hy) (lifts ss hs) (lifts ds hd))) n l m e

  -- ---- the decoder over numbers

  lost-vals : (bs : List Bool) (us : List Word) → vals (lost bs us) ≡ lost bs (vals us)
  unfolding vals lost
  lost-vals [] us = refl
  lost-vals (true ∷ bs) [] = refl
  lost-vals (true ∷ bs) (u ∷ us) = lost-vals bs us
  lost-vals (false ∷ bs) [] = refl
  lost-vals (false ∷ bs) (u ∷ us) = ap (◌∷◌ u.0) (lost-vals bs us)

  plus-vals : (us vs : List Word) → vals (plus word_ops us vs) ≡ plus (raw A) (vals us) (vals vs)
  unfolding vals plus
  plus-vals [] vs = refl
  plus-vals (u ∷ us) [] = refl
  plus-vals (u ∷ us) (v ∷ vs) = ap (◌∷◌ (A.add u.0 v.0)) (plus-vals us vs)

  blank-vals : (bs : List Bool) (us : List Word) → vals (blank zero_w bs us) ≡ blank 0 bs (vals us)
  unfolding vals blank zero_w
  blank-vals [] us = refl
  blank-vals (true ∷ bs) [] = refl
  blank-vals (true ∷ bs) (u ∷ us) = ap (◌∷◌ u.0) (blank-vals bs us)
  blank-vals (false ∷ bs) [] = refl
  blank-vals (false ∷ bs) (u ∷ us) = ap (◌∷◌ 0) (blank-vals bs us)

  recovered-vals : (xs ys us : List Word) (bs : List Bool) → Nodes (vals xs) (vals ys) → length (vals ys) ≡ length bs → length (vals us) ≡ length bs → length bs ≤ trues bs + length (vals xs)
      → lost bs (vals us) ≡ solve (raw A) (vals xs) (lost bs (vals ys)) (plus (raw A) (sums (raw A) (vals xs) (vals ys) (blank 0 bs (vals us))) (sums (raw A) (vals xs) (vals ys) (vals us)))
  unfolding zero_w
  recovered-vals xs ys us bs n h k m =
      sym (lost-vals bs us)
      ∙ ap vals (FieldCode.recover words xs ys us bs (nodes_vals xs ys n) (omega (arith, length-vals ys)) (omega (arith, length-vals us)) (omega (arith, length-vals xs)))
      ∙ solve-vals xs (lost bs ys) _
      ∙ ap₂ (solve (raw A) (vals xs)) (lost-vals bs ys)
      (plus-vals _ _ ∙ ap₂ (plus (raw A)) (sums-vals xs ys (blank zero_w bs us) ∙ ap (sums (raw A) (vals xs) (vals ys)) (blank-vals bs us)) (sums-vals xs ys us))

  pub recover_data : (xs ys ds : List ℕ) (bs : List Bool) → Below b xs → Below b ys → Below b ds → Nodes xs ys → length ys ≡ length bs → length ds ≡ length bs → length bs ≤ trues bs + length xs
      → lost bs ds ≡ solve (raw A) xs (lost bs ys) (plus (raw A) (sums (raw A) xs ys (blank 0 bs ds)) (sums (raw A) xs ys ds))
  recover_data xs ys ds bs hx hy hd n h k m = (rw (vals_lifts xs hx, vals_lifts ys hy, vals_lifts ds hd) at (recovered-vals (lifts xs hx) (lifts ys hy) (lifts ds hd) bs)) n h k m

  -- a recovery word is a sum of the system
  pub row-dot : (x c : ℕ) (ds : List ℕ) → x < b → c + length ds ≤ b → Below b ds → row_from A x c ds ≡ dot (raw A) x (upto c (length ds)) ds
  unfolding row_from dot upto
  row-dot x c [] hx h hd = refl
  row-dot x c (d ∷ ds) hx h hd =
      ap₂ A.add (L.mul_comm (A.inv (A.add x c)) d (L.inv-lt (A.add x c) (L.add-lt x c hx (omega arith))) (hd 0 (omega arith)))
      (row-dot x (suc c) ds hx (omega arith) (λ i m. hd (suc i) (suc-le-suc m)))

  -- ---- what a decoder does to one column
  --
  -- N data words ds, with marks ms; zs, what it holds of them, with 0 at each lost word; rows ks, no fewer than words are lost; ss, for each row the recovery word with the row of zs added.
  -- The solution of the system of these rows and the lost words' nodes is the lost words.
  pub record Column (M N : ℕ) (ms ds zs ks ss : List ℕ) : Type 0 where
    pub marks : length ms ≡ N
    pub size : length ds ≡ N
    pub small : Below b ds
    pub fits : M + N ≤ b
    pub held-size : length zs ≡ N
    pub held : (j : ℕ) → j < N → 0 < get_or ms j 0 → get_or zs j 0 ≡ get_or ds j 0
    pub lost-zero : (j : ℕ) → j < N → get_or ms j 0 ≡ 0 → get_or zs j 0 ≡ 0
    pub rows : (i : ℕ) → i < length ks → get_or ks i 0 < M
    pub ascend : Ascending ks
    pub enough : N ≤ count ms + length ks
    pub sides-size : length ss ≡ length ks
    pub sides : (i : ℕ) → i < length ks → get_or ss i 0 ≡ A.add (row_from A (get_or ks i 0) M zs) (row_from A (get_or ks i 0) M ds)

  pub recover : (M N : ℕ) (ms ds zs ks ss : List ℕ) → Column M N ms ds zs ks ss → solve (raw A) ks (missing M ms) ss ≡ map (λ j. get_or ds j 0) (missing 0 ms)
  recover M N ms ds zs ks ss c =
      ap₂ (solve (raw A) ks) (sym (lost_nodes ms M N c.marks)) sides_are
      ∙ sym (recover_data ks ys ds (ons ms) below_ks below_ys c.small (code_nodes ks M N c.rows c.ascend) (length-upto M N ∙ sym lb) (c.size ∙ sym lb) (omega (arith, count-trues ms, lb, c.enough)))
      ∙ lost-words ms ds (c.size ∙ sym c.marks)
    where
      ys : List ℕ
      ys = upto M N

      lb : length (ons ms) ≡ N
      lb = length-ons ms ∙ c.marks

      below_ks : Below b ks
      below_ks i m = omega (arith, c.rows i m, c.fits)

      below_ys : Below b (upto M N)
      below_ys i m = let m' : i < N = omega (arith, length-upto M N) in rw (get_or-upto M N i m') (omega (arith, c.fits))

      zs_is : zs ≡ blank 0 (ons ms) ds
      zs_is =
          blank_of 0 0 (ons ms) ds zs (c.size ∙ sym lb) (c.held-size ∙ sym lb) (λ i m q. c.held i (omega (arith, lb)) (on_held ms i q)) (λ i m q. c.lost-zero i (omega (arith, lb)) (off_unheld ms i q))

      below_zs : Below b zs
      below_zs i m = go (get_or ms i 0) refl
        where
          hi : i < N
          hi = omega (arith, c.held-size)

          go : (n : ℕ) → get_or ms i 0 ≡ n → get_or zs i 0 < b
          go zero e = rw (c.lost-zero i hi e) (omega (arith, L.one-lt))
          go (suc n) e = rw (c.held i hi (omega arith)) (c.small i (omega (arith, c.size)))

      row_is : (k : ℕ) (l : List ℕ) → k < M → length l ≡ N → Below b l → row_from A k M l ≡ dot (raw A) k (upto M N) l
      row_is k l hk e w = row-dot k M l (omega (arith, c.fits)) (omega (arith, c.fits)) w ∙ ap (λ (n : ℕ). dot (raw A) k (upto M n) l) e

      same_size : length (sums (raw A) ks (upto M N) ds) ≡ length (sums (raw A) ks (upto M N) (blank 0 (ons ms) ds))
      same_size = length-sums (raw A) ks (upto M N) ds ∙ sym (length-sums (raw A) ks (upto M N) (blank 0 (ons ms) ds))

      sides_are : ss ≡ plus (raw A) (sums (raw A) ks (upto M N) (blank 0 (ons ms) ds)) (sums (raw A) ks (upto M N) ds)
      sides_are =
          ext_get_or 0 ss (plus (raw A) (sums (raw A) ks (upto M N) (blank 0 (ons ms) ds)) (sums (raw A) ks (upto M N) ds))
          (c.sides-size ∙ sym (length-plus (raw A) (sums (raw A) ks (upto M N) (blank 0 (ons ms) ds)) (sums (raw A) ks (upto M N) ds) same_size ∙ length-sums (raw A) ks (upto M N) (blank 0 (ons ms) ds)))
          (λ i m.
          let hi : i < length ks = omega (arith, c.sides-size) in
          c.sides i hi
          ∙ ap₂ A.add
          (row_is (get_or ks i 0) zs (c.rows i hi) c.held-size below_zs ∙ ap (dot (raw A) (get_or ks i 0) (upto M N)) zs_is ∙ sym (get_or-sums (raw A) ks (upto M N) (blank 0 (ons ms) ds) i 0 hi))
          (row_is (get_or ks i 0) ds (c.rows i hi) c.size c.small ∙ sym (get_or-sums (raw A) ks (upto M N) ds i 0 hi))
          ∙ sym (get_or-plus (raw A) (sums (raw A) ks (upto M N) (blank 0 (ons ms) ds)) (sums (raw A) ks (upto M N) ds) i 0 (omega (arith, length-sums (raw A) ks (upto M N) (blank 0 (ons ms) ds))) same_size))

  -- ---- nodes

  -- (named, so that two mentions of a node are the same term: `omega` makes another proof in each place)
  here : (c n : ℕ) → c + suc n ≤ b → c < b
  here c n h = omega arith

  next : (c n : ℕ) → c + suc n ≤ b → suc c + n ≤ b
  next c n h = omega arith

  nodes : (c n : ℕ) → c + n ≤ b → List Word
  nodes c zero h = []
  nodes c (suc n) h = (c, here c n h) ∷ nodes (suc c) n (next c n h)

  length_nodes : (c n : ℕ) (h : c + n ≤ b) → length (nodes c n h) ≡ n
  unfolding nodes
  length_nodes c zero h = refl
  length_nodes c (suc n) h = ap suc (length_nodes (suc c) n (next c n h))

  get_or_nodes : (c n : ℕ) (h : c + n ≤ b) (k : ℕ) (z : Word) → k < n → (get_or (nodes c n h) k z).0 ≡ c + k
  unfolding nodes
  get_or_nodes c zero h k z m = absurd (omega arith)
  get_or_nodes c (suc n) h zero z m = sym (add-zero c)
  get_or_nodes c (suc n) h (suc k) z m = get_or_nodes (suc c) n (next c n h) k z (omega arith) ∙ omega arith

  apart_nodes : (x : Word) (c n : ℕ) (h : c + n ≤ b) → x.0 < c → Apart x (nodes c n h)
  unfolding nodes
  apart_nodes x c zero h m = tt
  apart_nodes x c (suc n) h m = ((λ e. let e₀ : x.0 ≡ c = ap (λ (u : Word). u.0) e in omega arith), apart_nodes x (suc c) n (next c n h) (omega arith))

  distinct_nodes : (c n : ℕ) (h : c + n ≤ b) → Distinct (nodes c n h)
  unfolding nodes
  distinct_nodes c zero h = tt
  distinct_nodes c (suc n) h = (apart_nodes (c, here c n h) (suc c) n (next c n h) (omega arith), distinct_nodes (suc c) n (next c n h))

  cross_nodes : (c m c' n : ℕ) (h : c + m ≤ b) (h' : c' + n ≤ b) → c + m ≤ c' → Cross (nodes c m h) (nodes c' n h')
  unfolding nodes
  cross_nodes c zero c' n h h' l = tt
  cross_nodes c (suc m) c' n h h' l = (apart_nodes (c, here c m h) c' n h' (omega arith), cross_nodes (suc c) m c' n (next c m h) h' (omega arith))

  -- ---- a row

  row_word : (x : Word) (c : ℕ) (us : List Word) (n : ℕ) (h : c + n ≤ b) → length us ≡ n → (dot word_ops x (nodes c n h) us).0 ≡ row_from A x.0 c (vals us)
  unfolding nodes dot row_from vals
  row_word x c [] zero h l = refl
  row_word x c [] (suc n) h l = absurd (omega arith)
  row_word x c (u ∷ us) zero h l = absurd (omega arith)
  row_word x c (u ∷ us) (suc n) h l =
      ap₂ A.add (L.mul_comm u.0 (A.inv (A.add x.0 c)) u.1 (L.inv-lt (A.add x.0 c) (L.add-lt x.0 c x.1 (here c n h))))
      (row_word x (suc c) us n (next c n h) (omega arith))

  kept-sums : (cs : List Bool) (xs ys us : List Word) → sums word_ops (kept cs xs) ys us ≡ kept cs (sums word_ops xs ys us)
  unfolding sums kept
  kept-sums [] xs ys us = refl
  kept-sums (true ∷ cs) [] ys us = refl
  kept-sums (true ∷ cs) (x ∷ xs) ys us = ap (◌∷◌ (dot word_ops x ys us)) (kept-sums cs xs ys us)
  kept-sums (false ∷ cs) [] ys us = refl
  kept-sums (false ∷ cs) (x ∷ xs) ys us = kept-sums cs xs ys us

  -- recovery word k, of words
  row_at : (M N : ℕ) (h : M + N ≤ b) (h₀ : 0 + M ≤ b) (us : List Word) (k : ℕ) (z : Word) → length us ≡ N → k < M
      → (get_or (sums word_ops (nodes 0 M h₀) (nodes M N h) us) k z).0 ≡ row_from A k M (vals us)
  row_at M N h h₀ us k z l m =
      ap (λ (u : Word). u.0) (get_or-sums word_ops (nodes 0 M h₀) (nodes M N h) us k z (omega (arith, length_nodes 0 M h₀)))
      ∙ row_word (get_or (nodes 0 M h₀) k z) M us N h l
      ∙ ap (λ (x : ℕ). row_from A x M (vals us)) (get_or_nodes 0 M h₀ k z m ∙ omega arith)

  -- ---- the code of words

  code_at : (M N : ℕ) (us : List Word) (i : ℕ) (z : Word) → length us ≡ N → i < N → code_word A M (vals us) i ≡ (get_or us i z).0
  code_at M N us i z l m = code_data A M (vals us) i (omega (arith, length-vals us)) ∙ get_or-vals us i z (omega arith)

  code_at-row : (M N : ℕ) (h : M + N ≤ b) (h₀ : 0 + M ≤ b) (us : List Word) (k : ℕ) (z : Word) → length us ≡ N → k < M
      → code_word A M (vals us) (N + k) ≡ (get_or (sums word_ops (nodes 0 M h₀) (nodes M N h) us) k z).0
  code_at-row M N h h₀ us k z l m =
      ap (λ (n : ℕ). code_word A M (vals us) (n + k)) (sym (length-vals us ∙ l)) ∙ code_row A M (vals us) k ∙ sym (row_at M N h h₀ us k z l m)

  module _ (M N : ℕ) (h : M + N ≤ b) (ms : List ℕ) (lm : length ms ≡ N + M) where
    h₀ : 0 + M ≤ b
    h₀ = omega arith

    abbrev rows_w : List Word
    rows_w = nodes 0 M h₀

    abbrev cols_w : List Word
    cols_w = nodes M N h

    abbrev bs : List Bool
    bs = ons (take N ms)

    abbrev cs : List Bool
    cs = ons (drop N ms)

    all_nodes : Nodes rows_w cols_w
    all_nodes = record { rows = distinct_nodes 0 M h₀; cols = distinct_nodes M N h; apart = cross_nodes 0 M M N h₀ h (omega arith) }

    lb : length bs ≡ N
    lb = length-ons (take N ms) ∙ length-take-le N ms (omega arith)

    lc : length cs ≡ M
    lc = length-ons (drop N ms) ∙ length-drop N ms ∙ omega arith

    data_of_agree : (us us' : List Word) → length us ≡ N → length us' ≡ N → Agree A M N ms (vals us) (vals us') → kept bs us ≡ kept bs us'
    data_of_agree us us' l l' a = kept_of_agree zero_w bs us us' (l ∙ sym lb) (l' ∙ sym lb) λ i m q.
        let m' : i < N = omega (arith, lb) in
        let q' : 0 < get_or ms i 0 = rw (get_or-take N ms i 0 m') at (on_held (take N ms) i q) in
        word_path _ _ (sym (code_at M N us i zero_w l m') ∙ a i (omega arith) q' ∙ code_at M N us' i zero_w l' m')

    length_rows : (us : List Word) → length (sums word_ops rows_w cols_w us) ≡ length cs
    length_rows us = length-sums word_ops rows_w cols_w us ∙ length_nodes 0 M h₀ ∙ sym lc

    rows_of_agree : (us us' : List Word) → length us ≡ N → length us' ≡ N → Agree A M N ms (vals us) (vals us')
        → sums word_ops (kept cs rows_w) cols_w us ≡ sums word_ops (kept cs rows_w) cols_w us'
    rows_of_agree us us' l l' a = kept-sums cs rows_w cols_w us ∙ kept_of_agree zero_w cs _ _ (length_rows us) (length_rows us') f ∙ sym (kept-sums cs rows_w cols_w us')
      where
        f : (k : ℕ) → k < length cs → get_or cs k false ≡ true → get_or (sums word_ops rows_w cols_w us) k zero_w ≡ get_or (sums word_ops rows_w cols_w us') k zero_w
        f k m q =
            let m' : k < M = omega (arith, lc) in
            let q' : 0 < get_or ms (N + k) 0 = rw (get_or-drop N ms k 0) at (on_held (drop N ms) k q) in
            word_path _ _ (sym (code_at-row M N h h₀ us k zero_w l m') ∙ a (N + k) (omega arith) q' ∙ code_at-row M N h h₀ us' k zero_w l' m')

    known_words : (us us' : List Word) → length us ≡ N → length us' ≡ N → N ≤ count ms → Agree A M N ms (vals us) (vals us') → us ≡ us'
    known_words us us' l l' c a =
        FieldCode.known words rows_w cols_w us us' bs cs all_nodes (length_nodes M N h ∙ sym lb) (length_nodes 0 M h₀ ∙ sym lc) (l ∙ sym lb) (l' ∙ sym lb)
        (omega (arith, count_split N ms, lb)) (data_of_agree us us' l l' a) (rows_of_agree us us' l l' a)

    -- at least N words are held: they determine the data
    pub known : (ds ds' : List ℕ) → length ds ≡ N → length ds' ≡ N → Below b ds → Below b ds' → N ≤ count ms → Agree A M N ms ds ds' → ds ≡ ds'
    known ds ds' l l' w w' c a =
        sym (vals_lifts ds w)
        ∙ ap vals (known_words (lifts ds w) (lifts ds' w') (length_lifts ds w ∙ l) (length_lifts ds' w' ∙ l') c (rw (vals_lifts ds w, vals_lifts ds' w') a))
        ∙ vals_lifts ds' w'

    -- at most N words are held: some data have them
    pub record FitAt (ws ds : List ℕ) : Type 0 where
      pub size : length ds ≡ N
      pub below : Below b ds
      pub fits : Fits A M N ms ws ds

    pub some : (ws : List ℕ) → length ws ≡ N + M → Below b ws → count ms ≤ N → (ds : List ℕ) × FitAt ws ds
    some ws l w c = (vals us, record { size = length-vals us ∙ lu; below = below_vals us; fits = λ i m q. fit i m q (dec_lt i N) })
      where
        l₁ : length (take N ws) ≡ N
        l₁ = length-take-le N ws (omega arith)

        l₂ : length (drop N ws) ≡ M
        l₂ = length-drop N ws ∙ omega arith

        w₁ : Below b (take N ws)
        w₁ i m = let m' : i < N = omega (arith, l₁) in rw (get_or-take N ws i 0 m') (w i (omega arith))

        w₂ : Below b (drop N ws)
        w₂ i m = rw (get_or-drop N ws i 0) (w (N + i) (omega (arith, l₂)))

        front : List Word
        front = lifts (take N ws) w₁

        rear : List Word
        rear = lifts (drop N ws) w₂

        lf : length front ≡ length bs
        lf = length_lifts (take N ws) w₁ ∙ l₁ ∙ sym lb

        lr : length rear ≡ length cs
        lr = length_lifts (drop N ws) w₂ ∙ l₂ ∙ sym lc

        us : List Word
        us = decode word_ops (kept cs rows_w) cols_w bs (kept bs front) (kept cs rear)

        d : Decoded words (kept cs rows_w) cols_w bs (kept bs front) (kept cs rear) us
        d =
            FieldCode.decode-fits words (kept cs rows_w) cols_w (kept bs front) (kept cs rear) bs (nodes_kept words cs rows_w cols_w all_nodes)
            (length_nodes M N h ∙ sym lb) (length-kept bs front lf) (length-kept cs rear lr ∙ sym (length-kept cs rows_w (length_nodes 0 M h₀ ∙ sym lc)))
            (omega (arith, count_split N ms, lb, length-kept cs rows_w (length_nodes 0 M h₀ ∙ sym lc)))

        lu : length us ≡ N
        lu = d.size ∙ length_nodes M N h

        at_data : (i : ℕ) → i < N → 0 < get_or ms i 0 → code_word A M (vals us) i ≡ get_or ws i 0
        at_data i m q =
            code_at M N us i zero_w lu m
            ∙ ap (λ (u : Word). u.0) (agree_of_kept zero_w bs us front (lu ∙ sym lb) lf d.data_held i (omega (arith, lb)) (held_on (take N ms) i (rw (get_or-take N ms i 0 m) q)))
            ∙ sym (get_or-vals front i zero_w (omega (arith, lf, lb)))
            ∙ ap (λ (x : List ℕ). get_or x i 0) (vals_lifts (take N ws) w₁) ∙ get_or-take N ws i 0 m

        at_row : (k : ℕ) → k < M → 0 < get_or ms (N + k) 0 → code_word A M (vals us) (N + k) ≡ get_or ws (N + k) 0
        at_row k m q =
            code_at-row M N h h₀ us k zero_w lu m
            ∙ ap (λ (u : Word). u.0)
            (agree_of_kept zero_w cs (sums word_ops rows_w cols_w us) rear (length_rows us) lr (sym (kept-sums cs rows_w cols_w us) ∙ d.rows_held) k (omega (arith, lc))
            (held_on (drop N ms) k (rw (get_or-drop N ms k 0) q)))
            ∙ sym (get_or-vals rear k zero_w (omega (arith, lr, lc)))
            ∙ ap (λ (x : List ℕ). get_or x k 0) (vals_lifts (drop N ws) w₂) ∙ get_or-drop N ws k 0

        fit : (i : ℕ) → i < N + M → 0 < get_or ms i 0 → Dec (i < N) → code_word A M (vals us) i ≡ get_or ws i 0
        fit i m q (yes y) = at_data i y q
        fit i m q (no n) = let e : i ≡ N + (i - N) = omega arith in rw e (at_row (i - N) (omega arith) (rw e at q))
