-- `solve` solves the system, and nothing else does: one row and one column less at a time. Assumes nothing.
use mathlib.Core.Path.{◌≡◌, refl, sym, ◌∙◌, ap, ap₂, ◌≡⟨◌⟩◌, ◌∎}
use mathlib.Core.Logic.{◌≢◌}
use mathlib.Core.List.{List, [], ◌∷◌}
use Prim.Native.Nat.{ℕ, zero, suc, ◌≤◌, ◌<◌}
use native.Mathlib.Omega.{arith}
use lib.ListN.{length, get_or}
use Rattle.cauchy.specs.inner.System.{Ops, dot, zeros, reduce, back, first, extend, solve}
use Rattle.cauchy.specs.inner.Promises.{Apart, Cross, Nodes, forward, backward}
use Rattle.cauchy.proofs.algebra.Field.{Field, adds, muls, assoc, self, mulassoc, mulcomm, mul_I, dist, mul-inv, O_add, left_comm, add_ne, mul_left_comm}

module _ {A : Type 0} where
  cross_tail : (xs ys : List A) (y : A) → Cross xs (y ∷ ys) → Cross xs ys
  cross_tail [] ys y c = tt
  cross_tail (x ∷ xs) ys y c = (c.0.1, cross_tail xs ys y c.1)

module _ (R : Ops) where
  open R use {F, ◌⊕◌, ◌⊗◌, inv, O, I}

  infixl 65 ◌⊕◌
  infixl 70 ◌⊗◌
  unfoldable pub sums : List F → List F → List F → List F
  sums [] ys ds = []
  sums (x ∷ xs) ys ds = dot R x ys ds ∷ sums xs ys ds

  -- the unknowns of the smaller system, from those of the larger
  unfoldable pub fwd : F → F → List F → List F → List F
  fwd x₀ y₀ [] ds = []
  fwd x₀ y₀ (y ∷ ys) [] = []
  fwd x₀ y₀ (y ∷ ys) (d ∷ ds) = d ⊗ ((y₀ ⊕ y) ⊗ inv (x₀ ⊕ y)) ∷ fwd x₀ y₀ ys ds

  -- ---- lengths

  pub length-zeros : (ys : List F) → length (zeros R ys) ≡ length ys
  unfolding zeros
  length-zeros [] = refl
  length-zeros (y ∷ ys) = ap suc (length-zeros ys)

  pub length_back : (x₀ y₀ : F) (ys ds : List F) → length ds ≡ length ys → length (back R x₀ y₀ ys ds) ≡ length ys
  unfolding back
  length_back x₀ y₀ [] ds h = refl
  length_back x₀ y₀ (y ∷ ys) [] h = absurd (omega arith)
  length_back x₀ y₀ (y ∷ ys) (d ∷ ds) h = ap suc (length_back x₀ y₀ ys ds (omega arith))

  pub length-fwd : (x₀ y₀ : F) (ys ds : List F) → length ds ≡ length ys → length (fwd x₀ y₀ ys ds) ≡ length ys
  unfolding fwd
  length-fwd x₀ y₀ [] ds h = refl
  length-fwd x₀ y₀ (y ∷ ys) [] h = absurd (omega arith)
  length-fwd x₀ y₀ (y ∷ ys) (d ∷ ds) h = ap suc (length-fwd x₀ y₀ ys ds (omega arith))

  pub length-reduce : (x₀ y₀ s₀ : F) (xs ss : List F) → length ss ≡ length xs → length (reduce R x₀ y₀ s₀ xs ss) ≡ length xs
  unfolding reduce
  length-reduce x₀ y₀ s₀ [] ss h = refl
  length-reduce x₀ y₀ s₀ (x ∷ xs) [] h = absurd (omega arith)
  length-reduce x₀ y₀ s₀ (x ∷ xs) (s ∷ ss) h = ap suc (length-reduce x₀ y₀ s₀ xs ss (omega arith))

  pub length-solve : (xs ys ss : List F) → length (solve R xs ys ss) ≡ length ys
  unfolding solve extend
  length-solve [] ys ss = length-zeros ys
  length-solve (x ∷ xs) [] ss = refl
  length-solve (x ∷ xs) (y ∷ ys) [] = length-zeros (y ∷ ys)
  length-solve (x ∷ xs) (y ∷ ys) (s ∷ ss) = ap suc (length_back x y ys _ (length-solve xs ys (reduce R x y s xs ss)))

  pub solve-passes : (xs ys ss : List F) → solve R xs ys ss ≡ backward R xs ys (forward R xs ys ss)
  unfolding solve forward backward
  solve-passes [] ys ss = refl
  solve-passes (x ∷ xs) [] ss = refl
  solve-passes (x ∷ xs) (y ∷ ys) [] = refl
  solve-passes (x ∷ xs) (y ∷ ys) (s ∷ ss) = ap (λ (l : List F). extend R x y s ys (back R x y ys l)) (solve-passes xs ys (reduce R x y s xs ss))

  -- an element at a time
  pub get_or-reduce : (x₀ y₀ s₀ : F) (xs ss : List F) (i : ℕ) (z : F) → i < length xs → length ss ≡ length xs
      → get_or (reduce R x₀ y₀ s₀ xs ss) i z ≡ ((get_or xs i z ⊕ y₀) ⊗ get_or ss i z ⊕ (x₀ ⊕ y₀) ⊗ s₀) ⊗ inv (x₀ ⊕ get_or xs i z)
  unfolding reduce
  get_or-reduce x₀ y₀ s₀ [] ss i z h l = absurd (omega arith)
  get_or-reduce x₀ y₀ s₀ (x ∷ xs) [] i z h l = absurd (omega arith)
  get_or-reduce x₀ y₀ s₀ (x ∷ xs) (s ∷ ss) zero z h l = refl
  get_or-reduce x₀ y₀ s₀ (x ∷ xs) (s ∷ ss) (suc i) z h l = get_or-reduce x₀ y₀ s₀ xs ss i z (omega arith) (omega arith)

  pub get_or-back : (x₀ y₀ : F) (ys ds : List F) (i : ℕ) (z : F) → i < length ys → length ds ≡ length ys
      → get_or (back R x₀ y₀ ys ds) i z ≡ get_or ds i z ⊗ ((x₀ ⊕ get_or ys i z) ⊗ inv (y₀ ⊕ get_or ys i z))
  unfolding back
  get_or-back x₀ y₀ [] ds i z h l = absurd (omega arith)
  get_or-back x₀ y₀ (y ∷ ys) [] i z h l = absurd (omega arith)
  get_or-back x₀ y₀ (y ∷ ys) (d ∷ ds) zero z h l = refl
  get_or-back x₀ y₀ (y ∷ ys) (d ∷ ds) (suc i) z h l = get_or-back x₀ y₀ ys ds i z (omega arith) (omega arith)

module _ (K : Field) where
  open K use {R}
  open R use {F, ◌⊕◌, ◌⊗◌, inv, O, I}

  infixl 65 ◌⊕◌
  infixl 70 ◌⊗◌
  -- ---- one term

  term : (x x₀ y y₀ d A B : F) → (x ⊕ y) ⊗ A ≡ I → (x₀ ⊕ y) ⊗ B ≡ I
      → (x ⊕ y₀) ⊗ (d ⊗ A) ⊕ (x₀ ⊕ y₀) ⊗ (d ⊗ B) ≡ (x₀ ⊕ x) ⊗ (d ⊗ ((y₀ ⊕ y) ⊗ B) ⊗ A)
  term x x₀ y y₀ d A B hA hB =
      (x ⊕ y₀) ⊗ (d ⊗ A) ⊕ (x₀ ⊕ y₀) ⊗ (d ⊗ B)
      ≡⟨ sym (ap₂ (λ (p q : F). (x ⊕ y₀) ⊗ (d ⊗ A) ⊗ p ⊕ (x₀ ⊕ y₀) ⊗ (d ⊗ B) ⊗ q) hB hA ∙ simp (mul_I)) ⟩
      (x ⊕ y₀) ⊗ (d ⊗ A) ⊗ ((x₀ ⊕ y) ⊗ B) ⊕ (x₀ ⊕ y₀) ⊗ (d ⊗ B) ⊗ ((x ⊕ y) ⊗ A)
      ≡⟨ (simp (adds, muls)) ⟩
      (x₀ ⊕ x) ⊗ (d ⊗ ((y₀ ⊕ y) ⊗ B) ⊗ A) ∎

  -- ---- the step: rows x and x₀, each times its distance to y₀, added

  -- (`simp` with commutativity sorts by the variables' order, so it stands in no recursive clause)
  regroup : (a b u v z w : F) → a ⊗ (u ⊕ z) ⊕ b ⊗ (v ⊕ w) ≡ (a ⊗ u ⊕ b ⊗ v) ⊕ (a ⊗ z ⊕ b ⊗ w)
  regroup a b u v z w = simp (dist, assoc, left_comm)

  step : (x x₀ y₀ : F) (ys ds : List F) → Apart x ys → Apart x₀ ys
      → (x ⊕ y₀) ⊗ dot R x ys ds ⊕ (x₀ ⊕ y₀) ⊗ dot R x₀ ys ds ≡ (x₀ ⊕ x) ⊗ dot R x ys (fwd R x₀ y₀ ys ds)
  unfolding dot fwd
  step x x₀ y₀ [] ds a b = simp (adds, muls)
  step x x₀ y₀ (y ∷ ys) [] a b = simp (adds, muls)
  step x x₀ y₀ (y ∷ ys) (d ∷ ds) a b =
      (x ⊕ y₀) ⊗ (d ⊗ inv (x ⊕ y) ⊕ dot R x ys ds) ⊕ (x₀ ⊕ y₀) ⊗ (d ⊗ inv (x₀ ⊕ y) ⊕ dot R x₀ ys ds)
      ≡⟨ regroup (x ⊕ y₀) (x₀ ⊕ y₀) (d ⊗ inv (x ⊕ y)) (d ⊗ inv (x₀ ⊕ y)) (dot R x ys ds) (dot R x₀ ys ds) ⟩
      ((x ⊕ y₀) ⊗ (d ⊗ inv (x ⊕ y)) ⊕ (x₀ ⊕ y₀) ⊗ (d ⊗ inv (x₀ ⊕ y))) ⊕ ((x ⊕ y₀) ⊗ dot R x ys ds ⊕ (x₀ ⊕ y₀) ⊗ dot R x₀ ys ds)
      ≡⟨ ap₂ ◌⊕◌ (term x x₀ y y₀ d (inv (x ⊕ y)) (inv (x₀ ⊕ y)) (mul-inv K (x ⊕ y) (add_ne K x y a.0)) (mul-inv K (x₀ ⊕ y) (add_ne K x₀ y b.0))) (step x x₀ y₀ ys ds a.1 b.1) ⟩
      (x₀ ⊕ x) ⊗ (d ⊗ ((y₀ ⊕ y) ⊗ inv (x₀ ⊕ y)) ⊗ inv (x ⊕ y)) ⊕ (x₀ ⊕ x) ⊗ dot R x ys (fwd R x₀ y₀ ys ds)
      ≡⟨ sym (dist K (x₀ ⊕ x) (d ⊗ ((y₀ ⊕ y) ⊗ inv (x₀ ⊕ y)) ⊗ inv (x ⊕ y)) (dot R x ys (fwd R x₀ y₀ ys ds))) ⟩
      (x₀ ⊕ x) ⊗ (d ⊗ ((y₀ ⊕ y) ⊗ inv (x₀ ⊕ y)) ⊗ inv (x ⊕ y) ⊕ dot R x ys (fwd R x₀ y₀ ys ds)) ∎

  -- a factor and its inverse
  undo : (a d : F) → a ≢ O → a ⊗ (d ⊗ inv a) ≡ d
  undo a d n = mul_left_comm K a d (inv a) ∙ ap (λ (z : F). d ⊗ z) (mul-inv K a n) ∙ mul_I K d

  undo' : (a d : F) → a ≢ O → (a ⊗ d) ⊗ inv a ≡ d
  undo' a d n = mulassoc K a d (inv a) ∙ undo a d n

  cancel : (a b c : F) → a ≢ O → a ⊗ b ≡ a ⊗ c → b ≡ c
  cancel a b c n h = sym (undo' a b n) ∙ ap (λ (z : F). z ⊗ inv a) h ∙ undo' a c n

  there_and_back : (p q d : F) → p ≢ O → q ≢ O → d ⊗ (p ⊗ inv q) ⊗ (q ⊗ inv p) ≡ d
  there_and_back p q d np nq =
      d ⊗ (p ⊗ inv q) ⊗ (q ⊗ inv p)
      ≡⟨ (simp (mulassoc, mul_left_comm, mulcomm)) ⟩
      d ⊗ ((p ⊗ inv p) ⊗ (q ⊗ inv q))
      ≡⟨ ap₂ (λ (u v : F). d ⊗ (u ⊗ v)) (mul-inv K p np) (mul-inv K q nq) ⟩
      d ⊗ (I ⊗ I)
      ≡⟨ (simp (mul_I)) ⟩
      d ∎

  fwd-back : (x₀ y₀ : F) (ys ds : List F) → Apart x₀ ys → Apart y₀ ys → length ds ≡ length ys → fwd R x₀ y₀ ys (back R x₀ y₀ ys ds) ≡ ds
  unfolding fwd back
  fwd-back x₀ y₀ [] [] a b h = refl
  fwd-back x₀ y₀ [] (d ∷ ds) a b h = absurd (omega arith)
  fwd-back x₀ y₀ (y ∷ ys) [] a b h = absurd (omega arith)
  fwd-back x₀ y₀ (y ∷ ys) (d ∷ ds) a b h = ap₂ ◌∷◌ (there_and_back (x₀ ⊕ y) (y₀ ⊕ y) d (add_ne K x₀ y a.0) (add_ne K y₀ y b.0)) (fwd-back x₀ y₀ ys ds a.1 b.1 (omega arith))

  back-fwd : (x₀ y₀ : F) (ys ds : List F) → Apart x₀ ys → Apart y₀ ys → length ds ≡ length ys → back R x₀ y₀ ys (fwd R x₀ y₀ ys ds) ≡ ds
  unfolding fwd back
  back-fwd x₀ y₀ [] [] a b h = refl
  back-fwd x₀ y₀ [] (d ∷ ds) a b h = absurd (omega arith)
  back-fwd x₀ y₀ (y ∷ ys) [] a b h = absurd (omega arith)
  back-fwd x₀ y₀ (y ∷ ys) (d ∷ ds) a b h = ap₂ ◌∷◌ (there_and_back (y₀ ⊕ y) (x₀ ⊕ y) d (add_ne K y₀ y b.0) (add_ne K x₀ y a.0)) (back-fwd x₀ y₀ ys ds a.1 b.1 (omega arith))

  -- ---- the row that is eliminated

  row_first : (x₀ y₀ s₀ : F) (ys ds : List F) → x₀ ≢ y₀ → dot R x₀ (y₀ ∷ ys) (extend R x₀ y₀ s₀ ys ds) ≡ s₀
  unfolding dot extend first
  row_first x₀ y₀ s₀ ys ds n =
      (x₀ ⊕ y₀) ⊗ (s₀ ⊕ dot R x₀ ys ds) ⊗ inv (x₀ ⊕ y₀) ⊕ dot R x₀ ys ds
      ≡⟨ ap (λ (z : F). z ⊕ dot R x₀ ys ds) (undo' (x₀ ⊕ y₀) (s₀ ⊕ dot R x₀ ys ds) (add_ne K x₀ y₀ n)) ⟩
      s₀ ⊕ dot R x₀ ys ds ⊕ dot R x₀ ys ds
      ≡⟨ (simp adds) ⟩
      s₀ ∎

  first_unique : (x₀ y₀ s₀ d₀ : F) (ys ds : List F) → x₀ ≢ y₀ → dot R x₀ (y₀ ∷ ys) (d₀ ∷ ds) ≡ s₀ → d₀ ≡ first R x₀ y₀ s₀ ys ds
  unfolding dot first
  first_unique x₀ y₀ s₀ d₀ ys ds n h =
      d₀
      ≡⟨ sym (undo (x₀ ⊕ y₀) d₀ (add_ne K x₀ y₀ n)) ⟩
      (x₀ ⊕ y₀) ⊗ (d₀ ⊗ inv (x₀ ⊕ y₀))
      ≡⟨ ap (λ (z : F). (x₀ ⊕ y₀) ⊗ z) (simp adds) ⟩
      (x₀ ⊕ y₀) ⊗ (d₀ ⊗ inv (x₀ ⊕ y₀) ⊕ dot R x₀ ys ds ⊕ dot R x₀ ys ds)
      ≡⟨ ap (λ (z : F). (x₀ ⊕ y₀) ⊗ (z ⊕ dot R x₀ ys ds)) h ⟩
      (x₀ ⊕ y₀) ⊗ (s₀ ⊕ dot R x₀ ys ds) ∎

  -- ---- a row that stays

  -- what the step says of a row of the larger system
  row_step : (x x₀ y₀ d₀ : F) (ys ds : List F) → x ≢ y₀ → x₀ ≢ y₀ → Apart x ys → Apart x₀ ys
      → (x ⊕ y₀) ⊗ dot R x (y₀ ∷ ys) (d₀ ∷ ds) ⊕ (x₀ ⊕ y₀) ⊗ dot R x₀ (y₀ ∷ ys) (d₀ ∷ ds) ≡ (x₀ ⊕ x) ⊗ dot R x ys (fwd R x₀ y₀ ys ds)
  unfolding dot
  row_step x x₀ y₀ d₀ ys ds n n₀ a a₀ =
      (x ⊕ y₀) ⊗ (d₀ ⊗ inv (x ⊕ y₀) ⊕ dot R x ys ds) ⊕ (x₀ ⊕ y₀) ⊗ (d₀ ⊗ inv (x₀ ⊕ y₀) ⊕ dot R x₀ ys ds)
      ≡⟨ regroup (x ⊕ y₀) (x₀ ⊕ y₀) (d₀ ⊗ inv (x ⊕ y₀)) (d₀ ⊗ inv (x₀ ⊕ y₀)) (dot R x ys ds) (dot R x₀ ys ds) ⟩
      ((x ⊕ y₀) ⊗ (d₀ ⊗ inv (x ⊕ y₀)) ⊕ (x₀ ⊕ y₀) ⊗ (d₀ ⊗ inv (x₀ ⊕ y₀))) ⊕ ((x ⊕ y₀) ⊗ dot R x ys ds ⊕ (x₀ ⊕ y₀) ⊗ dot R x₀ ys ds)
      ≡⟨ ap₂ ◌⊕◌ (ap₂ ◌⊕◌ (undo (x ⊕ y₀) d₀ (add_ne K x y₀ n)) (undo (x₀ ⊕ y₀) d₀ (add_ne K x₀ y₀ n₀)) ∙ self K d₀) (step x x₀ y₀ ys ds a a₀) ⟩
      O ⊕ (x₀ ⊕ x) ⊗ dot R x ys (fwd R x₀ y₀ ys ds)
      ≡⟨ O_add K ((x₀ ⊕ x) ⊗ dot R x ys (fwd R x₀ y₀ ys ds)) ⟩
      (x₀ ⊕ x) ⊗ dot R x ys (fwd R x₀ y₀ ys ds) ∎

  -- down: a row of the larger system gives the row of the smaller
  row_down : (x x₀ y₀ s s₀ z : F) → x₀ ≢ x → (x ⊕ y₀) ⊗ s ⊕ (x₀ ⊕ y₀) ⊗ s₀ ≡ (x₀ ⊕ x) ⊗ z → z ≡ ((x ⊕ y₀) ⊗ s ⊕ (x₀ ⊕ y₀) ⊗ s₀) ⊗ inv (x₀ ⊕ x)
  row_down x x₀ y₀ s s₀ z n h = sym (undo' (x₀ ⊕ x) z (add_ne K x₀ x n)) ∙ ap (λ (t : F). t ⊗ inv (x₀ ⊕ x)) (sym h)

  -- up: from the row of the smaller system, that of the larger
  row_up : (x x₀ y₀ s s₀ r z : F) → x₀ ≢ x → x ≢ y₀ → z ≡ ((x ⊕ y₀) ⊗ s ⊕ (x₀ ⊕ y₀) ⊗ s₀) ⊗ inv (x₀ ⊕ x)
      → (x ⊕ y₀) ⊗ r ⊕ (x₀ ⊕ y₀) ⊗ s₀ ≡ (x₀ ⊕ x) ⊗ z → r ≡ s
  row_up x x₀ y₀ s s₀ r z n m e h = cancel (x ⊕ y₀) r s (add_ne K x y₀ m) (add_cancel ((x₀ ⊕ y₀) ⊗ s₀) _ _ (h ∙ ap (λ (t : F). (x₀ ⊕ x) ⊗ t) e ∙ undo (x₀ ⊕ x) _ (add_ne K x₀ x n)))
    where
      add_cancel : (c a b : F) → a ⊕ c ≡ b ⊕ c → a ≡ b
      add_cancel c a b h = twice' a ∙ ap (λ (t : F). t ⊕ c) h ∙ sym (twice' b)
        where
          twice' : (a : F) → a ≡ a ⊕ c ⊕ c
          twice' a = simp adds

  rows_down : (x₀ y₀ s₀ d₀ : F) (ys ds xs ss : List F) → x₀ ≢ y₀ → Apart x₀ ys → Apart x₀ xs → Cross xs (y₀ ∷ ys)
      → dot R x₀ (y₀ ∷ ys) (d₀ ∷ ds) ≡ s₀ → sums R xs (y₀ ∷ ys) (d₀ ∷ ds) ≡ ss → sums R xs ys (fwd R x₀ y₀ ys ds) ≡ reduce R x₀ y₀ s₀ xs ss
  unfolding sums reduce
  rows_down x₀ y₀ s₀ d₀ ys ds [] ss n a b c h e = refl
  rows_down x₀ y₀ s₀ d₀ ys ds (x ∷ xs) [] n a b c h e = absurd (let z : ◌≡◌ {A = ℕ} 0 1 = cc in omega arith)
  rows_down x₀ y₀ s₀ d₀ ys ds (x ∷ xs) (s ∷ ss) n a b c h e =
      let e₀ : dot R x (y₀ ∷ ys) (d₀ ∷ ds) ≡ s = cc in
      let e₁ : sums R xs (y₀ ∷ ys) (d₀ ∷ ds) ≡ ss = cc in
      ap₂ ◌∷◌
      (row_down x x₀ y₀ s s₀ (dot R x ys (fwd R x₀ y₀ ys ds)) b.0
      (ap₂ (λ (u v : F). (x ⊕ y₀) ⊗ u ⊕ (x₀ ⊕ y₀) ⊗ v) (sym e₀) (sym h) ∙ row_step x x₀ y₀ d₀ ys ds c.0.0 n c.0.1 a))
      (rows_down x₀ y₀ s₀ d₀ ys ds xs ss n a b.1 c.1 h e₁)

  rows_up : (x₀ y₀ s₀ d₀ : F) (ys ds xs ss : List F) → x₀ ≢ y₀ → Apart x₀ ys → Apart x₀ xs → Cross xs (y₀ ∷ ys) → length ss ≡ length xs
      → dot R x₀ (y₀ ∷ ys) (d₀ ∷ ds) ≡ s₀ → sums R xs ys (fwd R x₀ y₀ ys ds) ≡ reduce R x₀ y₀ s₀ xs ss → sums R xs (y₀ ∷ ys) (d₀ ∷ ds) ≡ ss
  unfolding sums reduce
  rows_up x₀ y₀ s₀ d₀ ys ds [] [] n a b c l h e = refl
  rows_up x₀ y₀ s₀ d₀ ys ds [] (s ∷ ss) n a b c l h e = absurd (omega arith)
  rows_up x₀ y₀ s₀ d₀ ys ds (x ∷ xs) [] n a b c l h e = absurd (omega arith)
  rows_up x₀ y₀ s₀ d₀ ys ds (x ∷ xs) (s ∷ ss) n a b c l h e =
      let e₀ : dot R x ys (fwd R x₀ y₀ ys ds) ≡ ((x ⊕ y₀) ⊗ s ⊕ (x₀ ⊕ y₀) ⊗ s₀) ⊗ inv (x₀ ⊕ x) = cc in
      let e₁ : sums R xs ys (fwd R x₀ y₀ ys ds) ≡ reduce R x₀ y₀ s₀ xs ss = cc in
      ap₂ ◌∷◌
      (row_up x x₀ y₀ s s₀ (dot R x (y₀ ∷ ys) (d₀ ∷ ds)) (dot R x ys (fwd R x₀ y₀ ys ds)) b.0 c.0.0 e₀
      (ap (λ (v : F). (x ⊕ y₀) ⊗ dot R x (y₀ ∷ ys) (d₀ ∷ ds) ⊕ (x₀ ⊕ y₀) ⊗ v) (sym h) ∙ row_step x x₀ y₀ d₀ ys ds c.0.0 n c.0.1 a))
      (rows_up x₀ y₀ s₀ d₀ ys ds xs ss n a b.1 c.1 (omega arith) h e₁)

  -- ---- the theorems

  fewer : (x y : F) (xs ys : List F) → Nodes (x ∷ xs) (y ∷ ys) → Nodes xs ys
  fewer x y xs ys n = record { rows = n.rows.1; cols = n.cols.1; apart = cross_tail xs ys y n.apart.1 }

  -- the solution's sums are the right sides: no more rows than columns
  pub solve_correct : (xs ys ss : List F) → Nodes xs ys → length ss ≡ length xs → length xs ≤ length ys → sums R xs ys (solve R xs ys ss) ≡ ss
  unfolding solve sums extend
  solve_correct [] ys [] n l m = refl
  solve_correct [] ys (s ∷ ss) n l m = absurd (omega arith)
  solve_correct (x ∷ xs) [] ss n l m = absurd (omega arith)
  solve_correct (x ∷ xs) (y ∷ ys) [] n l m = absurd (omega arith)
  solve_correct (x ∷ xs) (y ∷ ys) (s ∷ ss) n l m =
      let es : List F = solve R xs ys (reduce R x y s xs ss) in
      let ih : sums R xs ys es ≡ reduce R x y s xs ss = solve_correct xs ys (reduce R x y s xs ss) (fewer x y xs ys n) (length-reduce R x y s xs ss (omega arith)) (omega arith) in
      let e₀ : dot R x (y ∷ ys) (extend R x y s ys (back R x y ys es)) ≡ s = row_first x y s ys (back R x y ys es) n.apart.0.0 in
      let e₁ : fwd R x y ys (back R x y ys es) ≡ es = fwd-back x y ys es n.apart.0.1 n.cols.0 (length-solve R xs ys (reduce R x y s xs ss)) in
      ap₂ ◌∷◌ e₀ (rows_up x y s _ ys (back R x y ys es) xs ss n.apart.0.0 n.apart.0.1 n.rows.0 n.apart.1 (omega arith) e₀ (ap (sums R xs ys) e₁ ∙ ih))

  -- and no other list has these sums: no fewer rows than columns
  pub solve_unique : (xs ys ss ds : List F) → Nodes xs ys → length ds ≡ length ys → length ys ≤ length xs → sums R xs ys ds ≡ ss → ds ≡ solve R xs ys ss
  unfolding solve sums extend zeros
  solve_unique [] [] ss [] n l m e = refl
  solve_unique [] [] ss (d ∷ ds) n l m e = absurd (omega arith)
  solve_unique [] (y ∷ ys) ss ds n l m e = absurd (omega arith)
  solve_unique (x ∷ xs) [] ss [] n l m e = refl
  solve_unique (x ∷ xs) [] ss (d ∷ ds) n l m e = absurd (omega arith)
  solve_unique (x ∷ xs) (y ∷ ys) [] ds n l m e = absurd (let z : ◌≡◌ {A = ℕ} 0 1 = cc in omega arith)
  solve_unique (x ∷ xs) (y ∷ ys) (s ∷ ss) [] n l m e = absurd (omega arith)
  solve_unique (x ∷ xs) (y ∷ ys) (s ∷ ss) (d ∷ ds) n l m e =
      let e₀ : dot R x (y ∷ ys) (d ∷ ds) ≡ s = cc in
      let e₁ : sums R xs (y ∷ ys) (d ∷ ds) ≡ ss = cc in
      let ih : fwd R x y ys ds ≡ solve R xs ys (reduce R x y s xs ss) = solve_unique xs ys (reduce R x y s xs ss) (fwd R x y ys ds) (fewer x y xs ys n) (length-fwd R x y ys ds (omega arith)) (omega arith)
      (rows_down x y s d ys ds xs ss n.apart.0.0 n.apart.0.1 n.rows.0 n.apart.1 e₀ e₁) in
      let e₂ : ds ≡ back R x y ys (solve R xs ys (reduce R x y s xs ss)) = sym (back-fwd x y ys ds n.apart.0.1 n.cols.0 (omega arith)) ∙ ap (back R x y ys) ih in
      ap₂ ◌∷◌ (first_unique x y s d ys ds n.apart.0.0 e₀ ∙ ap (first R x y s ys) e₂) e₂
