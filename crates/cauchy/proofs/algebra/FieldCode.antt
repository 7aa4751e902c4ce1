-- The code over a field: data ds at the columns ys, and for each row x the recovery word  Σ_l d_l / (x + y_l). Which data words are held is said by marks bs,
-- which recovery words by marks cs.
use mathlib.Core.Path.{◌≡◌, refl, sym, ◌∙◌, ap, ap₂}
use mathlib.Core.Bool.{Bool, true, false}
use mathlib.Core.List.{List, [], ◌∷◌}
use Prim.Native.Nat.{zero, ℕ, suc, ◌+◌, ◌≤◌, ◌<◌}
use native.Mathlib.Omega.{arith}
use lib.ListN.{length, get_or}
use Rattle.cauchy.proofs.algebra.Field.{O_add, O_mul, Field, assoc, add_O, twice, left_comm}
use Rattle.cauchy.specs.inner.System.{Ops, dot, solve}
use Rattle.cauchy.specs.inner.Promises.{Apart, Distinct, Cross, Nodes}
use Rattle.cauchy.proofs.algebra.SystemLaws.{sums, length-solve, solve_correct, solve_unique}
use Rattle.cauchy.proofs.algebra.Kept.{blank, trues, kept, lost, merge, length-kept, length-lost, merge_parts, Fit, length-merge, kept-merge, lost-merge}

module _ (R : Ops) where
  open R use {F, ◌⊕◌, ◌⊗◌, inv, O, I}

  infixl 65 ◌⊕◌
  unfoldable pub plus : List F → List F → List F
  plus [] ws = []
  plus (v ∷ vs) [] = []
  plus (v ∷ vs) (w ∷ ws) = (v ⊕ w) ∷ plus vs ws

  pub get_or-sums : (xs ys ds : List F) (k : ℕ) (z : F) → k < length xs → get_or (sums R xs ys ds) k z ≡ dot R (get_or xs k z) ys ds
  unfolding sums
  get_or-sums [] ys ds k z h = absurd (omega arith)
  get_or-sums (x ∷ xs) ys ds zero z h = refl
  get_or-sums (x ∷ xs) ys ds (suc k) z h = get_or-sums xs ys ds k z (omega arith)

  pub length-sums : (xs ys ds : List F) → length (sums R xs ys ds) ≡ length xs
  unfolding sums
  length-sums [] ys ds = refl
  length-sums (x ∷ xs) ys ds = ap suc (length-sums xs ys ds)

  pub length-plus : (vs ws : List F) → length ws ≡ length vs → length (plus vs ws) ≡ length vs
  unfolding plus
  length-plus [] ws h = refl
  length-plus (v ∷ vs) [] h = absurd (omega arith)
  length-plus (v ∷ vs) (w ∷ ws) h = ap suc (length-plus vs ws (omega arith))

  pub get_or-plus : (vs ws : List F) (k : ℕ) (z : F) → k < length vs → length ws ≡ length vs → get_or (plus vs ws) k z ≡ get_or vs k z ⊕ get_or ws k z
  unfolding plus
  get_or-plus [] ws k z h l = absurd (omega arith)
  get_or-plus (v ∷ vs) [] k z h l = absurd (omega arith)
  get_or-plus (v ∷ vs) (w ∷ ws) zero z h l = refl
  get_or-plus (v ∷ vs) (w ∷ ws) (suc k) z h l = get_or-plus vs ws k z (omega arith) (omega arith)

  -- the decoder: the held data goes to the right side, and the rest is a Cauchy system
  unfoldable pub decode : List F → List F → List Bool → List F → List F → List F
  decode xs ys bs hs ws = merge bs hs (solve R xs (lost bs ys) (plus (sums R xs (kept bs ys) hs) ws))

module _ (K : Field) where
  open K use {R}
  open R use {F, ◌⊕◌, ◌⊗◌, inv, O, I}

  infixl 65 ◌⊕◌
  infixl 70 ◌⊗◌
  -- ---- nodes of a part

  apart_kept : (x : F) (bs : List Bool) (ys : List F) → Apart x ys → Apart x (kept bs ys)
  unfolding kept
  apart_kept x [] ys a = tt
  apart_kept x (true ∷ bs) [] a = tt
  apart_kept x (true ∷ bs) (y ∷ ys) a = (a.0, apart_kept x bs ys a.1)
  apart_kept x (false ∷ bs) [] a = tt
  apart_kept x (false ∷ bs) (y ∷ ys) a = apart_kept x bs ys a.1

  apart_lost : (x : F) (bs : List Bool) (ys : List F) → Apart x ys → Apart x (lost bs ys)
  unfolding lost
  apart_lost x [] ys a = tt
  apart_lost x (true ∷ bs) [] a = tt
  apart_lost x (true ∷ bs) (y ∷ ys) a = apart_lost x bs ys a.1
  apart_lost x (false ∷ bs) [] a = tt
  apart_lost x (false ∷ bs) (y ∷ ys) a = (a.0, apart_lost x bs ys a.1)

  distinct_kept : (bs : List Bool) (ys : List F) → Distinct ys → Distinct (kept bs ys)
  unfolding kept
  distinct_kept [] ys a = tt
  distinct_kept (true ∷ bs) [] a = tt
  distinct_kept (true ∷ bs) (y ∷ ys) a = (apart_kept y bs ys a.0, distinct_kept bs ys a.1)
  distinct_kept (false ∷ bs) [] a = tt
  distinct_kept (false ∷ bs) (y ∷ ys) a = distinct_kept bs ys a.1

  distinct_lost : (bs : List Bool) (ys : List F) → Distinct ys → Distinct (lost bs ys)
  unfolding lost
  distinct_lost [] ys a = tt
  distinct_lost (true ∷ bs) [] a = tt
  distinct_lost (true ∷ bs) (y ∷ ys) a = distinct_lost bs ys a.1
  distinct_lost (false ∷ bs) [] a = tt
  distinct_lost (false ∷ bs) (y ∷ ys) a = (apart_lost y bs ys a.0, distinct_lost bs ys a.1)

  cross_kept : (cs : List Bool) (xs ys : List F) → Cross xs ys → Cross (kept cs xs) ys
  unfolding kept
  cross_kept [] xs ys c = tt
  cross_kept (true ∷ cs) [] ys c = tt
  cross_kept (true ∷ cs) (x ∷ xs) ys c = (c.0, cross_kept cs xs ys c.1)
  cross_kept (false ∷ cs) [] ys c = tt
  cross_kept (false ∷ cs) (x ∷ xs) ys c = cross_kept cs xs ys c.1

  cross_lost : (bs : List Bool) (xs ys : List F) → Cross xs ys → Cross xs (lost bs ys)
  cross_lost bs [] ys c = tt
  cross_lost bs (x ∷ xs) ys c = (apart_lost x bs ys c.0, cross_lost bs xs ys c.1)

  nodes_lost : (bs : List Bool) (xs ys : List F) → Nodes xs ys → Nodes xs (lost bs ys)
  nodes_lost bs xs ys n = record { rows = n.rows; cols = distinct_lost bs ys n.cols; apart = cross_lost bs xs ys n.apart }

  pub nodes_kept : (cs : List Bool) (xs ys : List F) → Nodes xs ys → Nodes (kept cs xs) ys
  nodes_kept cs xs ys n = record { rows = distinct_kept cs xs n.rows; cols = n.cols; apart = cross_kept cs xs ys n.apart }

  -- ---- a sum in two parts

  join_l : (t u v w : F) → u ≡ v ⊕ w → t ⊕ u ≡ (t ⊕ v) ⊕ w
  join_l t u v w e = ap (λ (z : F). t ⊕ z) e ∙ sym (assoc K t v w)

  join_r : (t u v w : F) → u ≡ v ⊕ w → t ⊕ u ≡ v ⊕ (t ⊕ w)
  join_r t u v w e = ap (λ (z : F). t ⊕ z) e ∙ left_comm K t v w

  pub dot_parts : (x : F) (bs : List Bool) (ys ds : List F) → length ys ≡ length bs → length ds ≡ length bs
      → dot R x ys ds ≡ dot R x (kept bs ys) (kept bs ds) ⊕ dot R x (lost bs ys) (lost bs ds)
  unfolding dot kept lost
  dot_parts x [] [] [] h k = sym (add_O K O)
  dot_parts x [] [] (d ∷ ds) h k = absurd (omega arith)
  dot_parts x [] (y ∷ ys) ds h k = absurd (omega arith)
  dot_parts x (b ∷ bs) [] ds h k = absurd (omega arith)
  dot_parts x (b ∷ bs) (y ∷ ys) [] h k = absurd (omega arith)
  dot_parts x (true ∷ bs) (y ∷ ys) (d ∷ ds) h k = join_l (d ⊗ inv (x ⊕ y)) _ _ _ (dot_parts x bs ys ds (omega arith) (omega arith))
  dot_parts x (false ∷ bs) (y ∷ ys) (d ∷ ds) h k = join_r (d ⊗ inv (x ⊕ y)) _ _ _ (dot_parts x bs ys ds (omega arith) (omega arith))

  plus-twice : (vs ws : List F) → length ws ≡ length vs → plus R vs (plus R vs ws) ≡ ws
  unfolding plus
  plus-twice [] [] h = refl
  plus-twice [] (w ∷ ws) h = absurd (omega arith)
  plus-twice (v ∷ vs) [] h = absurd (omega arith)
  plus-twice (v ∷ vs) (w ∷ ws) h = ap₂ ◌∷◌ (twice K v w) (plus-twice vs ws (omega arith))

  pub sums_parts : (xs : List F) (bs : List Bool) (ys ds : List F) → length ys ≡ length bs → length ds ≡ length bs
      → sums R xs ys ds ≡ plus R (sums R xs (kept bs ys) (kept bs ds)) (sums R xs (lost bs ys) (lost bs ds))
  unfolding sums plus
  sums_parts [] bs ys ds h k = refl
  sums_parts (x ∷ xs) bs ys ds h k = ap₂ ◌∷◌ (dot_parts x bs ys ds h k) (sums_parts xs bs ys ds h k)

  -- ---- the decoder

  -- with no fewer rows than lost words it finds the data
  pub decode_unique : (xs ys ds : List F) (bs : List Bool) → Nodes xs ys → length ys ≡ length bs → length ds ≡ length bs → length bs ≤ trues bs + length xs
      → ds ≡ decode R xs ys bs (kept bs ds) (sums R xs ys ds)
  unfolding decode
  decode_unique xs ys ds bs n h k m =
      let ws : List F = sums R xs ys ds in
      let gs : List F = sums R xs (kept bs ys) (kept bs ds) in
      let e : sums R xs (lost bs ys) (lost bs ds) ≡ plus R gs ws =
      sym (plus-twice gs (sums R xs (lost bs ys) (lost bs ds)) (length-sums R xs (lost bs ys) (lost bs ds) ∙ sym (length-sums R xs (kept bs ys) (kept bs ds)))) ∙ ap (plus R gs) (sym (sums_parts xs bs ys ds h k)) in
      sym (merge_parts bs ds k)
      ∙ ap (merge bs (kept bs ds)) (solve_unique K xs (lost bs ys) (plus R gs ws) (lost bs ds) (nodes_lost bs xs ys n)
      (omega (arith, length-lost bs ys h, length-lost bs ds k)) (omega (arith, length-lost bs ys h)) e)

  -- with no more rows than lost words there is data with any recovery words
  pub record Decoded (xs ys : List F) (bs : List Bool) (hs ws ds : List F) : Type 0 where
    pub size : length ds ≡ length ys
    pub data_held : kept bs ds ≡ hs
    pub rows_held : sums R xs ys ds ≡ ws

  pub decode-fits : (xs ys hs ws : List F) (bs : List Bool) → Nodes xs ys → length ys ≡ length bs → length hs ≡ trues bs → length ws ≡ length xs → trues bs + length xs ≤ length bs
      → Decoded xs ys bs hs ws (decode R xs ys bs hs ws)
  unfolding decode
  decode-fits xs ys hs ws bs n h k l m =
      let gs : List F = sums R xs (kept bs ys) hs in
      let lg : length ws ≡ length gs = l ∙ sym (length-sums R xs (kept bs ys) hs) in
      let es : List F = solve R xs (lost bs ys) (plus R gs ws) in
      let f : Fit bs hs es = (k, omega (arith, length-solve R xs (lost bs ys) (plus R gs ws), length-lost bs ys h)) in
      let c : sums R xs (lost bs ys) es ≡ plus R gs ws = solve_correct K xs (lost bs ys) (plus R gs ws) (nodes_lost bs xs ys n) (length-plus R gs ws lg ∙ length-sums R xs (kept bs ys) hs) (omega (arith, length-lost bs ys h)) in
      record {
        size = length-merge bs hs es f ∙ sym h;
        data_held = kept-merge bs hs es f;
        rows_held = sums_parts xs bs ys (merge bs hs es) h (length-merge bs hs es f)
            ∙ ap₂ (λ (u v : List F). plus R (sums R xs (kept bs ys) u) (sums R xs (lost bs ys) v)) (kept-merge bs hs es f) (lost-merge bs hs es f)
            ∙ ap (plus R gs) c ∙ plus-twice gs ws lg;
      }

  -- ---- enough words determine the data

  pub known : (xs ys ds ds' : List F) (bs cs : List Bool) → Nodes xs ys → length ys ≡ length bs → length xs ≡ length cs → length ds ≡ length bs → length ds' ≡ length bs
      → length bs ≤ trues bs + trues cs → kept bs ds ≡ kept bs ds' → sums R (kept cs xs) ys ds ≡ sums R (kept cs xs) ys ds' → ds ≡ ds'
  known xs ys ds ds' bs cs n h hx k k' m e r =
      decode_unique (kept cs xs) ys ds bs (nodes_kept cs xs ys n) h k (omega (arith, length-kept cs xs hx))
      ∙ ap₂ (decode R (kept cs xs) ys bs) e r
      ∙ sym (decode_unique (kept cs xs) ys ds' bs (nodes_kept cs xs ys n) h k' (omega (arith, length-kept cs xs hx)))

  -- ---- with 0 in the place of each lost word, a row's sum is that of the held words: what is missing to the recovery word is the lost words' part

  dot-blank : (x : F) (bs : List Bool) (ys ds : List F) → length ys ≡ length bs → length ds ≡ length bs → dot R x ys (blank O bs ds) ≡ dot R x (kept bs ys) (kept bs ds)
  unfolding dot kept blank
  dot-blank x [] [] ds h k = refl
  dot-blank x [] (y ∷ ys) ds h k = absurd (omega arith)
  dot-blank x (b ∷ bs) [] ds h k = absurd (omega arith)
  dot-blank x (b ∷ bs) (y ∷ ys) [] h k = absurd (omega arith)
  dot-blank x (true ∷ bs) (y ∷ ys) (d ∷ ds) h k = ap (λ (z : F). d ⊗ inv (x ⊕ y) ⊕ z) (dot-blank x bs ys ds (omega arith) (omega arith))
  dot-blank x (false ∷ bs) (y ∷ ys) (d ∷ ds) h k =
      ap (λ (z : F). z ⊕ dot R x ys (blank O bs ds)) (O_mul K (inv (x ⊕ y))) ∙ O_add K (dot R x ys (blank O bs ds)) ∙ dot-blank x bs ys ds (omega arith) (omega arith)

  sums-blank : (xs : List F) (bs : List Bool) (ys ds : List F) → length ys ≡ length bs → length ds ≡ length bs → sums R xs ys (blank O bs ds) ≡ sums R xs (kept bs ys) (kept bs ds)
  unfolding sums
  sums-blank [] bs ys ds h k = refl
  sums-blank (x ∷ xs) bs ys ds h k = ap₂ ◌∷◌ (dot-blank x bs ys ds h k) (sums-blank xs bs ys ds h k)

  pub recover : (xs ys ds : List F) (bs : List Bool) → Nodes xs ys → length ys ≡ length bs → length ds ≡ length bs → length bs ≤ trues bs + length xs
      → lost bs ds ≡ solve R xs (lost bs ys) (plus R (sums R xs ys (blank O bs ds)) (sums R xs ys ds))
  recover xs ys ds bs n h k m =
      let gs : List F = sums R xs (kept bs ys) (kept bs ds) in
      let ls : List F = sums R xs (lost bs ys) (lost bs ds) in
      solve_unique K xs (lost bs ys) (plus R (sums R xs ys (blank O bs ds)) (sums R xs ys ds)) (lost bs ds) (nodes_lost bs xs ys n) (omega (arith, length-lost bs ys h, length-lost bs ds k))
      (omega (arith, length-lost bs ys h))
      (sym (ap₂ (plus R) (sums-blank xs bs ys ds h k) (sums_parts xs bs ys ds h k) ∙ plus-twice gs ls (length-sums R xs (lost bs ys) (lost bs ds) ∙ sym (length-sums R xs (kept bs ys) (kept bs ds)))))
