-- A list in two parts, by a list of marks: what is kept (true), what is lost (false), and the two put together again. Assumes nothing.
use mathlib.Core.Path.{◌≡◌, refl, ap, ap₂}
use mathlib.Core.Bool.{Bool, true, false}
use mathlib.Core.List.{List, [], ◌∷◌}
use Prim.Native.Nat.{ℕ, zero, suc, ◌+◌, ◌≤◌, ◌<◌, suc-le-suc}
use native.Mathlib.Omega.{arith}
use lib.ListN.{length, get_or}

unfoldable pub trues : List Bool → ℕ
trues [] = zero
trues (true ∷ bs) = suc (trues bs)
trues (false ∷ bs) = trues bs

pub trues-le : (bs : List Bool) → trues bs ≤ length bs
unfolding trues
trues-le [] = omega arith
trues-le (true ∷ bs) = suc-le-suc (trues-le bs)
trues-le (false ∷ bs) = omega (arith, trues-le bs)

module _ {ℓ} {A : Type ℓ} where
  unfoldable pub kept : List Bool → List A → List A
  kept [] l = []
  kept (true ∷ bs) [] = []
  kept (true ∷ bs) (a ∷ l) = a ∷ kept bs l
  kept (false ∷ bs) [] = []
  kept (false ∷ bs) (a ∷ l) = kept bs l

  unfoldable pub lost : List Bool → List A → List A
  lost [] l = []
  lost (true ∷ bs) [] = []
  lost (true ∷ bs) (a ∷ l) = lost bs l
  lost (false ∷ bs) [] = []
  lost (false ∷ bs) (a ∷ l) = a ∷ lost bs l

  unfoldable pub merge : List Bool → List A → List A → List A
  merge [] hs es = []
  merge (true ∷ bs) [] es = []
  merge (true ∷ bs) (h ∷ hs) es = h ∷ merge bs hs es
  merge (false ∷ bs) hs [] = []
  merge (false ∷ bs) hs (e ∷ es) = e ∷ merge bs hs es

  pub length-kept : (bs : List Bool) (l : List A) → length l ≡ length bs → length (kept bs l) ≡ trues bs
  unfolding kept trues
  length-kept [] l h = refl
  length-kept (true ∷ bs) [] h = absurd (omega arith)
  length-kept (true ∷ bs) (a ∷ l) h = ap suc (length-kept bs l (omega arith))
  length-kept (false ∷ bs) [] h = absurd (omega arith)
  length-kept (false ∷ bs) (a ∷ l) h = length-kept bs l (omega arith)

  pub length-lost : (bs : List Bool) (l : List A) → length l ≡ length bs → length (lost bs l) + trues bs ≡ length bs
  unfolding lost trues
  length-lost [] l h = refl
  length-lost (true ∷ bs) [] h = absurd (omega arith)
  length-lost (true ∷ bs) (a ∷ l) h = omega (arith, length-lost bs l (omega arith))
  length-lost (false ∷ bs) [] h = absurd (omega arith)
  length-lost (false ∷ bs) (a ∷ l) h = omega (arith, length-lost bs l (omega arith))

  pub merge_parts : (bs : List Bool) (l : List A) → length l ≡ length bs → merge bs (kept bs l) (lost bs l) ≡ l
  unfolding kept lost merge
  merge_parts [] [] h = refl
  merge_parts [] (a ∷ l) h = absurd (omega arith)
  merge_parts (true ∷ bs) [] h = absurd (omega arith)
  merge_parts (true ∷ bs) (a ∷ l) h = ap (◌∷◌ a) (merge_parts bs l (omega arith))
  merge_parts (false ∷ bs) [] h = absurd (omega arith)
  merge_parts (false ∷ bs) (a ∷ l) h = ap (◌∷◌ a) (merge_parts bs l (omega arith))

  -- what a merge is made of fits its marks
  abbrev pub Fit : List Bool → List A → List A → Type 0
  Fit bs hs es = (length hs ≡ trues bs) × (length es + trues bs ≡ length bs)

  pub length-merge : (bs : List Bool) (hs es : List A) → Fit bs hs es → length (merge bs hs es) ≡ length bs
  unfolding merge trues
  length-merge [] hs es f = refl
  length-merge (true ∷ bs) [] es f = absurd (omega arith)
  length-merge (true ∷ bs) (h ∷ hs) es f = ap suc (length-merge bs hs es (omega arith))
  length-merge (false ∷ bs) hs [] f = absurd (omega (arith, trues-le bs))
  length-merge (false ∷ bs) hs (e ∷ es) f = ap suc (length-merge bs hs es (omega arith))

  pub kept-merge : (bs : List Bool) (hs es : List A) → Fit bs hs es → kept bs (merge bs hs es) ≡ hs
  unfolding merge trues kept
  kept-merge [] [] es f = refl
  kept-merge [] (h ∷ hs) es f = absurd (omega arith)
  kept-merge (true ∷ bs) [] es f = absurd (omega arith)
  kept-merge (true ∷ bs) (h ∷ hs) es f = ap (◌∷◌ h) (kept-merge bs hs es (omega arith))
  kept-merge (false ∷ bs) hs [] f = absurd (omega (arith, trues-le bs))
  kept-merge (false ∷ bs) hs (e ∷ es) f = kept-merge bs hs es (omega arith)

  pub lost-merge : (bs : List Bool) (hs es : List A) → Fit bs hs es → lost bs (merge bs hs es) ≡ es
  unfolding merge trues lost
  lost-merge [] hs [] f = refl
  lost-merge [] hs (e ∷ es) f = absurd (omega arith)
  lost-merge (true ∷ bs) [] es f = absurd (omega arith)
  lost-merge (true ∷ bs) (h ∷ hs) es f = lost-merge bs hs es (omega arith)
  lost-merge (false ∷ bs) hs [] f = absurd (omega (arith, trues-le bs))
  lost-merge (false ∷ bs) hs (e ∷ es) f = ap (◌∷◌ e) (lost-merge bs hs es (omega arith))

  -- the kept parts are equal where the lists agree at each marked index, and only there
  pub kept_of_agree : (z : A) (bs : List Bool) (l w : List A) → length l ≡ length bs → length w ≡ length bs
      → ((i : ℕ) → i < length bs → get_or bs i false ≡ true → get_or l i z ≡ get_or w i z) → kept bs l ≡ kept bs w
  unfolding kept
  kept_of_agree z [] l w h k f = refl
  kept_of_agree z (true ∷ bs) [] w h k f = absurd (omega arith)
  kept_of_agree z (true ∷ bs) (a ∷ l) [] h k f = absurd (omega arith)
  kept_of_agree z (true ∷ bs) (a ∷ l) (c ∷ w) h k f = ap₂ ◌∷◌ (f 0 (omega arith) refl) (kept_of_agree z bs l w (omega arith) (omega arith) (λ i m q. f (suc i) (suc-le-suc m) q))
  kept_of_agree z (false ∷ bs) [] w h k f = absurd (omega arith)
  kept_of_agree z (false ∷ bs) (a ∷ l) [] h k f = absurd (omega arith)
  kept_of_agree z (false ∷ bs) (a ∷ l) (c ∷ w) h k f = kept_of_agree z bs l w (omega arith) (omega arith) (λ i m q. f (suc i) (suc-le-suc m) q)

  pub agree_of_kept : (z : A) (bs : List Bool) (l w : List A) → length l ≡ length bs → length w ≡ length bs
      → kept bs l ≡ kept bs w → (i : ℕ) → i < length bs → get_or bs i false ≡ true → get_or l i z ≡ get_or w i z
  unfolding kept
  agree_of_kept z [] l w h k e i m q = absurd (omega arith)
  agree_of_kept z (true ∷ bs) [] w h k e i m q = absurd (omega arith)
  agree_of_kept z (true ∷ bs) (a ∷ l) [] h k e i m q = absurd (omega arith)
  agree_of_kept z (true ∷ bs) (a ∷ l) (c ∷ w) h k e zero m q = cc
  agree_of_kept z (true ∷ bs) (a ∷ l) (c ∷ w) h k e (suc i) m q = agree_of_kept z bs l w (omega arith) (omega arith) (cc) i (omega arith) q
  agree_of_kept z (false ∷ bs) [] w h k e i m q = absurd (omega arith)
  agree_of_kept z (false ∷ bs) (a ∷ l) [] h k e i m q = absurd (omega arith)
  agree_of_kept z (false ∷ bs) (a ∷ l) (c ∷ w) h k e zero m q = absurd (let z : ◌≡◌ {A = ℕ} 0 1 = cc in omega arith)
  agree_of_kept z (false ∷ bs) (a ∷ l) (c ∷ w) h k e (suc i) m q = agree_of_kept z bs l w (omega arith) (omega arith) e i (omega arith) q

  -- the list with z in the place of what is lost
  unfoldable pub blank : A → List Bool → List A → List A
  blank z [] l = []
  blank z (true ∷ bs) [] = []
  blank z (true ∷ bs) (a ∷ l) = a ∷ blank z bs l
  blank z (false ∷ bs) [] = []
  blank z (false ∷ bs) (a ∷ l) = z ∷ blank z bs l

  -- by index
  pub blank_of : (z d : A) (bs : List Bool) (l w : List A) → length l ≡ length bs → length w ≡ length bs
      → ((i : ℕ) → i < length bs → get_or bs i false ≡ true → get_or w i d ≡ get_or l i d) → ((i : ℕ) → i < length bs → get_or bs i true ≡ false → get_or w i d ≡ z) → w ≡ blank z bs l
  unfolding blank
  blank_of z d [] l [] h k f g = refl
  blank_of z d [] l (c ∷ w) h k f g = absurd (omega arith)
  blank_of z d (b ∷ bs) [] w h k f g = absurd (omega arith)
  blank_of z d (b ∷ bs) (a ∷ l) [] h k f g = absurd (omega arith)
  blank_of z d (true ∷ bs) (a ∷ l) (c ∷ w) h k f g = ap₂ ◌∷◌ (f 0 (omega arith) refl) (blank_of z d bs l w (omega arith) (omega arith) (λ i m q. f (suc i) (suc-le-suc m) q) (λ i m q. g (suc i) (suc-le-suc m) q))
  blank_of z d (false ∷ bs) (a ∷ l) (c ∷ w) h k f g = ap₂ ◌∷◌ (g 0 (omega arith) refl) (blank_of z d bs l w (omega arith) (omega arith) (λ i m q. f (suc i) (suc-le-suc m) q) (λ i m q. g (suc i) (suc-le-suc m) q))
