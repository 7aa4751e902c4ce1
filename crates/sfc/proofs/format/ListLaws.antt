-- Numbers one after the other, as a list and as the bytes of a region: what a walk over them that looks for one of them, and one that
-- judges them, have found so far. Assumes nothing.
use Prim.Native.Nat.{ℕ, zero, suc, ◌+◌, ◌-◌, ◌*◌, ◌/◌, ◌<◌, ◌≤◌}
use mathlib.Core.Path.{◌≡◌, refl, sym, ap, ap₂, ◌∙◌}
use mathlib.Core.Bool.{Bool, true, false, not, ◌&&◌, ◌||◌}
use mathlib.Core.List.{List, ◌∷◌}
use native.Mathlib.Omega.{arith}
use mathlib.Core.Logic.{⊎_elim}
use borrow.Author.Tests.{lt-ltb, le-ltb, lt-leb, le-leb}
use lib.Dec.{eqb, ltb, leb}
use lib.ListN.{length, get_or, drop}
use Rattle.std.proofs.Math.Bool.{or-false, or_assoc}
use Rattle.std.proofs.Math.Seq.{drop-cons}
use Rattle.std.proofs.lemmas.List.{drop_all}
use Rattle.little.specs.Parts.{part}
use Rattle.little.specs.Fields.{le}
use Rattle.little.specs.Runs.{any}
use Rattle.little.proofs.Laws.{part_laws, byte_laws, test_laws}
use Rattle.sfc.specs.format.Header.{indices, distinct_below}

-- ---- in the bytes of a region

pub length-indices : (r : List ℕ) (at k : ℕ) → length (indices r at k) ≡ k
unfolding indices
length-indices r at zero = refl
length-indices r at (suc k) = ap suc (length-indices r (at + 4) k)

pub index_at : (r : List ℕ) (at k i : ℕ) → i < k → get_or (indices r at k) i 0 ≡ le r (at + 4 * i) 4
unfolding indices
index_at r at zero i h = absurd (omega arith)
index_at r at (suc k) zero h = let e : at ≡ at + 4 * 0 = omega arith in ap (λ (p : ℕ). le r p 4) e
index_at r at (suc k) (suc i) h = let e : at + 4 + 4 * i ≡ at + 4 * suc i = omega arith in index_at r (at + 4) k i (omega arith) ∙ ap (λ (p : ℕ). le r p 4) e

-- those of a part of the bytes
indices-part : (r : List ℕ) (from n at k : ℕ) → at + 4 * k ≤ n → indices (part r from n) at k ≡ indices r (from + at) k
unfolding indices
indices-part r from n at zero h = refl
indices-part r from n at (suc k) h =
    let e : from + (at + 4) ≡ from + at + 4 = omega arith in
    ap₂ ◌∷◌ (byte_laws.le-part 4 r from n at (omega arith)) (indices-part r from n (at + 4) k (omega arith) ∙ ap (λ (p : ℕ). indices r p k) e)

pub stored : (r : List ℕ) (from end k : ℕ) → end ≡ from + 4 * k → end ≤ length r
    → indices (part r from (end - from)) 0 (length (part r from (end - from)) / 4) ≡ indices r from k
stored r from end k e room =
    let l : length (part r from (end - from)) ≡ 4 * k = part_laws.length_part r from (end - from) (omega arith) ∙ (omega arith) in
    let n : length (part r from (end - from)) / 4 ≡ k = omega (arith, l) in
    let f : from + 0 ≡ from = omega arith in
    ap (λ (m : ℕ). indices (part r from (end - from)) 0 m) n ∙ indices-part r from (end - from) 0 k (omega arith) ∙ ap (λ (p : ℕ). indices r p k) f

-- ---- whether x is among them

module _ (xs : List ℕ) (x from : ℕ) where
  -- it was found before place i, or is one of those from there on, exactly if it is one at all
  pub Looking : Bool → ℕ → Type 0
  Looking found i = (found || any (eqb x) (drop i xs)) ≡ any (eqb x) (drop from xs)

  pub looking_start : Looking false from
  unfolding Looking
  looking_start = refl

  pub looking_more : (found : Bool) (i : ℕ) → i < length xs → Looking found i → Looking (found || eqb x (get_or xs i 0)) (i + 1)
  unfolding Looking any
  looking_more found i h w =
      let e : suc i ≡ i + 1 = omega arith in
      let by_one : (found || (eqb x (get_or xs i 0) || any (eqb x) (drop (suc i) xs))) ≡ any (eqb x) (drop from xs) = rw (drop-cons xs i 0 h) at w in
      or_assoc found (eqb x (get_or xs i 0)) (any (eqb x) (drop (i + 1) xs)) ∙ rw e at by_one

  pub looking_end : (found : Bool) (i : ℕ) → length xs ≤ i → Looking found i → found ≡ any (eqb x) (drop from xs)
  unfolding Looking any
  looking_end found i h w = let f : (found || false) ≡ any (eqb x) (drop from xs) = rw (drop_all i xs h) at w in sym (or-false found) ∙ f

-- ---- whether each is below n, and none stands twice

below_is : (x n : ℕ) → ltb x n ≡ not (leb n x)
below_is x n = ⊎_elim (λ (h : x < n). rw (lt-ltb x n h, lt-leb n x h)) (λ (h : n ≤ x). rw (le-ltb x n h, le-leb n x h)) (test_laws.below_or x n)

module _ (xs : List ℕ) (n : ℕ) where
  -- those from place i on are so exactly if all are
  pub Judging : ℕ → Type 0
  Judging i = distinct_below n (drop i xs) ≡ distinct_below n xs

  pub judging_start : Judging 0
  unfolding Judging
  judging_start = refl

  pub judging_end : (i : ℕ) → length xs ≤ i → Judging i → true ≡ distinct_below n xs
  unfolding Judging distinct_below
  judging_end i h w = rw (drop_all i xs h) at w

  module _ (i : ℕ) (h : i < length xs) (w : Judging i) (among : Bool) (says : among ≡ any (eqb (get_or xs i 0)) (drop (i + 1) xs)) where
    by_next : (ltb (get_or xs i 0) n && not among && distinct_below n (drop (i + 1) xs)) ≡ distinct_below n xs
    unfolding Judging distinct_below
    by_next =
        let e : suc i ≡ i + 1 = omega arith in
        let d : drop i xs ≡ get_or xs i 0 ∷ drop (i + 1) xs = drop-cons xs i 0 h ∙ ap (λ (k : ℕ). get_or xs i 0 ∷ drop k xs) e in
        rw (d, ← says) at w

    turned : (ltb (get_or xs i 0) n && not among && distinct_below n (drop (i + 1) xs)) ≡ (not (leb n (get_or xs i 0) || among) && distinct_below n (drop (i + 1) xs))
    turned = go (leb n (get_or xs i 0)) among (distinct_below n (drop (i + 1) xs)) (ltb (get_or xs i 0) n) (below_is (get_or xs i 0) n)
      where
        go : (l a d k : Bool) → k ≡ not l → (k && not a && d) ≡ (not (l || a) && d)
        go true a d k e = ap (λ (b : Bool). b && not a && d) e
        go false true d k e = ap (λ (b : Bool). b && false && d) e
        go false false d k e = ap (λ (b : Bool). b && true && d) e

    pub bad_here : (leb n (get_or xs i 0) || among) ≡ true → false ≡ distinct_below n xs
    bad_here b = rw (turned, b) at by_next

    pub good_here : (leb n (get_or xs i 0) || among) ≡ false → Judging (i + 1)
    unfolding Judging
    good_here b = rw (turned, b) at by_next
