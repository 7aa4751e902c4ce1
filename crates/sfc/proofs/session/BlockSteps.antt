-- One block under offers, by itself: what a payload makes of its bytes and its mark, and that order does not matter.
-- Assumes nothing.
use Prim.Native.Nat.{ℕ, zero, suc, ◌+◌, ◌*◌, ◌<◌, ◌≤◌}
use mathlib.Core.Path.{◌≡◌, refl, sym, ap, ◌∙◌}
use mathlib.Core.List.{List}
use mathlib.Core.Bool.{Bool, true, false, cond}
use mathlib.Core.Logic.{◌⊎◌, inl, inr, ⊎_elim}
use native.Mathlib.Decide.{ℕ_discrete}
use native.Mathlib.Omega.{arith}
use borrow.Author.Tests.{ne_eqb}
use lib.Dec.{eqb, lit<}
use lib.ListN.{length, get_or, set, length-set, length-replicate}
use lib.Seq.{get_or-set_same, get_or-set_other, set-set, set_comm}
use Rattle.little.specs.Parts.{block, put_block}
use Rattle.little.proofs.Laws.{block_laws, put_laws, same_laws}
use Rattle.little.specs.Runs.{zeros, same}

-- bytes and mark of a block after a payload came for it
pub done : ℕ → List ℕ → List ℕ → List ℕ × ℕ
done k b p = cond (eqb k 0) (p, 1) (cond (eqb k 1) (cond (same b p) (b, 1) (zeros (length b), 2)) (b, k))

module _ (b p : List ℕ) where
  pub done_absent : done 0 b p ≡ (p, 1)
  unfolding done
  done_absent = refl

  pub done_copy : same b p ≡ true → done 1 b p ≡ (b, 1)
  unfolding done
  done_copy e = rw e

  pub done_differs : same b p ≡ false → done 1 b p ≡ (zeros (length b), 2)
  unfolding done
  done_differs e = rw e

  pub done_barred : (k : ℕ) → done (suc (suc k)) b p ≡ (b, suc (suc k))
  unfolding done
  done_barred k = rw (ne_eqb (suc (suc k)) 0 (λ e. omega arith), ne_eqb (suc (suc k)) 1 (λ e. omega arith))

-- the block keeps its length, and the mark stays below 3
pub done_keeps : (w k : ℕ) (b p : List ℕ) → k < 3 → length b ≡ w → length p ≡ w → (length (done k b p).0 ≡ w) × ((done k b p).1 < 3)
done_keeps w zero b p h l l' = rw (done_absent b p) (l', lit< tt)
done_keeps w (suc zero) b p h l l' = go (same b p) refl
  where
    go : (t : Bool) → same b p ≡ t → (length (done 1 b p).0 ≡ w) × ((done 1 b p).1 < 3)
    go true e = rw (done_copy b p e) (l, lit< tt)
    go false e = rw (done_differs b p e) (length-replicate {A = ℕ} (length b) 0 ∙ l, lit< tt)
done_keeps w (suc (suc k)) b p h l l' = rw (done_barred b p k) (l, h)

same_sym : (a b : List ℕ) → same a b ≡ false → same b a ≡ false
same_sym a b e = same_laws.same_differ b a (λ q. same_laws.same_apart a b e (sym q))

-- two payloads, one after the other
abbrev pub twice : ℕ → List ℕ → List ℕ → List ℕ → List ℕ × ℕ
twice k b p q = done (done k b p).1 (done k b p).0 q

pub done_swap : (w k : ℕ) (b p q : List ℕ) → length b ≡ w → length p ≡ w → length q ≡ w → twice k b p q ≡ twice k b q p
done_swap w zero b p q lb lp lq = rw (done_absent b p, done_absent b q) (go (same p q) refl)
  where
    go : (t : Bool) → same p q ≡ t → done 1 p q ≡ done 1 q p
    go true e = rw (same_laws.same-eq p q e)
    go false e = rw (done_differs p q e, done_differs q p (same_sym p q e), lp, lq)
done_swap w (suc zero) b p q lb lp lq = go (same b p) (same b q) refl refl
  where
    go : (t u : Bool) → same b p ≡ t → same b q ≡ u → twice 1 b p q ≡ twice 1 b q p
    go true true e f = rw (done_copy b p e, done_copy b q f, done_copy b p e)
    go true false e f = rw (done_copy b p e, done_differs b q f, done_barred (zeros (length b)) p 0)
    go false true e f = rw (done_differs b p e, done_copy b q f, done_barred (zeros (length b)) q 0, done_differs b p e)
    go false false e f = rw (done_differs b p e, done_differs b q f, done_barred (zeros (length b)) q 0, done_barred (zeros (length b)) p 0)
done_swap w (suc (suc k)) b p q lb lp lq = rw (done_barred b p k, done_barred b q k, done_barred b p k)

-- ---- in a store of n blocks of s bytes

pub record Kept : Type 0 where
  pub store : List ℕ
  pub marks : List ℕ

module _ (s n : ℕ) where
  pub record Sound (k : Kept) : Type 0 where
    pub store_long : length k.store ≡ n * s
    pub marks_long : length k.marks ≡ n
    pub fit : (i : ℕ) → get_or k.marks i 0 < 3

  abbrev pub done_at : Kept → ℕ → List ℕ → List ℕ × ℕ
  done_at k i p = done (get_or k.marks i 0) (block s k.store i) p

  -- a payload came for index i
  abbrev pub laid_at : Kept → ℕ → List ℕ → Kept
  laid_at k i p = record { store = put_block s k.store i (done_at k i p).0; marks = set k.marks i (done_at k i p).1 }

  module _ (k : Kept) (g : Sound k) (i : ℕ) (h : i < n) (p : List ℕ) (l : length p ≡ s) where
    pub keeps : (length (done_at k i p).0 ≡ s) × ((done_at k i p).1 < 3)
    keeps = done_keeps s (get_or k.marks i 0) (block s k.store i) p (g.fit i) (block_laws.length-block s n k.store g.store_long i h) l

    pub laid_sound : Sound (laid_at k i p)
    laid_sound = record {
      store_long = block_laws.length-put_block s n k.store g.store_long i h (done_at k i p).0 keeps.0;
      marks_long = length-set k.marks i (done_at k i p).1 ∙ g.marks_long;
      fit = λ j. fits j (ℕ_discrete j i);
    }
      where
        fits : (j : ℕ) → Dec (j ≡ i) → get_or (set k.marks i (done_at k i p).1) j 0 < 3
        fits j (yes e) = rw (e, get_or-set_same k.marks i (done_at k i p).1 0 (omega (arith, g.marks_long))) keeps.1
        fits j (no d) = rw (get_or-set_other k.marks i j (done_at k i p).1 0 d) (g.fit j)

    -- another index sees nothing of it
    pub elsewhere : (j : ℕ) → j < n → (j ≡ i → ⊥) → (q : List ℕ) → done_at (laid_at k i p) j q ≡ done_at k j q
    elsewhere j m d q =
        rw (
          get_or-set_other k.marks i j (done_at k i p).1 0 d,
          block_laws.block-put-other s n k.store g.store_long i h (done_at k i p).0 keeps.0 j m (λ e. d (sym e)),
        )

    -- a second payload at the same index
    pub again : (q : List ℕ) → length q ≡ s
        → laid_at (laid_at k i p) i q
        ≡ record { store = put_block s k.store i (twice (get_or k.marks i 0) (block s k.store i) p q).0; marks = set k.marks i (twice (get_or k.marks i 0) (block s k.store i) p q).1 }
    again q l' =
        let u = twice (get_or k.marks i 0) (block s k.store i) p q in
        let ku = done_keeps s (done_at k i p).1 (done_at k i p).0 q keeps.1 keeps.0 l' in
        let fit : i * s + length (done_at k i p).0 ≤ length k.store = omega (arith, g.store_long, block_laws.block_inside s n i h, keeps.0) in
        rw (
          get_or-set_same k.marks i (done_at k i p).1 0 (omega (arith, g.marks_long)),
          block_laws.block-put s n k.store g.store_long i h (done_at k i p).0 keeps.0,
          put_laws.put-put k.store (i * s) (done_at k i p).0 u.0 fit (ku.0 ∙ sym keeps.0),
          set-set k.marks i (done_at k i p).1 u.1,
        )

  module _ (k : Kept) (g : Sound k) (i j : ℕ) (h : i < n) (m : j < n) (p q : List ℕ) (lp : length p ≡ s) (lq : length q ≡ s) where
    abbrev keep : List ℕ × ℕ → Kept
    keep x = record { store = put_block s k.store i x.0; marks = set k.marks i x.1 }

    near : laid_at (laid_at k i p) i q ≡ laid_at (laid_at k i q) i p
    near =
        again k g i h p lp q lq
        ∙ ap keep (done_swap s (get_or k.marks i 0) (block s k.store i) p q (block_laws.length-block s n k.store g.store_long i h) lp lq)
        ∙ sym (again k g i h q lq p lp)

    far : (i ≡ j → ⊥) → laid_at (laid_at k i p) j q ≡ laid_at (laid_at k j q) i p
    far d =
        let a = (keeps k g i h p lp).0 in
        let b = (keeps k g j m q lq).0 in
        let fa : i * s + length (done_at k i p).0 ≤ length k.store = omega (arith, g.store_long, block_laws.block_inside s n i h, a) in
        let fb : j * s + length (done_at k j q).0 ≤ length k.store = omega (arith, g.store_long, block_laws.block_inside s n j m, b) in
        let apart : (i * s + length (done_at k i p).0 ≤ j * s) ⊎ (j * s + length (done_at k j q).0 ≤ i * s) =
        ⊎_elim (λ t. inl (omega arith)) (λ t. inr (omega arith)) (block_laws.blocks_apart s i j d) in
        rw (elsewhere k g i h p lp j m (λ e. d (sym e)) q, elsewhere k g j m q lq i h d p)
        (λ t. record {
          store = put_laws.put_swap k.store (i * s) (j * s) (done_at k i p).0 (done_at k j q).0 fa fb apart t;
          marks = set_comm k.marks i j (done_at k i p).1 (done_at k j q).1 d t;
        })

  -- two payloads, for any two indices, in either order
  pub laid_swap : (k : Kept) → Sound k → (i j : ℕ) → i < n → j < n → (p q : List ℕ) → length p ≡ s → length q ≡ s
      → laid_at (laid_at k i p) j q ≡ laid_at (laid_at k j q) i p
  laid_swap k g i j h m p q lp lq = go (ℕ_discrete i j)
    where
      go : Dec (i ≡ j) → laid_at (laid_at k i p) j q ≡ laid_at (laid_at k j q) i p
      go (yes e) = rw (← e) (near k g i j h m p q lp lq)
      go (no d) = far k g i j h m p q lp lq d
