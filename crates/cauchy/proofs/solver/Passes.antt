-- `solve` in place: what a program's two passes over an array keep, by index. Of the operations only: no law is used.
use mathlib.Core.Path.{◌≡◌, refl, sym, ◌∙◌, ap, ap₂, subst}
use mathlib.Core.List.{List, ◌∷◌, ◌++◌, append-nil}
use Prim.Native.Nat.{ℕ, suc, ◌+◌, ◌-◌, ◌≤◌, ◌<◌}
use native.Mathlib.Omega.{arith}
use native.Mathlib.Numerals.{add-one}
use lib.ListN.{length, get_or, take, drop, set, length-set, length-drop, drop_of_length-le}
use lib.Seq.{drop-set-lt, get_or-set_same, get_or-set_other, take-suc, drop-cons, take_all, append_snoc, ext_get_or, get_or-take, get_or-drop, length-take-le}
use native.Mathlib.Decide.{ℕ_discrete}
use Rattle.cauchy.specs.inner.System.{Ops, field, dot, zeros, reduce, back, first, extend}
use lib.Bits.{bit_xor}
use Rattle.gf16.specs.Field.{mul}
use Rattle.cauchy.specs.inner.Promises.{Below, forward, backward, RowTakenOff, UnknownFound, reduce_one, scale_one, term_one}
use Rattle.cauchy.proofs.algebra.SystemLaws.{get_or-reduce, get_or-back, length-reduce, length_back}

module _ (R : Ops) where
  open R use {F, ◌⊕◌, ◌⊗◌, inv, O, I}

  infixl 65 ◌⊕◌
  infixl 70 ◌⊗◌
  module _ (xs ys : List F) where
    -- forward, before step t: the rows below t are done, and the rest is the system that is left
    pub record Forward (ss : List F) (t : ℕ) (a : List F) : Type 0 where
      pub size : length a ≡ length xs
      pub done : take t a ++ forward R (drop t xs) (drop t ys) (drop t a) ≡ forward R xs ys ss

    -- backward, before step t, from the last down: the unknowns from t on are those of the system of these rows, and the rest is as the forward pass left it
    pub record Backward (ps : List F) (t : ℕ) (a : List F) : Type 0 where
      pub size : length a ≡ length xs
      pub todo : (k : ℕ) → k < t → get_or a k O ≡ get_or ps k O
      pub done : drop t a ≡ backward R (drop t xs) (drop t ys) (drop t ps)

  module _ (xs ys : List F) (ly : length ys ≡ length xs) where
    -- ---- forward

    pub forward_start : (ss : List F) → length ss ≡ length xs → Forward xs ys ss 0 ss
    forward_start ss l = record { size = l; done = refl }

    taken-front : (t : ℕ) (a a' : List F) → length a ≡ length xs → t < length xs → RowTakenOff R xs ys t a a' → take (suc t) a' ≡ take (suc t) a
    taken-front t a a' l h r =
        ext_get_or O (take (suc t) a') (take (suc t) a) (length-take-le (suc t) a' (omega (arith, r.size)) ∙ sym (length-take-le (suc t) a (omega arith)))
        (λ k m. let m' : k < suc t = omega (arith, length-take-le (suc t) a' (omega (arith, r.size))) in
        get_or-take (suc t) a' k O m' ∙ r.kept k (omega arith) ∙ sym (get_or-take (suc t) a k O m'))

    taken_back : (t : ℕ) (a a' : List F) → length a ≡ length xs → t < length xs → RowTakenOff R xs ys t a a' → drop (suc t) a' ≡ reduce R (get_or xs t O) (get_or ys t O) (get_or a t O) (drop (suc t) xs) (drop (suc t) a)
    taken_back t a a' l h r =
        let dx : length (drop (suc t) xs) ≡ length xs - suc t = length-drop (suc t) xs in
        let da : length (drop (suc t) a) ≡ length xs - suc t = length-drop (suc t) a ∙ ap (λ (n : ℕ). n - suc t) l in
        let da' : length (drop (suc t) a') ≡ length xs - suc t = length-drop (suc t) a' ∙ ap (λ (n : ℕ). n - suc t) r.size in
        ext_get_or O (drop (suc t) a') (reduce R (get_or xs t O) (get_or ys t O) (get_or a t O) (drop (suc t) xs) (drop (suc t) a))
        (da' ∙ sym dx ∙ sym (length-reduce R (get_or xs t O) (get_or ys t O) (get_or a t O) (drop (suc t) xs) (drop (suc t) a) (da ∙ sym dx)))
        (λ k m.
        get_or-drop (suc t) a' k O ∙ r.made (suc t + k) (omega arith) (omega arith)
        ∙ sym (get_or-reduce R (get_or xs t O) (get_or ys t O) (get_or a t O) (drop (suc t) xs) (drop (suc t) a) k O (omega arith) (da ∙ sym dx)
        ∙ ap₂ (λ (x s : F). ((x ⊕ get_or ys t O) ⊗ s ⊕ (get_or xs t O ⊕ get_or ys t O) ⊗ get_or a t O) ⊗ inv (get_or xs t O ⊕ x)) (get_or-drop (suc t) xs k O) (get_or-drop (suc t) a k O)))

    pub forward_next : (ss : List F) (t : ℕ) (a a' : List F) → t < length xs → Forward xs ys ss t a → RowTakenOff R xs ys t a a' → Forward xs ys ss (suc t) a'
    unfolding forward
    forward_next ss t a a' h f r = record {
      size = r.size;
      done =
          ap₂ (λ (u v : List F). u ++ forward R (drop (suc t) xs) (drop (suc t) ys) v) (taken-front t a a' f.size h r) (taken_back t a a' f.size h r)
          ∙ ap (λ (u : List F). u ++ forward R (drop (suc t) xs) (drop (suc t) ys) (reduce R (get_or xs t O) (get_or ys t O) (get_or a t O) (drop (suc t) xs) (drop (suc t) a))) (take-suc a t O (omega (arith, f.size)))
          ∙ append_snoc (take t a) (get_or a t O) (forward R (drop (suc t) xs) (drop (suc t) ys) (reduce R (get_or xs t O) (get_or ys t O) (get_or a t O) (drop (suc t) xs) (drop (suc t) a)))
          ∙ ap (λ (u : List F). take t a ++ u) (sym (unrolled))
          ∙ f.done;
    }
      where
        unrolled : forward R (drop t xs) (drop t ys) (drop t a) ≡ get_or a t O ∷ forward R (drop (suc t) xs) (drop (suc t) ys) (reduce R (get_or xs t O) (get_or ys t O) (get_or a t O) (drop (suc t) xs) (drop (suc t) a))
        unrolled = rw (drop-cons xs t O (omega arith), drop-cons ys t O (omega arith), drop-cons a t O (omega (arith, f.size)))

    pub forward-end : (ss a : List F) → Forward xs ys ss (length xs) a → a ≡ forward R xs ys ss
    unfolding forward
    forward-end ss a f =
        sym (ap₂ (λ (u v : List F). u ++ forward R v (drop (length xs) ys) (drop (length xs) a)) (take_all (length xs) a (omega (arith, f.size))) (drop_of_length-le xs {i = length xs} (omega arith)) ∙ append-nil a) ∙ f.done

    -- ---- backward

    pub backward_start : (ps : List F) → length ps ≡ length xs → Backward xs ys ps (length xs) ps
    unfolding backward zeros
    backward_start ps l = record {
      size = l;
      todo = λ k h. refl;
      done = drop_of_length-le ps {i = length xs} (omega arith) ∙ sym (ap₂ (λ (u v : List F). backward R u v (drop (length xs) ps)) (drop_of_length-le xs {i = length xs} (omega arith)) (drop_of_length-le ys {i = length xs} (omega arith)));
    }

    found_back : (t : ℕ) (a a' : List F) → length a ≡ length xs → t < length xs → UnknownFound R xs ys t a a' → drop (suc t) a' ≡ back R (get_or xs t O) (get_or ys t O) (drop (suc t) ys) (drop (suc t) a)
    found_back t a a' l h r =
        let dy : length (drop (suc t) ys) ≡ length xs - suc t = length-drop (suc t) ys ∙ ap (λ (n : ℕ). n - suc t) ly in
        let da : length (drop (suc t) a) ≡ length xs - suc t = length-drop (suc t) a ∙ ap (λ (n : ℕ). n - suc t) l in
        let da' : length (drop (suc t) a') ≡ length xs - suc t = length-drop (suc t) a' ∙ ap (λ (n : ℕ). n - suc t) r.size in
        ext_get_or O (drop (suc t) a') (back R (get_or xs t O) (get_or ys t O) (drop (suc t) ys) (drop (suc t) a))
        (da' ∙ sym dy ∙ sym (length_back R (get_or xs t O) (get_or ys t O) (drop (suc t) ys) (drop (suc t) a) (da ∙ sym dy)))
        (λ k m.
        get_or-drop (suc t) a' k O ∙ r.made (suc t + k) (omega arith) (omega arith)
        ∙ sym (get_or-back R (get_or xs t O) (get_or ys t O) (drop (suc t) ys) (drop (suc t) a) k O (omega arith) (da ∙ sym dy)
        ∙ ap₂ (λ (y d : F). d ⊗ ((get_or xs t O ⊕ y) ⊗ inv (get_or ys t O ⊕ y))) (get_or-drop (suc t) ys k O) (get_or-drop (suc t) a k O)))

    pub backward_next : (ps : List F) (t : ℕ) (a a' : List F) → length ps ≡ length xs → t < length xs → Backward xs ys ps (suc t) a → UnknownFound R xs ys t a a' → Backward xs ys ps t a'
    unfolding backward extend first
    backward_next ps t a a' lp h b r = record {
      size = r.size;
      todo = λ k m. r.kept k m ∙ b.todo k (omega arith);
      done = drop-cons a' t O (omega (arith, r.size)) ∙ ap₂ ◌∷◌ head tail ∙ sym unrolled;
    }
      where
        ds : List F
        ds = back R (get_or xs t O) (get_or ys t O) (drop (suc t) ys) (backward R (drop (suc t) xs) (drop (suc t) ys) (drop (suc t) ps))

        tail : drop (suc t) a' ≡ ds
        tail = found_back t a a' b.size h r ∙ ap (back R (get_or xs t O) (get_or ys t O) (drop (suc t) ys)) b.done

        head : get_or a' t O ≡ (get_or xs t O ⊕ get_or ys t O) ⊗ (get_or ps t O ⊕ dot R (get_or xs t O) (drop (suc t) ys) ds)
        head = r.here ∙ ap₂ (λ (s : F) (l : List F). (get_or xs t O ⊕ get_or ys t O) ⊗ (s ⊕ dot R (get_or xs t O) (drop (suc t) ys) l)) (b.todo t (omega arith)) tail

        unrolled : backward R (drop t xs) (drop t ys) (drop t ps) ≡ (get_or xs t O ⊕ get_or ys t O) ⊗ (get_or ps t O ⊕ dot R (get_or xs t O) (drop (suc t) ys) ds) ∷ ds
        unrolled = rw (drop-cons xs t O (omega arith), drop-cons ys t O (omega arith), drop-cons ps t O (omega arith))

    pub backward-end : (ps a : List F) → Backward xs ys ps 0 a → a ≡ backward R xs ys ps
    backward-end ps a b = b.done

pub set_below : (b : ℕ) (l : List ℕ) (k v : ℕ) → Below b l → v < b → Below b (set l k v)
set_below b l k v w h i m = go (ℕ_discrete i k)
  where
    go : Dec (i ≡ k) → get_or (set l k v) i 0 < b
    go (yes q) = rw q (rw (get_or-set_same l k v 0 (omega (arith, length-set l k v))) h)
    go (no n) = rw (get_or-set_other l k i v 0 n) (w i (omega (arith, length-set l k v)))

-- ---- over words, for code: one element of a step, and what a loop over the rows keeps
-- step t of the forward pass has come to row k
pub record TakingOff (b : ℕ) (xs ys : List ℕ) (t k : ℕ) (a a' : List ℕ) : Type 0 where
  pub size : length a' ≡ length xs
  pub below : Below b a'
  pub past : t < k
  pub within : k ≤ length xs
  pub kept : (i : ℕ) → i ≤ t → get_or a' i 0 ≡ get_or a i 0
  pub made : (i : ℕ) → t < i → i < k → get_or a' i 0 ≡ reduce_one (get_or xs t 0) (get_or ys t 0) (get_or a t 0) (get_or xs i 0) (get_or a i 0)
  pub rest : (i : ℕ) → k ≤ i → get_or a' i 0 ≡ get_or a i 0

pub taking_start : (b : ℕ) (xs ys : List ℕ) (t : ℕ) (a : List ℕ) → length a ≡ length xs → Below b a → t < length xs → TakingOff b xs ys t (t + 1) a a
taking_start b xs ys t a l w h = record { size = l; below = w; past = omega arith; within = omega arith; kept = λ i m. refl; made = λ i m n. absurd (omega arith); rest = λ i m. refl }

pub taking_turn : (b : ℕ) (xs ys : List ℕ) (t k : ℕ) (a a' : List ℕ) (r : ℕ) → TakingOff b xs ys t k a a' → k < length xs → r < b
    → r ≡ reduce_one (get_or xs t 0) (get_or ys t 0) (get_or a' t 0) (get_or xs k 0) (get_or a' k 0) → TakingOff b xs ys t (k + 1) a (set a' k r)
taking_turn b xs ys t k a a' r R h hr e = record {
  size = length-set a' k r ∙ R.size;
  below = λ i m. at_below i (omega (arith, length-set a' k r)) (ℕ_discrete i k);
  past = omega (arith, R.past);
  within = omega arith;
  kept = λ i m. get_or-set_other a' k i r 0 (omega (arith, R.past)) ∙ R.kept i m;
  made = λ i m n. at-made i m n (ℕ_discrete i k);
  rest = λ i m. get_or-set_other a' k i r 0 (omega arith) ∙ R.rest i (omega arith);
}
  where
    lk : k < length a'
    lk = omega (arith, R.size)

    at_below : (i : ℕ) → i < length a' → Dec (i ≡ k) → get_or (set a' k r) i 0 < b
    at_below i m (yes q) = rw q (rw (get_or-set_same a' k r 0 lk) hr)
    at_below i m (no n) = rw (get_or-set_other a' k i r 0 n) (R.below i m)

    here : get_or (set a' k r) k 0 ≡ reduce_one (get_or xs t 0) (get_or ys t 0) (get_or a t 0) (get_or xs k 0) (get_or a k 0)
    here = get_or-set_same a' k r 0 lk ∙ e ∙ ap₂ (λ (u v : ℕ). reduce_one (get_or xs t 0) (get_or ys t 0) u (get_or xs k 0) v) (R.kept t (omega arith)) (R.rest k (omega arith))

    at-made : (i : ℕ) → t < i → i < k + 1 → Dec (i ≡ k) → get_or (set a' k r) i 0 ≡ reduce_one (get_or xs t 0) (get_or ys t 0) (get_or a t 0) (get_or xs i 0) (get_or a i 0)
    at-made i m n (yes q) = rw q here
    at-made i m n (no d) = get_or-set_other a' k i r 0 d ∙ R.made i m (omega arith)

pub taking_end : (b : ℕ) (xs ys : List ℕ) (t k : ℕ) (a a' : List ℕ) → TakingOff b xs ys t k a a' → length xs ≤ k → RowTakenOff field xs ys t a a'
taking_end b xs ys t k a a' R h = record { size = R.size; kept = R.kept; made = λ i m n. R.made i m (omega arith) }

-- step t of the backward pass has come down to the unknown k, and `acc` is the sum from there on
pub record Finding (b : ℕ) (xs ys : List ℕ) (t k : ℕ) (a a' : List ℕ) (acc : ℕ) : Type 0 where
  pub size : length a' ≡ length xs
  pub below : Below b a'
  pub past : t < k
  pub within : k ≤ length xs
  pub small : acc < b
  pub kept : (i : ℕ) → i < k → get_or a' i 0 ≡ get_or a i 0
  pub made : (i : ℕ) → k ≤ i → i < length xs → get_or a' i 0 ≡ scale_one (get_or xs t 0) (get_or ys t 0) (get_or ys i 0) (get_or a i 0)
  pub sum : acc ≡ dot field (get_or xs t 0) (drop k ys) (drop k a')

pub finding_start : (b : ℕ) (xs ys : List ℕ) (t : ℕ) (a : List ℕ) → length ys ≡ length xs → length a ≡ length xs → Below b a → 0 < b → t < length xs → Finding b xs ys t (length xs) a a 0
unfolding dot
finding_start b xs ys t a ly la w hb h = record {
  size = la;
  below = w;
  past = h;
  within = omega arith;
  small = hb;
  kept = λ i m. refl;
  made = λ i m n. absurd (omega arith);
  sum = sym (ap (λ (l : List ℕ). dot field (get_or xs t 0) l (drop (length xs) a)) (drop_of_length-le ys {i = length xs} (omega arith)));
}

pub finding_turn : (b : ℕ) (xs ys : List ℕ) (t k : ℕ) (a a' : List ℕ) (acc v acc' : ℕ) → length ys ≡ length xs → Finding b xs ys t (k + 1) a a' acc → t < k → v < b → acc' < b
    → v ≡ scale_one (get_or xs t 0) (get_or ys t 0) (get_or ys k 0) (get_or a' k 0) → acc' ≡ bit_xor (term_one (get_or xs t 0) (get_or ys k 0) v) acc
    → Finding b xs ys t k a (set a' k v) acc'
unfolding dot
finding_turn b xs ys t k a a' acc v acc' ly T h hv hacc ev eacc = record {
  size = length-set a' k v ∙ T.size;
  below = λ i m. set_below b a' k v T.below hv i m;
  past = h;
  within = omega (arith, T.within);
  small = hacc;
  kept = λ i m. get_or-set_other a' k i v 0 (omega arith) ∙ T.kept i (omega arith);
  made = λ i m n. at-made i m n (ℕ_discrete i k);
  sum = eacc ∙ ap (bit_xor (term_one (get_or xs t 0) (get_or ys k 0) v)) (T.sum ∙ ap (λ (n : ℕ). dot field (get_or xs t 0) (drop n ys) (drop n a')) (add-one k)) ∙ sym unrolled;
}
  where
    lk : k < length a'
    lk = omega (arith, T.size, T.within)

    at-made : (i : ℕ) → k ≤ i → i < length xs → Dec (i ≡ k) → get_or (set a' k v) i 0 ≡ scale_one (get_or xs t 0) (get_or ys t 0) (get_or ys i 0) (get_or a i 0)
    at-made i m n (yes q) = rw q (get_or-set_same a' k v 0 lk ∙ ev ∙ ap (scale_one (get_or xs t 0) (get_or ys t 0) (get_or ys k 0)) (T.kept k (omega arith)))
    at-made i m n (no d) = get_or-set_other a' k i v 0 d ∙ T.made i (omega arith) n

    unrolled : dot field (get_or xs t 0) (drop k ys) (drop k (set a' k v)) ≡ bit_xor (term_one (get_or xs t 0) (get_or ys k 0) v) (dot field (get_or xs t 0) (drop (suc k) ys) (drop (suc k) a'))
    unrolled =
        ap₂ (dot field (get_or xs t 0)) (drop-cons ys k 0 (omega (arith, T.within)))
        (drop-cons (set a' k v) k 0 (rw length-set lk) ∙ ap₂ ◌∷◌ (get_or-set_same a' k v 0 lk) (drop-set-lt (suc k) a' k v (omega arith)))

pub finding_end : (b : ℕ) (xs ys : List ℕ) (t : ℕ) (a a' : List ℕ) (acc r : ℕ) → Finding b xs ys t (t + 1) a a' acc → t < length xs
    → r ≡ mul (bit_xor (get_or xs t 0) (get_or ys t 0)) (bit_xor (get_or a' t 0) acc) → UnknownFound field xs ys t a (set a' t r)
finding_end b xs ys t a a' acc r T h er = record {
  size = length-set a' t r ∙ T.size;
  kept = λ i m. get_or-set_other a' t i r 0 (omega arith) ∙ T.kept i (omega arith);
  made = λ i m n. get_or-set_other a' t i r 0 (omega arith) ∙ T.made i (omega arith) n;
  here =
      get_or-set_same a' t r 0 (omega (arith, T.size)) ∙ er
      ∙ ap₂ (λ (s c : ℕ). mul (bit_xor (get_or xs t 0) (get_or ys t 0)) (bit_xor s c)) (T.kept t (omega arith))
      (T.sum ∙ ap (λ (n : ℕ). dot field (get_or xs t 0) (drop n ys) (drop n a')) (add-one t) ∙ ap (dot field (get_or xs t 0) (drop (suc t) ys)) (sym (drop-set-lt (suc t) a' t r (omega arith))));
}

-- the same, as the code counts: from K to K - 1
pub finding_down : (b : ℕ) (xs ys : List ℕ) (t K : ℕ) (a a' : List ℕ) (acc v acc' : ℕ) → length ys ≡ length xs → Finding b xs ys t K a a' acc → t + 1 < K → v < b → acc' < b
    → v ≡ scale_one (get_or xs t 0) (get_or ys t 0) (get_or ys (K - 1) 0) (get_or a' (K - 1) 0) → acc' ≡ bit_xor (term_one (get_or xs t 0) (get_or ys (K - 1) 0) v) acc
    → Finding b xs ys t (K - 1) a (set a' (K - 1) v) acc'
finding_down b xs ys t K a a' acc v acc' ly T h hv hacc ev eacc =
    let e : K ≡ K - 1 + 1 = omega arith in
    finding_turn b xs ys t (K - 1) a a' acc v acc' ly (subst (λ (n : ℕ). Finding b xs ys t n a a' acc) e T) (omega arith) hv hacc ev eacc

pub finding_last : (b : ℕ) (xs ys : List ℕ) (t K : ℕ) (a a' : List ℕ) (acc r : ℕ) → Finding b xs ys t K a a' acc → K ≤ t + 1 → t < length xs
    → r ≡ mul (bit_xor (get_or xs t 0) (get_or ys t 0)) (bit_xor (get_or a' t 0) acc) → UnknownFound field xs ys t a (set a' t r)
finding_last b xs ys t K a a' acc r T h m er =
    let e : K ≡ t + 1 = omega (arith, T.past) in
    finding_end b xs ys t a a' acc r (subst (λ (n : ℕ). Finding b xs ys t n a a' acc) e T) m er
