-- What a walk finds and where it ends, by what one chunk more makes of it; and that its bound means nothing. Assumes nothing.
use Prim.Native.Nat.{ℕ, zero, suc, ◌+◌, ◌-◌, ◌≤◌}
use mathlib.Core.Path.{◌≡◌, refl, sym, ap, ◌∙◌}
use mathlib.Core.Bool.{Bool, true, false}
use mathlib.Core.List.{List, [], ◌∷◌, ◌++◌}
use native.Mathlib.Omega.{arith}
use lib.ListN.{length, take, drop, length-drop}
use lib.Seq.{drop-drop, length-take-le}
use Rattle.sfc.specs.answer.Numbers.{passes}
use Rattle.sfc.specs.format.Chunk.{chunk_length, measure_checks}
use Rattle.sfc.specs.declared.format.header.Head.{Head}
use Rattle.sfc.proofs.Laws.{measure_laws}
use Rattle.std.specs.Prelude.{Some, None}
use Rattle.sfc_walk.specs.Walk.{front_length, some_length, chunks_in, chunks_of, length_of_all}
use Rattle.sfc_walk.specs.WalkTheorems.{concat}
use Rattle.sfc_walk.proofs.StepLaws.{front_some, front_none, no_chunk, next_chunk, length_some, length_none}

take_nothing : (n : ℕ) → take {A = ℕ} n [] ≡ []
take_nothing zero = refl
take_nothing (suc n) = refl

-- what a chunk and the bytes after it make of the whole
take-both : (k n : ℕ) (b : List ℕ) → take k b ++ take n (drop k b) ≡ take (k + n) b
take-both zero n b = let z : n ≡ 0 + n = omega arith in ap (λ (k : ℕ). take k b) z
take-both (suc k) n [] = take_nothing n ∙ sym (take_nothing (suc k + n))
take-both (suc k) n (x ∷ b) = let z : suc (k + n) ≡ suc k + n = omega arith in ap (◌∷◌ x) (take-both k n b) ∙ ap (λ (j : ℕ). take j (x ∷ b)) z

pub record Found (h : Head) (b : List ℕ) (cs : List (List ℕ)) : Type 0 where
  pub joined : concat cs ≡ take (length_of_all cs) b
  pub inside : length_of_all cs ≤ length b
  pub stops : passes (measure_checks h (drop (length_of_all cs) b)) ≡ false

module _ (h : Head) where
  abbrev rest : List ℕ → List ℕ
  rest b = drop (chunk_length b) b

  -- a chunk takes bytes away
  shorter : (most : ℕ) (b : List ℕ) → length b ≤ suc most → passes (measure_checks h b) ≡ true → length (rest b) ≤ most
  shorter most b l e = omega (arith, measure_laws.front-there h b e, length-drop (chunk_length b) b)

  some_left : (b : List ℕ) → length b ≤ 0 → passes (measure_checks h b) ≡ false
  some_left b l = go (passes (measure_checks h b)) refl
    where
      go : (t : Bool) → passes (measure_checks h b) ≡ t → passes (measure_checks h b) ≡ false
      go true e = absurd (omega (arith, measure_laws.front-there h b e))
      go false e = e

  -- ---- where a walk ends, and what it went over

  none : (most : ℕ) (b : List ℕ) → passes (measure_checks h b) ≡ false → Found h b (chunks_in most h b)
  unfolding concat length_of_all
  none most b e = rw (no_chunk h b most e) (record { joined = refl; inside = omega arith; stops = e })

  one_more : (b : List ℕ) (cs : List (List ℕ)) → chunk_length b ≤ length b → Found h (rest b) cs → Found h b (take (chunk_length b) b ∷ cs)
  unfolding concat length_of_all
  one_more b cs i f =
      let k : ℕ = chunk_length b in
      let l : length (take k b) ≡ k = length-take-le k b i in
      let m : length (take k b) + length_of_all cs ≡ k + length_of_all cs = omega arith in
      record {
        joined = ap (λ (x : List ℕ). take k b ++ x) f.joined ∙ take-both k (length_of_all cs) b ∙ ap (λ (j : ℕ). take j b) (sym m);
        inside = omega (arith, f.inside, length-drop k b);
        stops = ap (λ (x : List ℕ). passes (measure_checks h x)) (ap (λ (j : ℕ). drop j b) m ∙ sym (drop-drop (length_of_all cs) k b)) ∙ f.stops;
      }

  step : (most : ℕ) (b : List ℕ) → length b ≤ suc most → (length (rest b) ≤ most → Found h (rest b) (chunks_in most h (rest b)))
      → (t : Bool) → passes (measure_checks h b) ≡ t → Found h b (chunks_in (suc most) h b)
  step most b l rec false e = none (suc most) b e
  step most b l rec true e =
      let k : suc most - 1 ≡ most = omega arith in
      rw (next_chunk h b (suc most) (omega arith) e, k) (one_more b (chunks_in most h (rest b)) (measure_laws.front-there h b e) (rec (shorter most b l e)))

  pub found : (most : ℕ) (b : List ℕ) → length b ≤ most → Found h b (chunks_in most h b)
  found zero b l = none zero b (some_left b l)
  found (suc most) b l = step most b l (λ r. found most (rest b) r) (passes (measure_checks h b)) refl

  -- ---- the bound means nothing

  both_none : (m n : ℕ) (b : List ℕ) → passes (measure_checks h b) ≡ false → chunks_in m h b ≡ chunks_in n h b
  both_none m n b e = no_chunk h b m e ∙ sym (no_chunk h b n e)

  both_more : (m n : ℕ) (b : List ℕ) → length b ≤ suc m → length b ≤ suc n → (length (rest b) ≤ m → length (rest b) ≤ n → chunks_in m h (rest b) ≡ chunks_in n h (rest b))
      → (t : Bool) → passes (measure_checks h b) ≡ t → chunks_in (suc m) h b ≡ chunks_in (suc n) h b
  both_more m n b l k rec false e = both_none (suc m) (suc n) b e
  both_more m n b l k rec true e =
      let i : suc m - 1 ≡ m = omega arith in
      let j : suc n - 1 ≡ n = omega arith in
      rw (next_chunk h b (suc m) (omega arith) e, next_chunk h b (suc n) (omega arith) e, i, j)
      (ap (◌∷◌ (take (chunk_length b) b)) (rec (shorter m b l e) (shorter n b k e)))

  pub same : (m n : ℕ) (b : List ℕ) → length b ≤ m → length b ≤ n → chunks_in m h b ≡ chunks_in n h b
  same zero n b l k = both_none zero n b (some_left b l)
  same (suc m) zero b l k = both_none (suc m) zero b (some_left b k)
  same (suc m) (suc n) b l k = both_more m n b l k (λ p q. same m n (rest b) p q) (passes (measure_checks h b)) refl

  -- ---- a step by the length at the front

  pub none_front : (b : List ℕ) → front_length h b ≡ 0 → chunks_of h b ≡ []
  none_front b n = no_chunk h b (length b) (front_none h b n)

  pub next_front : (b : List ℕ) → (front_length h b ≡ 0 → ⊥)
      → (chunks_of h b ≡ take (front_length h b) b ∷ chunks_of h (drop (front_length h b) b)) × (84 ≤ front_length h b) × (front_length h b ≤ length b)
  next_front b n =
      let f = front_some h b n in
      let k : length (rest b) ≤ length b - 1 = omega (arith, f.inside, length-drop (chunk_length b) b) in
      let e = next_chunk h b (length b) (omega (arith, f.inside)) f.there ∙ ap (◌∷◌ (take (chunk_length b) b)) (same (length b - 1) (length (rest b)) (rest b) k (omega arith)) in
      (rw f.ends e, omega (arith, f.ends), omega (arith, f.ends, f.inside))

  -- ---- and by what is answered of it

  pub none_found : (b : List ℕ) → some_length (front_length h b) ≡ None → chunks_of h b ≡ []
  none_found b e = none_front b (length_none _ e)

  pub next_found : (b : List ℕ) (k : ℕ) → some_length (front_length h b) ≡ Some k
      → (chunks_of h b ≡ take k b ∷ chunks_of h (drop k b)) × (84 ≤ k) × (k ≤ length b)
  next_found b k e =
      let f = length_some _ k e in
      let n = next_front b f.1 in
      (rw f.0 n.0, omega (arith, n.1, f.0), omega (arith, n.2, f.0))
