-- A turn of the loop that offers the chunks. Assumes nothing.
use Prim.Native.Nat.{ℕ, ◌+◌, ◌<◌, ◌≤◌}
use mathlib.Core.Path.{◌≡◌, refl, sym, ap, ◌∙◌}
use mathlib.Core.List.{List, [], ◌∷◌}
use native.Mathlib.Omega.{arith}
use lib.ListN.{length, take, drop, length-drop}
use lib.Seq.{drop-drop, length-take-le}
use Rattle.std.specs.Prelude.{Option, Some, None}
use Rattle.sfc.specs.session.Offer.{Logged, logged_after, logged_all, Offered, offered_of, offered}
use Rattle.sfc.specs.declared.format.header.Head.{Head}
use Rattle.sfc.specs.declared.answer.places.BytePlace.{BytePlace}
use Rattle.sfc.specs.declared.session.offer.Verdict.{Verdict}
use Rattle.sfc_walk.specs.Walk.{front_length, some_length, chunks_of, length_of_all, Walk, walk_over}
use Rattle.sfc_walk.proofs.FoundLaws.{none_found, next_found}

-- the walk from here on, with `at` bytes done
abbrev onward : Head → List ℕ → ℕ → Logged → Walk
onward h b at y = record { kept = logged_all h y (chunks_of h (drop at b)); end = at + length_of_all (chunks_of h (drop at b)) }

-- what an offer leaves of all that is kept
kept-left : (h : Head) (y : Logged) (c : List ℕ) → (offered h y c).kept ≡ logged_after h y c
unfolding offered
kept-left h y c = refl

module _ (h : Head) (y₀ : Logged) (b : List ℕ) where
  -- the chunks from place `at` on make of what is kept by then what all chunks make of what was kept at first
  pub record Walking (at : ℕ) (y : Logged) : Type 0 where
    pub inside : at ≤ length b
    pub same : onward h b at y ≡ walk_over h y₀ b

  pub walking_start : Walking 0 y₀
  unfolding walk_over
  walking_start =
      let z : 0 + length_of_all (chunks_of h b) ≡ length_of_all (chunks_of h b) = omega arith in
      record { inside = omega arith; same = ap (λ (k : ℕ). record { kept = logged_all h y₀ (chunks_of h b); end = k }) z }

  ended : (at : ℕ) (y : Logged) (cs : List (List ℕ)) → cs ≡ [] → ◌≡◌ {A = Walk} (record { kept = y; end = at }) (record { kept = logged_all h y cs; end = at + length_of_all cs })
  unfolding logged_all length_of_all
  ended at y cs e = let z : at ≡ at + 0 = omega arith in rw e (ap (λ (k : ℕ). record { kept = y; end = k }) z)

  module _ (at : ℕ) (y : Logged) (t : List ℕ) (w : Walking at y) (rest : t ≡ drop at b) (x : Option ℕ) (ex : x ≡ some_length (front_length h t)) where
    pub walking_stop : x ≡ None → ◌≡◌ {A = Walk} (record { kept = y; end = at }) (walk_over h y₀ b)
    walking_stop n = ended at y (chunks_of h (drop at b)) (ap (chunks_of h) (sym rest) ∙ none_found h t (sym ex ∙ n)) ∙ w.same

    module _ (k : ℕ) (some : x ≡ Some k) where
      next : (chunks_of h t ≡ take k t ∷ chunks_of h (drop k t)) × (84 ≤ k) × (k ≤ length t)
      next = next_found h t k (sym ex ∙ some)

      pub front_inside : (at + k ≤ length b) × (0 < k)
      front_inside =
          let l = length-drop at b in
          (omega (arith, next.2, ap length rest, l, w.inside), omega (arith, next.1))

      pub walking_on : (c : List ℕ) (z : Logged) (v : Verdict) (s : Option BytePlace) → c ≡ take k (drop at b) → offered_of z v s ≡ offered h y c → Walking (at + k) z
      unfolding logged_all length_of_all
      walking_on c z v s ec e =
          let cs : List (List ℕ) = chunks_of h (drop (at + k) b) in
          let ez : z ≡ logged_after h y c = ap (λ (o : Offered). o.kept) e ∙ kept-left h y c in
          let n : chunks_of h (drop at b) ≡ c ∷ cs = rw (ec, ← drop-drop k at b, ← rest) next.0 in
          let l : length c ≡ k = ap length ec ∙ length-take-le k (drop at b) (omega (arith, front_inside.0, length-drop at b)) in
          let m : at + (length c + length_of_all cs) ≡ at + k + length_of_all cs = omega arith in
          record { inside = front_inside.0; same = rw (ez, ← m) (rw n at w.same) }
