-- One step of the walk: where there is a next chunk and where there is none, what it makes of the chunks. Assumes nothing.
use Prim.Native.Nat.{ℕ, zero, suc, ◌-◌, ◌<◌, ◌≤◌}
use mathlib.Core.Path.{◌≡◌, refl, sym}
use mathlib.Core.Bool.{Bool, true, false}
use mathlib.Core.List.{List, [], ◌∷◌}
use native.Mathlib.Omega.{arith}
use lib.ListN.{length, take, drop}
use Rattle.std.specs.Prelude.{Option, Some, None}
use Rattle.sfc.specs.answer.Numbers.{passes}
use Rattle.sfc.specs.format.Chunk.{chunk_length, measure_checks}
use Rattle.sfc.specs.declared.format.header.Head.{Head}
use Rattle.sfc.proofs.Laws.{measure_laws}
use Rattle.sfc_walk.specs.Walk.{front_length, some_length, chunks_in}

pub length_some : (n k : ℕ) → some_length n ≡ Some k → (k ≡ n) × (n ≡ 0 → ⊥)
unfolding some_length
length_some zero k e = let q : ◌≡◌ {A = Option ℕ} None (Some k) = e in absurd (let z : ◌≡◌ {A = ℕ} 0 1 = cc in omega arith)
length_some (suc n) k e = let q : ◌≡◌ {A = Option ℕ} (Some (suc n)) (Some k) = e in (let i : suc n ≡ k = cc in sym i, λ z. omega (arith, z))

pub length_none : (n : ℕ) → some_length n ≡ None → n ≡ 0
unfolding some_length
length_none zero e = refl
length_none (suc n) e = let q : ◌≡◌ {A = Option ℕ} (Some (suc n)) None = e in absurd (let z : ◌≡◌ {A = ℕ} 0 1 = cc in omega arith)

pub length_long : (n : ℕ) → 0 < n → some_length n ≡ Some n
unfolding some_length
length_long zero h = absurd (omega arith)
length_long (suc n) h = refl

module _ (h : Head) (b : List ℕ) where
  -- a chunk is at the front, all of it
  pub record Front : Type 0 where
    pub there : passes (measure_checks h b) ≡ true
    pub ends : front_length h b ≡ chunk_length b
    pub inside : chunk_length b ≤ length b

  pub front_some : (front_length h b ≡ 0 → ⊥) → Front
  unfolding front_length
  front_some n = go (passes (measure_checks h b)) refl
    where
      go : (t : Bool) → passes (measure_checks h b) ≡ t → Front
      go true e = record { there = e; ends = rw e; inside = measure_laws.front-there h b e }
      go false e = absurd (n (rw e))

  pub front_none : front_length h b ≡ 0 → passes (measure_checks h b) ≡ false
  unfolding front_length
  front_none n = go (passes (measure_checks h b)) refl
    where
      go : (t : Bool) → passes (measure_checks h b) ≡ t → passes (measure_checks h b) ≡ false
      go true e = let f : chunk_length b ≡ 0 = rw e at n in absurd (omega arith)
      go false e = e

  pub no_chunk : (most : ℕ) → passes (measure_checks h b) ≡ false → chunks_in most h b ≡ []
  unfolding chunks_in
  no_chunk zero n = refl
  no_chunk (suc most) n = rw n

  pub next_chunk : (most : ℕ) → 0 < most → passes (measure_checks h b) ≡ true
      → chunks_in most h b ≡ take (chunk_length b) b ∷ chunks_in (most - 1) h (drop (chunk_length b) b)
  unfolding chunks_in
  next_chunk zero l e = absurd (omega arith)
  next_chunk (suc most) l e = let k : suc most - 1 ≡ most = omega arith in rw (k, e)
