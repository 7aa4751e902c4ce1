-- An index put before pairs, and how ranges are laid out in pairs, which the inner functions that write ranges promise and take for
-- granted. A reader of the promises can skip this file. Assumes nothing: these are definitions.
use Rattle.std.specs.Prelude.{ℕ, suc, ◌+◌, ◌≡◌, Bool, true, false, cond, List, [], ◌∷◌, ◌++◌, eqb, length, drop}
use Rattle.sfc.specs.note.Ranges.{Range, put_before}

-- what stands from a pair on once an index, written as `one`, is put before it: it is that pair's first now, or a pair of its own
unfoldable pub index_put : Bool → List ℕ → List ℕ → List ℕ
index_put joined one rest = cond joined (one ++ drop (length one) rest) (one ++ (one ++ rest))

-- an index put before pair k, where `at k` is the place of that pair; r is the pair that has it
abbrev pub IndexPut : (ℕ → ℕ) → List ℕ → List ℕ → List ℕ → ℕ → ℕ → Bool → Type 0
IndexPut at one out after k r joined =
    (joined ≡ true → r ≡ k) × (joined ≡ false → r + 1 ≡ k) × (drop (at r) after ≡ index_put joined one (drop (at k) out))

-- whether the first range begins at i
unfoldable pub begins_at : ℕ → List Range → Bool
begins_at i [] = false
begins_at i (r ∷ rs) = eqb i r.first

-- `lay` writes ranges with each index as `one` writes it, bound b at place b
pub record Layout (lay : List Range → List ℕ) (place : ℕ → ℕ) (one : ℕ → List ℕ) : Type 0 where
  pub none : lay [] ≡ []
  pub before : (joined : Bool) (i : ℕ) (rs : List Range) (tail : List ℕ) → joined ≡ begins_at (suc i) rs
      → index_put joined (one i) (lay rs ++ tail) ≡ lay (put_before i rs) ++ tail
  pub next : (b i : ℕ) → place (b + 1) ≡ place b + length (one i)
