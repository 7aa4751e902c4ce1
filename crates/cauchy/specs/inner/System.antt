-- A reader of the promises may skip this file. The equations that give the missing words: for rows x and columns y, no two of
-- them alike, find d with the field sum over l of d_l / (x_i + y_l) equal to s_i for each i. They are solved by taking off one row
-- and one column at a time. That the solution is the only one is proved (proofs/algebra/SystemLaws.antt); `known`
-- (specs/Theorems.antt) says what it means for the code. Assumes nothing: these are definitions.
use Rattle.std.specs.Prelude.{List, [], ◌∷◌, ℕ}
use Rattle.std.specs.Int.Bits.{bit_xor}
use Rattle.gf16.specs.Field.{mul, inv}

-- the operations of a field, with no law
pub record Ops : Type 1 where
  pub F : Type 0
  pub ◌⊕◌ : F → F → F
  pub ◌⊗◌ : F → F → F
  pub inv : F → F
  pub O : F
  pub I : F

-- those of the field of 2 ^ 16 elements
abbrev pub field : Ops
field = record { F = ℕ; ◌⊕◌ = bit_xor; ◌⊗◌ = mul; inv = inv; O = 0; I = 1 }

module _ (R : Ops) where
  open R use {F, ◌⊕◌, ◌⊗◌, inv, O, I}

  infixl 65 ◌⊕◌
  infixl 70 ◌⊗◌
  -- the left side of row x: the sum of d_l / (x + y_l)
  unfoldable pub dot : F → List F → List F → F
  dot x [] ds = O
  dot x (y ∷ ys) [] = O
  dot x (y ∷ ys) (d ∷ ds) = d ⊗ inv (x ⊕ y) ⊕ dot x ys ds

  unfoldable pub zeros : List F → List F
  zeros [] = []
  zeros (y ∷ ys) = O ∷ zeros ys

  -- the right sides that are left when row x₀, with its right side s₀, and column y₀ are taken off
  unfoldable pub reduce : F → F → F → List F → List F → List F
  reduce x₀ y₀ s₀ [] ss = []
  reduce x₀ y₀ s₀ (x ∷ xs) [] = []
  reduce x₀ y₀ s₀ (x ∷ xs) (s ∷ ss) = ((x ⊕ y₀) ⊗ s ⊕ (x₀ ⊕ y₀) ⊗ s₀) ⊗ inv (x₀ ⊕ x) ∷ reduce x₀ y₀ s₀ xs ss

  -- the unknowns of the larger system from those of the smaller
  unfoldable pub back : F → F → List F → List F → List F
  back x₀ y₀ [] ds = []
  back x₀ y₀ (y ∷ ys) [] = []
  back x₀ y₀ (y ∷ ys) (d ∷ ds) = d ⊗ ((x₀ ⊕ y) ⊗ inv (y₀ ⊕ y)) ∷ back x₀ y₀ ys ds

  -- the unknown of column y₀, from row x₀ and the other unknowns
  unfoldable pub first : F → F → F → List F → List F → F
  first x₀ y₀ s₀ ys ds = (x₀ ⊕ y₀) ⊗ (s₀ ⊕ dot x₀ ys ds)

  unfoldable pub extend : F → F → F → List F → List F → List F
  extend x₀ y₀ s₀ ys ds = first x₀ y₀ s₀ ys ds ∷ ds

  -- the unknowns, for the rows, the columns and the right sides
  unfoldable pub solve : List F → List F → List F → List F
  solve [] ys ss = zeros ys
  solve (x ∷ xs) [] ss = []
  solve (x ∷ xs) (y ∷ ys) [] = zeros (y ∷ ys)
  solve (x ∷ xs) (y ∷ ys) (s ∷ ss) = extend x y s ys (back x y ys (solve xs ys (reduce x y s xs ss)))
