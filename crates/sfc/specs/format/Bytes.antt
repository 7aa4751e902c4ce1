-- The words in which the container's layouts are written down: tests over lists, texts at a place, names. Assumes nothing:
-- these are definitions.
use Rattle.std.specs.Prelude.{ℕ, zero, suc, ◌-◌, ◌/◌, ◌%◌, ◌^◌, Bool, true, ◌&&◌, List, [], ◌∷◌, ◌++◌, eqb, length, get_or}
use Rattle.little.specs.Runs.{zeros}

-- whether the bytes ys stand in s from place `at` on
unfoldable pub stands_at : List ℕ → ℕ → List ℕ → Bool
stands_at s at [] = true
stands_at s at (y ∷ ys) = eqb (get_or s at 0) y && stands_at s (suc at) ys

-- b, and zeros after it up to `width` bytes
abbrev pub padded : ℕ → List ℕ → List ℕ
padded width b = b ++ zeros (width - length b)

-- the bytes before the first zero, or all
unfoldable pub before_zero : List ℕ → List ℕ
before_zero [] = []
before_zero (zero ∷ b) = []
before_zero (suc x ∷ b) = suc x ∷ before_zero b

-- whether bit k of a number is set
abbrev pub bit : ℕ → ℕ → Bool
bit k x = eqb (x / 2 ^ k % 2) 1
