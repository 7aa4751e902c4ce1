-- Tests over lists, zeros, and what rises: the words in which the floors above write down what a run of bytes or of numbers is.
-- Assumes nothing: these are definitions.
use Rattle.std.specs.Prelude.{ℕ, suc, Bool, true, false, ◌&&◌, ◌||◌, List, [], ◌∷◌, eqb, leb, replicate}

abbrev pub zeros : ℕ → List ℕ
zeros n = replicate n 0

-- whether a test holds of some element
unfoldable pub any : {A : Type 0} → (A → Bool) → List A → Bool
any p [] = false
any p (x ∷ xs) = p x || any p xs

-- whether x is one of them
abbrev pub among : ℕ → List ℕ → Bool
among x xs = any (λ (y : ℕ). eqb x y) xs

-- whether each of them is x, by a test of two
unfoldable pub are_all : {A : Type 0} → (A → A → Bool) → A → List A → Bool
are_all test x [] = true
are_all test x (y ∷ ys) = test y x && are_all test x ys

-- whether two lists are the same
unfoldable pub same : List ℕ → List ℕ → Bool
same [] [] = true
same [] (y ∷ ys) = false
same (x ∷ xs) [] = false
same (x ∷ xs) (y ∷ ys) = eqb x y && same xs ys

-- whether they rise, each above the one before it, the first from `least` on
unfoldable pub rising_from : ℕ → List ℕ → Bool
rising_from least [] = true
rising_from least (x ∷ xs) = leb least x && rising_from (suc x) xs
