-- A reader of the promises may skip this file: it says what the inner functions promise each other. Assumes nothing: these are
-- definitions.
use Rattle.std.specs.Prelude.{◌≡◌, ◌≢◌, Bool, cond, not, ◌||◌, ltb, eqb, Ok, Err, ◌++◌, ◌-◌, List, [], ◌∷◌, ℕ, suc, ◌+◌, ◌*◌, ◌/◌, ◌%◌, ◌≤◌, ◌<◌, length, get_or, drop}
use Rattle.std.specs.Int.Bits.{bit_xor}
use Rattle.gf16.specs.Field.{mul, inv}
use Rattle.cauchy.specs.Code.{most_recovery, least_block, most_block, joined, recovery_block}
use Rattle.cauchy.specs.inner.System.{Ops, field, dot, zeros, reduce, back, extend, solve}
use Rattle.cauchy.specs.Decode.{sides}
use Rattle.cauchy.specs.Calls.{filled, Recovered, recovered}
use Rattle.cauchy.specs.declared.shape.Refusal.{Refusal}

-- each element is below b
abbrev pub Below : ℕ → List ℕ → Type 0
Below b l = (i : ℕ) → i < length l → get_or l i 0 < b

-- ---- `solve` in two passes over one array

module _ {A : Type 0} where
  -- x is no element of the list
  abbrev pub Apart : A → List A → Type 0
  Apart x [] = Unit {0}
  Apart x (y ∷ ys) = (x ≢ y) × Apart x ys

  -- no two elements are alike
  abbrev pub Distinct : List A → Type 0
  Distinct [] = Unit {0}
  Distinct (x ∷ xs) = Apart x xs × Distinct xs

  -- no element of the one is an element of the other
  abbrev pub Cross : List A → List A → Type 0
  Cross [] ys = Unit {0}
  Cross (x ∷ xs) ys = Apart x ys × Cross xs ys

  -- rows and columns of a system that can be solved
  pub record Nodes (xs ys : List A) : Type 0 where
    pub rows : Distinct xs
    pub cols : Distinct ys
    pub apart : Cross xs ys

module _ (R : Ops) where
  open R use {F, ◌⊕◌, ◌⊗◌, inv, O, I}

  infixl 65 ◌⊕◌
  infixl 70 ◌⊗◌
  -- forward: each row in turn is taken off those after it
  unfoldable pub forward : List F → List F → List F → List F
  forward [] ys ss = []
  forward (x ∷ xs) [] ss = []
  forward (x ∷ xs) (y ∷ ys) [] = []
  forward (x ∷ xs) (y ∷ ys) (s ∷ ss) = s ∷ forward xs ys (reduce R x y s xs ss)

  -- backward: each unknown in turn is found from those after it
  unfoldable pub backward : List F → List F → List F → List F
  backward [] ys ps = zeros R ys
  backward (x ∷ xs) [] ps = []
  backward (x ∷ xs) (y ∷ ys) [] = zeros R (y ∷ ys)
  backward (x ∷ xs) (y ∷ ys) (p ∷ ps) = extend R x y p ys (back R x y ys (backward xs ys ps))

  module _ (xs ys : List F) where
    abbrev X : ℕ → F
    X i = get_or xs i O

    abbrev Y : ℕ → F
    Y i = get_or ys i O

    -- step t of the forward pass: row t is taken off each row k after it
    pub record RowTakenOff (t : ℕ) (a a' : List F) : Type 0 where
      pub size : length a' ≡ length xs
      pub kept : (k : ℕ) → k ≤ t → get_or a' k O ≡ get_or a k O
      pub made : (k : ℕ) → t < k → k < length xs → get_or a' k O ≡ ((X k ⊕ Y t) ⊗ get_or a k O ⊕ (X t ⊕ Y t) ⊗ get_or a t O) ⊗ inv (X t ⊕ X k)

    -- step t of the backward pass: each unknown k after t, and then the unknown t
    pub record UnknownFound (t : ℕ) (a a' : List F) : Type 0 where
      pub size : length a' ≡ length xs
      pub kept : (k : ℕ) → k < t → get_or a' k O ≡ get_or a k O
      pub made : (k : ℕ) → t < k → k < length xs → get_or a' k O ≡ get_or a k O ⊗ ((X t ⊕ Y k) ⊗ inv (Y t ⊕ Y k))
      pub here : get_or a' t O ≡ (X t ⊕ Y t) ⊗ (get_or a t O ⊕ dot R (X t) (drop (suc t) ys) (drop (suc t) a'))

-- one right side when a row is taken off, one unknown when it is put back, and its term in the sum
abbrev pub reduce_one : ℕ → ℕ → ℕ → ℕ → ℕ → ℕ
reduce_one x₀ y₀ s₀ x s = mul (bit_xor (mul (bit_xor x y₀) s) (mul (bit_xor x₀ y₀) s₀)) (inv (bit_xor x₀ x))

abbrev pub scale_one : ℕ → ℕ → ℕ → ℕ → ℕ
scale_one x₀ y₀ y d = mul d (mul (bit_xor x₀ y) (inv (bit_xor y₀ y)))

abbrev pub term_one : ℕ → ℕ → ℕ → ℕ
term_one x₀ y d = mul d (inv (bit_xor x₀ y))

-- ---- ranges of words

-- ranges of count words from first on, in e blocks of scratch
pub record Room (s first count e part scratch : ℕ) : Type 0 where
  pub least : least_block ≤ s
  pub most : s ≤ most_block
  pub even : s % 2 ≡ 0
  pub words : first + count ≤ s / 2
  pub few : e ≤ most_recovery
  pub inside : e * s ≤ scratch
  pub whole : part ≡ 2 * count

-- scratch with the unknowns of the system with rows xs and columns ys in the words that are asked for
abbrev pub solved_scratch : ℕ → ℕ → ℕ → ℕ → ℕ → List ℕ → List ℕ → List ℕ → List ℕ → List ℕ → List ℕ
solved_scratch n m s first count marks store xs ys scratch =
    filled s first count (length xs) (λ l w. get_or (solve field xs ys (sides n m s marks store w xs)) l 0) scratch

-- ---- recovery blocks

-- block k is none of the m, or the last data block, those before it or the room for `count` blocks has another length
unfoldable pub wrong_parts : ℕ → ℕ → ℕ → ℕ → ℕ → List ℕ → List ℕ → List ℕ → Bool
wrong_parts n m s k count front last out =
    not (ltb k m) || not (eqb (length front) ((n - 1) * s)) || not (eqb (length last) s) || not (eqb (length out) (count * s))

-- `count` recovery blocks from k on, of the data blocks in two parts; a refusal changes nothing
unfoldable pub parts_recovered : ℕ → ℕ → ℕ → ℕ → ℕ → List ℕ → List ℕ → List ℕ → Recovered
parts_recovered n m s k count front last out =
    cond (wrong_parts n m s k count front last out)
    (recovered out (Err Refusal.BadShape))
    (recovered (joined (λ r. recovery_block n m s (front ++ last) (k + r)) 0 count) (Ok tt))
