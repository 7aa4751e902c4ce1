-- One turn of a loop that puts f of an element in its place. Assumes nothing.
use Rattle.std.proofs.Common.{ℕ, ◌+◌, ◌<◌, ◌≡◌, List, [], ◌∷◌, ◌++◌, length, map, take, drop, sym, ap, ap₂, ◌∙◌}
use native.Mathlib.Omega.{arith}
use lib.ListN.{get_or, set}
use Rattle.std.proofs.lemmas.List.{length-set, take_more, take_more_set, map-append, drop-drop, get_or-drop, drop-set-lt}

-- f of each of the first i elements, and after them the elements as they came
abbrev pub MappedTo : (ℕ → ℕ) → List ℕ → List ℕ → ℕ → Type 0
MappedTo f xs ys i = (length ys ≡ length xs) × (take i ys ≡ map f (take i xs)) × (drop i ys ≡ drop i xs)

pub mapped_more : (f : ℕ → ℕ) (xs ys : List ℕ) (i v : ℕ) → MappedTo f xs ys i → i < length xs → v ≡ f (get_or ys i 0) → MappedTo f xs (set ys i v) (i + 1)
mapped_more f xs ys i v m h e =
    let next : i + 0 ≡ i = omega arith in
    let here : get_or ys i 0 ≡ get_or xs i 0 = rw next at (sym (get_or-drop i ys 0 0) ∙ ap (λ (l : List ℕ). get_or l 0 0) m.2 ∙ get_or-drop i xs 0 0) in
    let front : take (i + 1) (set ys i v) ≡ map f (take (i + 1) xs) =
    take_more_set ys i v (omega (arith, m.0))
    ∙ ap₂ (λ (l : List ℕ) (x : ℕ). l ++ (x ∷ [])) m.1 (e ∙ ap f here)
    ∙ sym (map-append f (take i xs) (get_or xs i 0 ∷ []))
    ∙ ap (map f) (sym (take_more xs i 0 h)) in
    let rest : drop (i + 1) (set ys i v) ≡ drop (i + 1) xs =
    drop-set-lt (i + 1) ys i v (omega arith) ∙ sym (drop-drop 1 i ys) ∙ ap (drop 1) m.2 ∙ drop-drop 1 i xs in
    (length-set ys i v ∙ m.0, front, rest)
