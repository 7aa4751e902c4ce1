-- A reader of the promises may skip this file: columns of words in the ranges of a store that are asked for, and what a step of
-- the solver makes of each. Assumes nothing: these are definitions.
use Rattle.std.specs.Prelude.{◌≡◌, List, ℕ, ◌<◌, length, get_or, take}
use Rattle.cauchy.specs.Code.{field_size, Held}
use Rattle.cauchy.specs.Decode.{sides}
use Rattle.cauchy.specs.Calls.{filled}
use Rattle.cauchy.specs.inner.System.{field, solve}
use Rattle.cauchy.specs.inner.Promises.{Below}

-- a column of e field elements for each word
pub record Columns (e : ℕ) (cs : ℕ → List ℕ) : Type 0 where
  pub size : (w : ℕ) → length (cs w) ≡ e
  pub below : (w : ℕ) → Below field_size (cs w)

-- base with these columns in the words that are asked for: word w of block l is element l of column w
abbrev pub columned : ℕ → ℕ → ℕ → ℕ → (ℕ → List ℕ) → List ℕ → List ℕ
columned s first count e cs base = filled s first count e (λ l w. get_or (cs w) l 0) base

-- the columns cs have become others, each of which R allows for the one it was; no other byte has changed
pub record Became (R : List ℕ → List ℕ → Type 0) (s first count e : ℕ) (cs : ℕ → List ℕ) (base new : List ℕ) : Type 0 where
  pub made : ℕ → List ℕ
  pub whole : Columns e made
  pub here : new ≡ columned s first count e made base
  pub each : (w : ℕ) → R (cs w) (made w)

-- a step that does so to any columns
abbrev pub Steps : (List ℕ → List ℕ → Type 0) → ℕ → ℕ → ℕ → ℕ → List ℕ → List ℕ → Type 0
Steps R s first count e old new = (cs : ℕ → List ℕ) (base : List ℕ) → Columns e cs → old ≡ columned s first count e cs base → Became R s first count e cs base new

-- each column, as right sides of the equations of rows xs and columns ys, has become the unknowns
abbrev pub Solves : ℕ → ℕ → ℕ → List ℕ → List ℕ → List ℕ → List ℕ → Type 0
Solves s first count xs ys old new =
    (cs : ℕ → List ℕ) (base : List ℕ) → Columns (length xs) cs → old ≡ columned s first count (length xs) cs base
    → new ≡ columned s first count (length xs) (λ w. solve field xs ys (cs w)) base

-- scratch with the right sides for the first e rows in the words that are asked for
abbrev pub sides_scratch : ℕ → ℕ → ℕ → ℕ → ℕ → ℕ → List ℕ → List ℕ → List ℕ → List ℕ → List ℕ
sides_scratch n m s first count e marks rows store scratch = columned s first count e (λ w. sides n m s marks store w (take e rows)) scratch

-- the same from the recovery blocks alone, where none of the n data blocks is held
abbrev pub SidesCopied : ℕ → ℕ → ℕ → ℕ → ℕ → ℕ → List ℕ → List ℕ → List ℕ → List ℕ → Type 0
SidesCopied n m s first count e rows store old new =
    (marks : List ℕ) → ((j : ℕ) → j < n → Held marks j → ⊥) → new ≡ sides_scratch n m s first count e marks rows store old
