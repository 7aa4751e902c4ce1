-- What an answer says in document 01's own terms. Each enum that a call answers with has a definition that reads it so.
-- Assumes nothing: these are definitions.
use Rattle.std.specs.Prelude.{ℕ, ◌≡◌, List}
use Prim.Native.String.{String}

-- a refusal says a number of document 01's table and nothing else; any other answer a word, and values as numbers
pub data Said : Type 0 where
  refused : ℕ → Said
  says : String → List ℕ → Said

-- of one kind of answers: two that say the same are the same, so that nothing of an answer is left unsaid
abbrev pub Apart : {A : Type 0} → (A → Said) → Type 0
Apart {A = A} said = (v w : A) → said v ≡ said w → v ≡ w
