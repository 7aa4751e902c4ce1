-- What a reader of the promises may skip: what the function that reads the table of inverses wants of it. Assumes nothing: this
-- is a definition.
use Rattle.std.specs.Prelude.{◌≡◌, List, ℕ, ◌+◌, ◌*◌, ◌<◌, length, get_or}
use Rattle.gf16.specs.Field.{inv}

-- entry i is one over the odd number 2 i + 1
unfoldable pub ListsInverses : List ℕ → Type 0
ListsInverses xs = (i : ℕ) → i < length xs → get_or xs i 0 ≡ inv (2 * i + 1)

-- how many the code's table has
abbrev pub listed_count : ℕ
listed_count = 528
