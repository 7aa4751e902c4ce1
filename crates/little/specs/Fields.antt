-- Little-endian numbers in a list of bytes (document 01, "The bytes"): one definition over the width for reading, one for
-- the bytes of a number, one for a store. Assumes nothing: these are definitions.
use Rattle.std.specs.Prelude.{ℕ, zero, suc, ◌+◌, ◌*◌, ◌/◌, ◌%◌, ◌<◌, Bool, cond, List, [], ◌∷◌, leb, length, get_or}
use Rattle.little.specs.Parts.{put}

-- each element is a byte
abbrev pub Bytes : List ℕ → Type 0
Bytes s = (i : ℕ) → get_or s i 0 < 256

-- the number that `width` bytes from place `at` on make, the lowest first; past the end a byte counts as 0
unfoldable pub le : List ℕ → ℕ → ℕ → ℕ
le s at zero = 0
le s at (suc width) = get_or s at 0 + le s (suc at) width * 256

-- the `width` lowest bytes of a number, the lowest first
unfoldable pub bytes_of : ℕ → ℕ → List ℕ
bytes_of zero v = []
bytes_of (suc width) v = v % 256 ∷ bytes_of width (v / 256)

-- `width` bytes from place `at` on lie inside
unfoldable pub fits : List ℕ → ℕ → ℕ → Bool
fits s at width = leb (at + width) (length s)

-- s with the bytes of v stored from place `at` on; as it was if they do not all lie inside
unfoldable pub put_le : List ℕ → ℕ → ℕ → ℕ → List ℕ
put_le s at width v = cond (fits s at width) (put s at (bytes_of width v)) s
