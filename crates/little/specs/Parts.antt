-- Parts of a list: the elements from a place on, a store that replaces them, and block i of a flat store. Assumes nothing:
-- these are definitions.
use Rattle.std.specs.Prelude.{ℕ, ◌*◌, List, ◌++◌, length, take, drop}

-- the n elements from place `at` on, or as many as there are
abbrev pub part : List ℕ → ℕ → ℕ → List ℕ
part xs at n = take n (drop at xs)

-- xs with ys in the place of as many of its elements, from place `at` on
abbrev pub put : List ℕ → ℕ → List ℕ → List ℕ
put xs at ys = take at xs ++ (ys ++ drop (length ys) (drop at xs))

-- block i of a store whose blocks have `size` elements each and lie one after the other
abbrev pub block : ℕ → List ℕ → ℕ → List ℕ
block size store i = part store (i * size) size

-- a store with its block i replaced
abbrev pub put_block : ℕ → List ℕ → ℕ → List ℕ → List ℕ
put_block size store i ys = put store (i * size) ys
