-- The code (document 01, "The code"): which bytes the n + m blocks have, given the n data blocks. Blocks have s bytes each, and
-- a store is its blocks, one after the other. Assumes nothing: these are definitions.
use Rattle.std.specs.Prelude.{◌≡◌, cond, List, [], ◌++◌, ℕ, zero, suc, ◌+◌, ◌-◌, ◌*◌, ◌/◌, ◌<◌, length, get_or, ltb}
use Rattle.std.specs.Int.Bits.{bit_xor}
use Rattle.little.specs.Fields.{Bytes, le, bytes_of}
use Rattle.little.specs.Parts.{block}
use Rattle.gf16.specs.Field.{mul, inv}

-- ---- the house limits (document 01, "The receiver and its house limits"), and sizes that follow

-- data blocks, recovery blocks, and bytes of a block
abbrev pub most_data : ℕ
most_data = 1024

abbrev pub most_recovery : ℕ
most_recovery = 32

abbrev pub least_block : ℕ
least_block = 2

abbrev pub most_block : ℕ
most_block = 4096

-- how many elements the field has: each is a number below this
abbrev pub field_size : ℕ
field_size = 65536

-- how many field elements the room has that is lent to a rebuilding
abbrev pub numbers_room : ℕ
numbers_room = 1024

-- the mark of an index that is held
abbrev pub held_mark : ℕ
held_mark = 1

-- ---- words, blocks, the code

-- the word whose low byte lies at place `at`
abbrev pub word_at : List ℕ → ℕ → ℕ
word_at store at = le store at 2

-- word w of block i
abbrev pub word_of : ℕ → List ℕ → ℕ → ℕ → ℕ
word_of s store i w = word_at store (i * s + 2 * w)

-- the lists f c, f (c + 1) and so on, n of them, as one
unfoldable pub joined : (ℕ → List ℕ) → ℕ → ℕ → List ℕ
joined f c zero = []
joined f c (suc n) = f c ++ joined f (suc c) n

-- the bytes of the words f c, f (c + 1) and so on, n of them
abbrev pub word_bytes : (ℕ → ℕ) → ℕ → ℕ → List ℕ
word_bytes f c n = joined (λ w. bytes_of 2 (f w)) c n

-- the field sum of f c, f (c + 1) and so on, n of them
unfoldable pub field_sum : (ℕ → ℕ) → ℕ → ℕ → ℕ
field_sum f c zero = 0
field_sum f c (suc n) = bit_xor (f c) (field_sum f (suc c) n)

-- what data block j brings to word w of recovery block k
abbrev pub share : ℕ → ℕ → List ℕ → ℕ → ℕ → ℕ → ℕ
share m s blocks k w j = mul (inv (bit_xor k (m + j))) (word_of s blocks j w)

-- word w of recovery block k: the shares of all n data blocks, added up
unfoldable pub recovery_word : ℕ → ℕ → ℕ → List ℕ → ℕ → ℕ → ℕ
recovery_word n m s blocks k w = field_sum (λ j. share m s blocks k w j) 0 n

unfoldable pub recovery_block : ℕ → ℕ → ℕ → List ℕ → ℕ → List ℕ
recovery_block n m s blocks k = word_bytes (λ w. recovery_word n m s blocks k w) 0 (s / 2)

-- block i of the n + m: data block i, or recovery block i - n
unfoldable pub code_block : ℕ → ℕ → ℕ → List ℕ → ℕ → List ℕ
code_block n m s blocks i = cond (ltb i n) (block s blocks i) (recovery_block n m s blocks (i - n))

-- n blocks of s bytes
abbrev pub Blocks : ℕ → ℕ → List ℕ → Type 0
Blocks n s store = (length store ≡ n * s) × Bytes store

-- The marks of n + m indices (document 01, "Marks, hand-out, prefix"): an index is held if its mark is 1. Absent is 0, barred is
-- 2, and neither they nor a mark above 2, which the layer above refuses by 71, count as held.
abbrev pub Held : List ℕ → ℕ → Type 0
Held marks i = get_or marks i 0 ≡ held_mark

-- n data blocks whose code has, at each held index, the block that the store has there
abbrev pub Fits : ℕ → ℕ → ℕ → List ℕ → List ℕ → List ℕ → Type 0
Fits n m s marks store blocks = (i : ℕ) → i < n + m → Held marks i → code_block n m s blocks i ≡ block s store i
