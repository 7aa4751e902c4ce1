-- BLAKE3's compression on lists (document 01, "BLAKE3, unkeyed"): a word is below 2 ^ 32, a state has sixteen words, a
-- chaining value eight. Assumes nothing: these are definitions.
use Rattle.std.specs.Prelude.{ℕ, zero, suc, ◌+◌, ◌-◌, ◌*◌, ◌/◌, ◌%◌, ◌^◌, List, [], ◌∷◌, ◌++◌, take, drop, bit_xor, slice_index}
use Rattle.little.specs.Fields.{le, bytes_of}

-- what stands at a place of a list, and 0 past its end
abbrev pub at : List ℕ → ℕ → ℕ
at xs i = slice_index xs i

-- the sum of two words, without its carry
abbrev pub sum32 : ℕ → ℕ → ℕ
sum32 x y = (x + y) % 2 ^ 32

-- a word rotated right by k bits
unfoldable pub rotated : ℕ → ℕ → ℕ
rotated x k = x % 2 ^ k * 2 ^ (32 - k) + x / 2 ^ k

-- the mixing step: four words of the state with two of the message
unfoldable pub mixed : ℕ → ℕ → ℕ → ℕ → ℕ → ℕ → List ℕ
mixed a b c d x y =
    let a₁ = sum32 (sum32 a b) x in
    let d₁ = rotated (bit_xor d a₁) 16 in
    let c₁ = sum32 c d₁ in
    let b₁ = rotated (bit_xor b c₁) 12 in
    let a₂ = sum32 (sum32 a₁ b₁) y in
    let d₂ = rotated (bit_xor d₁ a₂) 8 in
    let c₂ = sum32 c₁ d₂ in
    let b₂ = rotated (bit_xor b₁ c₂) 7 in
    a₂ ∷ b₂ ∷ c₂ ∷ d₂ ∷ []

-- the four columns of the state v, taken as four rows of four, each mixed with two of the eight words m
unfoldable pub columns : List ℕ → List ℕ → List ℕ
columns v m =
    let p = mixed (at v 0) (at v 4) (at v 8) (at v 12) (at m 0) (at m 1) in
    let q = mixed (at v 1) (at v 5) (at v 9) (at v 13) (at m 2) (at m 3) in
    let r = mixed (at v 2) (at v 6) (at v 10) (at v 14) (at m 4) (at m 5) in
    let s = mixed (at v 3) (at v 7) (at v 11) (at v 15) (at m 6) (at m 7) in
    at p 0 ∷ at q 0 ∷ at r 0 ∷ at s 0
    ∷ at p 1 ∷ at q 1 ∷ at r 1 ∷ at s 1
    ∷ at p 2 ∷ at q 2 ∷ at r 2 ∷ at s 2
    ∷ at p 3 ∷ at q 3 ∷ at r 3 ∷ at s 3 ∷ []

-- the same for the four diagonals
unfoldable pub diagonals : List ℕ → List ℕ → List ℕ
diagonals v m =
    let p = mixed (at v 0) (at v 5) (at v 10) (at v 15) (at m 0) (at m 1) in
    let q = mixed (at v 1) (at v 6) (at v 11) (at v 12) (at m 2) (at m 3) in
    let r = mixed (at v 2) (at v 7) (at v 8) (at v 13) (at m 4) (at m 5) in
    let s = mixed (at v 3) (at v 4) (at v 9) (at v 14) (at m 6) (at m 7) in
    at p 0 ∷ at q 0 ∷ at r 0 ∷ at s 0
    ∷ at s 1 ∷ at p 1 ∷ at q 1 ∷ at r 1
    ∷ at r 2 ∷ at s 2 ∷ at p 2 ∷ at q 2
    ∷ at q 3 ∷ at r 3 ∷ at s 3 ∷ at p 3 ∷ []

-- a round takes the message's first eight words for the columns, the others for the diagonals
unfoldable pub round : List ℕ → List ℕ → List ℕ
round v m = diagonals (columns v (take 8 m)) (drop 8 m)

-- the message in the order in which the next round takes it
unfoldable pub reordered : List ℕ → List ℕ
reordered m =
    at m 2 ∷ at m 6 ∷ at m 3 ∷ at m 10 ∷ at m 7 ∷ at m 0 ∷ at m 4 ∷ at m 13
    ∷ at m 1 ∷ at m 11 ∷ at m 12 ∷ at m 5 ∷ at m 9 ∷ at m 14 ∷ at m 15 ∷ at m 8 ∷ []

-- n rounds
unfoldable pub rounds : ℕ → List ℕ → List ℕ → List ℕ
rounds zero v m = v
rounds (suc n) v m = rounds n (round v m) (reordered m)

-- a state folded to a chaining value: each word of its first half with the one eight places on
unfoldable pub folded : List ℕ → List ℕ
folded v =
    bit_xor (at v 0) (at v 8) ∷ bit_xor (at v 1) (at v 9) ∷ bit_xor (at v 2) (at v 10) ∷ bit_xor (at v 3) (at v 11)
    ∷ bit_xor (at v 4) (at v 12) ∷ bit_xor (at v 5) (at v 13) ∷ bit_xor (at v 6) (at v 14) ∷ bit_xor (at v 7) (at v 15) ∷ []

-- the eight words that everything starts from
abbrev pub start_value : List ℕ
start_value =
    0x6A09E667 ∷ 0xBB67AE85 ∷ 0x3C6EF372 ∷ 0xA54FF53A
    ∷ 0x510E527F ∷ 0x9B05688C ∷ 0x1F83D9AB ∷ 0x5BE0CD19 ∷ []

-- the chaining value after one block: cv the one before it, m the block's sixteen words, i the counter (its low word, then its
-- high one), n how many bytes of the block are text
unfoldable pub compressed : List ℕ → List ℕ → ℕ → ℕ → ℕ → List ℕ
compressed cv m i n flags =
    folded (rounds 7 (cv ++ take 4 start_value ++ (i % 2 ^ 32 ∷ i / 2 ^ 32 ∷ n ∷ flags ∷ [])) m)

-- n words of a list of bytes, from a place on; a byte past the end counts as 0
unfoldable pub words_from : ℕ → List ℕ → ℕ → List ℕ
words_from zero xs j = []
words_from (suc n) xs j = le xs j 4 ∷ words_from n xs (j + 4)

-- the bytes of words
unfoldable pub bytes_of_words : List ℕ → List ℕ
bytes_of_words [] = []
bytes_of_words (w ∷ ws) = bytes_of 4 w ++ bytes_of_words ws
