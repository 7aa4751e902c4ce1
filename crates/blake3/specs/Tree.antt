-- The tree over a text's pieces, and its hash (document 01, "BLAKE3, unkeyed"). Assumes nothing: these are definitions, and
-- the statements of two laws.
use Rattle.std.specs.Prelude.{◌≡◌, ℕ, zero, suc, ◌+◌, ◌-◌, ◌*◌, ◌/◌, ◌^◌, ◌<◌, ◌≤◌, cond, List, ◌++◌, length, take, drop, nat_le, nat_lt}
use Rattle.little.specs.Parts.{part}
use Rattle.blake3.specs.declared.tree.Extent.{Extent}
use Rattle.blake3.specs.declared.tree.Extent.TheVariants.{Whole, Part}
use Rattle.blake3.specs.Compress.{compressed, start_value, words_from, bytes_of_words}

-- the four flags
abbrev pub flag_start : ℕ
flag_start = 1

abbrev pub flag_end : ℕ
flag_end = 2

abbrev pub flag_parent : ℕ
flag_parent = 4

abbrev pub flag_root : ℕ
flag_root = 8

-- the flag root for the whole text, and none for a part of it
abbrev pub flag_of : Extent → ℕ
flag_of Whole = flag_root
flag_of Part = 0

-- the bytes of a block, and of a piece
abbrev pub block_length : ℕ
block_length = 64

abbrev pub piece_length : ℕ
piece_length = 1024

-- block k of a piece: of the last one what there is
abbrev pub block_of : List ℕ → ℕ → List ℕ
block_of xs k = part xs (k * block_length) block_length

-- the sixteen words of a block
abbrev pub block_words : List ℕ → List ℕ
block_words b = words_from 16 b 0

-- the flag start, for the first block of a piece
abbrev pub start_flag : ℕ → ℕ
start_flag zero = flag_start
start_flag (suc k) = 0

-- the chaining value after the first k blocks of the piece xs, which is piece i
unfoldable pub chain : ℕ → ℕ → List ℕ → List ℕ
chain i zero xs = start_value
chain i (suc k) xs = compressed (chain i k xs) (block_words (block_of xs k)) i block_length (start_flag k)

-- piece i of a text: as many whole blocks as leave a byte, then the rest, with its own length and the flag end. The argument
-- root is the flag root where the piece is the whole text, and else 0
unfoldable pub piece : ℕ → ℕ → List ℕ → List ℕ
piece i root xs =
    let k = (length xs - 1) / block_length in
    compressed (chain i k xs) (block_words (block_of xs k)) i (length xs - k * block_length) (start_flag k + flag_end + root)

-- two subtrees joined, with the flag parent
unfoldable pub parent : ℕ → List ℕ → List ℕ → List ℕ
parent root l r = compressed start_value (l ++ r) 0 block_length (flag_parent + root)

-- p doubled for as long as twice as many whole pieces leave a byte of n bytes; the first argument only bounds the doublings
unfoldable pub doubled : ℕ → ℕ → ℕ → ℕ
doubled zero p n = p
doubled (suc f) p n = cond (nat_lt (2 * p * piece_length) n) (doubled f (2 * p) n) p

-- how many pieces go to the left of a text of n bytes: the largest power of two that leaves at least a byte on the right
unfoldable pub left_pieces : ℕ → ℕ
left_pieces n = doubled n 1 n

-- what that says: a power of two, which leaves a byte on the right, and whose double does not
pub record Largest (n p : ℕ) : Type 0 where
  pub exponent : ℕ
  pub power : p ≡ 2 ^ exponent
  pub leaves : p * piece_length < n
  pub no_more : n ≤ 2 * p * piece_length

-- proved in proofs/Splits.antt
abbrev pub SplitsAtLargest : Type 0
SplitsAtLargest = (n : ℕ) → piece_length < n → Largest n (left_pieces n)

-- the tree over xs, whose first piece is piece i of the whole text. The first argument only bounds the depth: each part of a
-- text is shorter than the text, so its length is enough (`DepthEnough`)
unfoldable pub tree : ℕ → ℕ → ℕ → List ℕ → List ℕ
tree zero i root xs = piece i root xs
tree (suc depth) i root xs =
    let p = left_pieces (length xs) in
    let whole : List ℕ = piece i root xs in
    let split : List ℕ = parent root (tree depth i 0 (take (p * piece_length) xs)) (tree depth (i + p) 0 (drop (p * piece_length) xs)) in
    cond (nat_le (length xs) piece_length) whole split

-- more depth than the text's length changes nothing. Proved in proofs/Splits.antt
abbrev pub DepthEnough : Type 0
DepthEnough = (d d' i root : ℕ) (xs : List ℕ) → length xs ≤ d → length xs ≤ d' → tree d i root xs ≡ tree d' i root xs

-- the tree of a whole text or of a part of it
abbrev pub tree_of : ℕ → ℕ → List ℕ → List ℕ
tree_of i root xs = tree (length xs) i root xs

-- the hash: the bytes of the tree's eight words
unfoldable pub hash : List ℕ → List ℕ
hash xs = bytes_of_words (tree_of 0 flag_root xs)
