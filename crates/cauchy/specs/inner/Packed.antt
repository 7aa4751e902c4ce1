-- A reader of the promises may skip this file: four words, a row each, in one number of 64 bits, and tables of their products.
-- Assumes nothing: these are definitions.
use Rattle.std.specs.Prelude.{◌≡◌, List, ℕ, zero, suc, ◌+◌, ◌-◌, ◌*◌, ◌/◌, ◌%◌, ◌≤◌, ◌<◌, length, get_or}
use Rattle.std.specs.Int.Bits.{bit_xor}
use Rattle.gf16.specs.Field.{Elem, mul, inv}
use Rattle.cauchy.specs.Code.{most_data, most_recovery, most_block, word_at, word_bytes}
use Rattle.cauchy.specs.Decode.{held_sum}

-- the words a, b, c and d, the low one first
unfoldable pub pack : ℕ → ℕ → ℕ → ℕ → ℕ
pack a b c d = ((d * 65536 + c) * 65536 + b) * 65536 + a

-- x is the elements a, b, c and d so packed
pub record Packed (a b c d x : ℕ) : Type 0 where
  pub is : x ≡ pack a b c d
  pub first : Elem a
  pub second : Elem b
  pub third : Elem c
  pub fourth : Elem d

-- twice each of four elements
abbrev pub Doubled : ℕ → ℕ → Type 0
Doubled x r = (a b c d : ℕ) → Packed a b c d x → Packed (mul a 2) (mul b 2) (mul c 2) (mul d 2) r

-- the products of i with four coefficients
abbrev pub products : ℕ → ℕ → ℕ → ℕ → ℕ → ℕ
products a b c d i = pack (mul a i) (mul b i) (mul c i) (mul d i)

-- the first n entries are the products of their places
abbrev pub Table : ℕ → ℕ → ℕ → ℕ → ℕ → List ℕ → Type 0
Table a b c d n t = (i : ℕ) → i < n → get_or t i 0 ≡ products a b c d i

-- a table for the low byte of a word, and one for the high byte
abbrev pub Tables : ℕ → ℕ → ℕ → ℕ → List ℕ → List ℕ → Type 0
Tables a b c d low high = Table a b c d 256 low × Table (mul a 256) (mul b 256) (mul c 256) (mul d 256) 256 high

-- the n entries at the front once more after them, each with x added
pub record Spread (n x : ℕ) (t t' : List ℕ) : Type 0 where
  pub size : length t' ≡ length t
  pub kept : (i : ℕ) → i < n → get_or t' i 0 ≡ get_or t i 0
  pub made : (i : ℕ) → i < n → get_or t' (n + i) 0 ≡ bit_xor (get_or t i 0) x

-- the table of the elements in x, as far as n, and n times those elements
abbrev pub FilledTo : ℕ → ℕ → List ℕ → ℕ → Type 0
FilledTo n x t r = (a b c d : ℕ) → Packed a b c d x → Table a b c d n t × Packed (mul a n) (mul b n) (mul c n) (mul d n) r

abbrev pub Filled : ℕ → List ℕ → ℕ → Type 0
Filled x t r = FilledTo 256 x t r

abbrev pub FilledBoth : ℕ → List ℕ → List ℕ → Type 0
FilledBoth x low high = (a b c d : ℕ) → Packed a b c d x → Tables a b c d low high

-- ---- sums

-- what two tables have for word w of src
abbrev pub looked : List ℕ → List ℕ → List ℕ → ℕ → ℕ
looked low high src w = bit_xor (get_or low (get_or src (2 * w) 0) 0) (get_or high (get_or src (2 * w + 1) 0) 0)

-- the first w sums have got what the tables have for the words at their places
pub record AddedTo (low high src : List ℕ) (w : ℕ) (acc acc' : List ℕ) : Type 0 where
  pub size : length acc' ≡ length acc
  pub made : (v : ℕ) → v < w → get_or acc' v 0 ≡ bit_xor (get_or acc v 0) (looked low high src v)
  pub left : (v : ℕ) → w ≤ v → get_or acc' v 0 ≡ get_or acc v 0

-- where that was so of the first w, it is of the first u
abbrev pub AddedMore : List ℕ → List ℕ → List ℕ → ℕ → ℕ → List ℕ → List ℕ → Type 0
AddedMore low high src w u old new = (acc : List ℕ) → AddedTo low high src w acc old → AddedTo low high src u acc new

-- each sum of four has got the products of the word at its place
pub record Added (a b c d : ℕ) (src acc acc' : List ℕ) : Type 0 where
  pub size : length acc' ≡ length acc
  pub made : (w : ℕ) → w < length acc → get_or acc' w 0 ≡ bit_xor (get_or acc w 0) (products a b c d (word_at src (2 * w)))

-- by two tables
abbrev pub AddedBy : List ℕ → List ℕ → List ℕ → List ℕ → List ℕ → Type 0
AddedBy low high src acc acc' = (a b c d : ℕ) → Elem a → Elem b → Elem c → Elem d → Tables a b c d low high → Added a b c d src acc acc'

-- by the elements in x
abbrev pub AddedFour : ℕ → List ℕ → List ℕ → List ℕ → Type 0
AddedFour x src acc acc' = (a b c d : ℕ) → Packed a b c d x → Added a b c d src acc acc'

-- the sums are, at each of W places, the words of the rows k to k + 3
pub record Sums (g : ℕ → ℕ → ℕ) (k W : ℕ) (acc : List ℕ) : Type 0 where
  pub size : length acc ≡ W
  pub made : (w : ℕ) → w < W → get_or acc w 0 ≡ pack (g k w) (g (k + 1) w) (g (k + 2) w) (g (k + 3) w)

-- the weight of row k against data block j
abbrev pub weight_of : ℕ → ℕ → ℕ → ℕ
weight_of k m j = inv (bit_xor k (m + j))

-- what the low word is to word r of four
abbrev pub unit_of : ℕ → ℕ
unit_of zero = 1
unit_of (suc zero) = 65536
unit_of (suc (suc zero)) = 4294967296
unit_of (suc (suc (suc r))) = 281474976710656

-- the bytes of word r of each four
unfoldable pub row_bytes : ℕ → List ℕ → List ℕ
row_bytes r acc = word_bytes (λ w. get_or acc w 0 / unit_of r % 65536) 0 (length acc)

-- what is lent to the sums for block k: the n data blocks of s bytes, the last one apart
pub record Parts (n m s k : ℕ) (front last : List ℕ) : Type 0 where
  pub n_least : 1 ≤ n
  pub n_most : n ≤ most_data
  pub m_most : m ≤ most_recovery
  pub s_most : s ≤ most_block
  pub even : s % 2 ≡ 0
  pub row : k < m
  pub front_long : length front ≡ (n - 1) * s
  pub last_long : length last ≡ s

-- ---- the right sides of the equations

-- the shares of the held data blocks in the words of the rows listed, from word `first` on
abbrev pub held_rows : ℕ → ℕ → ℕ → ℕ → List ℕ → List ℕ → List ℕ → ℕ → ℕ → ℕ
held_rows n m s first marks rows store i w = held_sum n m s marks store (get_or rows i 0) (first + w)

-- the sums of the four rows among which row i is; from one such row to the next they are kept
abbrev pub SumsFor : ℕ → ℕ → ℕ → ℕ → ℕ → List ℕ → List ℕ → List ℕ → List ℕ → List ℕ → Type 0
SumsFor n m s first i marks rows store acc acc' =
    (0 < i % 4 → Sums (held_rows n m s first marks rows store) (i - i % 4) (length acc) acc) → Sums (held_rows n m s first marks rows store) (i - i % 4) (length acc) acc'

-- ---- two blocks into one

-- c times word w of dst, plus d times that of src
abbrev pub mixed_word : ℕ → ℕ → List ℕ → List ℕ → ℕ → ℕ
mixed_word c d dst src w = bit_xor (mul c (word_at dst (2 * w))) (mul d (word_at src (2 * w)))

-- by two tables of the products with c and d
abbrev pub MixedBy : List ℕ → List ℕ → List ℕ → List ℕ → List ℕ → Type 0
MixedBy low high dst src made = (c d : ℕ) → Elem c → Elem d → Tables c d 0 0 low high → made ≡ word_bytes (mixed_word c d dst src) 0 (length dst / 2)

-- c times word w of dst
abbrev pub times_word : ℕ → List ℕ → ℕ → ℕ
times_word c dst w = mul c (word_at dst (2 * w))

-- word w of one, plus d times that of dst
abbrev pub plus_times : ℕ → List ℕ → List ℕ → ℕ → ℕ
plus_times d one dst w = bit_xor (word_at one (2 * w)) (mul d (word_at dst (2 * w)))

-- both, by two tables of the products with c and d
abbrev pub ScaledBy : List ℕ → List ℕ → List ℕ → List ℕ → List ℕ → List ℕ → Type 0
ScaledBy low high dst one dst' one' =
    (c d : ℕ) → Elem c → Elem d → Tables c d 0 0 low high
    → (dst' ≡ word_bytes (times_word c dst) 0 (length dst / 2)) × (one' ≡ word_bytes (plus_times d one dst) 0 (length dst / 2))

-- each byte of dst has got the byte of src at its place
pub record Summed (dst src made : List ℕ) : Type 0 where
  pub size : length made ≡ length dst
  pub each : (i : ℕ) → i < length dst → get_or made i 0 ≡ bit_xor (get_or dst i 0) (get_or src i 0)
