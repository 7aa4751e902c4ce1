-- What the floors above may rely on: the laws of tests, of parts, stores and blocks of lists, of copies and runs, of what answers
-- say, and of little-endian fields, those as one law over the width (document 01, "Shams to keep out": proved once). Statements,
-- proved under like names in proofs/Laws.antt; no other law of this crate is seen above.
use Rattle.std.specs.Prelude.{ℕ, suc, ◌+◌, ◌-◌, ◌*◌, ◌%◌, ◌^◌, ◌<◌, ◌≤◌, min, ◌≡◌, Bool, true, false, ◌&&◌, ◌||◌, List, [], ◌∷◌, ◌++◌, ◌⊎◌, ltb, length, get_or, take, drop, set}
use Rattle.little.specs.Parts.{part, put, block, put_block}
use Rattle.little.specs.Runs.{zeros, same}
use Rattle.little.specs.Fields.{Bytes, le, bytes_of, put_le}
use Rattle.little.specs.Said.{Said, Apart}

-- ---- tests

pub record TestLaws : Type 0 where
  -- what a test made of two tests tells of each
  pub or-false : (a b : Bool) → (a || b) ≡ false → (a ≡ false) × (b ≡ false)
  pub and_both : (a b : Bool) → (a && b) ≡ true → (a ≡ true) × (b ≡ true)
  -- numbers one larger compare alike, and of two numbers one is below the other or not
  pub ltb_suc : (a b : ℕ) → ltb (suc a) (suc b) ≡ ltb a b
  pub below_or : (a b : ℕ) → (a < b) ⊎ (b ≤ a)
  -- which of two numbers the smaller one is
  pub either_least : {r a b : ℕ} → (r ≡ min a b) × (r ≤ a) × (r ≤ b) → ((r ≡ a) × (r ≤ b)) ⊎ ((r ≡ b) × (r ≤ a))

-- ---- parts of a list

pub record PartLaws : Type 0 where
  pub length_part : (xs : List ℕ) (at n : ℕ) → at + n ≤ length xs → length (part xs at n) ≡ n
  -- a part is no longer than was asked for
  pub length_cut : (xs : List ℕ) (at k : ℕ) → length (part xs at k) ≤ k
  -- one that is given by where it ends
  pub cut_long : (xs : List ℕ) (at count : ℕ) → at + count ≤ length xs → length (part xs at (at + count - at)) ≡ count
  pub get_or-part : (xs : List ℕ) (at n k : ℕ) → k < n → get_or (part xs at n) k 0 ≡ get_or xs (at + k) 0
  -- the rest of a list, and all of it
  pub part-rest : (xs : List ℕ) (at : ℕ) → part xs at (length xs - at) ≡ drop at xs
  pub part-whole : (xs : List ℕ) → part xs 0 (length xs) ≡ xs
  -- a part of an append, in the first list and in the second
  pub part-append-left : (xs ys : List ℕ) (at n : ℕ) → at + n ≤ length xs → part (xs ++ ys) at n ≡ part xs at n
  pub part-append_right : (xs ys : List ℕ) (at n : ℕ) → part (xs ++ ys) (length xs + at) n ≡ part ys at n
  -- a part of a part
  pub part-part : (xs : List ℕ) (from m at n : ℕ) → at + n ≤ m → from + m ≤ length xs → part (part xs from m) at n ≡ part xs (from + at) n
  -- what stands from a place on: one element more at the front, and zeros of zeros
  pub drop_down : (xs : List ℕ) (i : ℕ) → 0 < i → i ≤ length xs → drop (i - 1) xs ≡ get_or xs (i - 1) 0 ∷ drop i xs
  pub drop-zeros : (k m : ℕ) → drop k (zeros m) ≡ zeros (m - k)
  -- what stands after, at and inside a piece that stands at a place
  pub next : (r a b : List ℕ) (n k : ℕ) → drop n r ≡ a ++ b → length a ≡ k → drop (n + k) r ≡ b
  pub piece : (r a b : List ℕ) (n k : ℕ) → drop n r ≡ a ++ b → length a ≡ k → part r n k ≡ a
  pub byte_after : (r b : List ℕ) (n k x : ℕ) → drop n r ≡ b → get_or b k 0 ≡ x → get_or r (n + k) 0 ≡ x

-- ---- stores into a list

pub record PutLaws : Type 0 where
  -- a `&mut` part that was lent and came back with ys in it
  pub lent : (xs ys : List ℕ) (at n : ℕ) → length ys ≡ n → take at xs ++ (ys ++ drop n (drop at xs)) ≡ put xs at ys
  pub put_none : (xs : List ℕ) (at : ℕ) → put xs at [] ≡ xs
  -- where ys fits: what is changed, and what is left
  pub length-put : (xs : List ℕ) (at : ℕ) (ys : List ℕ) → at + length ys ≤ length xs → length (put xs at ys) ≡ length xs
  pub put-before : (xs : List ℕ) (at : ℕ) (ys : List ℕ) → at + length ys ≤ length xs → (k : ℕ) → k < at → get_or (put xs at ys) k 0 ≡ get_or xs k 0
  pub put_inside : (xs : List ℕ) (at : ℕ) (ys : List ℕ) → at + length ys ≤ length xs → (k : ℕ) → k < length ys
      → get_or (put xs at ys) (at + k) 0 ≡ get_or ys k 0
  pub put-after : (xs : List ℕ) (at : ℕ) (ys : List ℕ) → at + length ys ≤ length xs → (k : ℕ) → at + length ys ≤ k
      → get_or (put xs at ys) k 0 ≡ get_or xs k 0
  pub part-put : (xs : List ℕ) (at : ℕ) (ys : List ℕ) → at + length ys ≤ length xs → part (put xs at ys) at (length ys) ≡ ys
  pub part-put_apart : (xs : List ℕ) (at : ℕ) (ys : List ℕ) → at + length ys ≤ length xs → (at' n : ℕ) → at' + n ≤ length xs
      → (at + length ys ≤ at') ⊎ (at' + n ≤ at) → part (put xs at ys) at' n ≡ part xs at' n
  -- what stands there already; two at one place; two apart, in either order; one right after the other
  pub put_same : (xs : List ℕ) (at n : ℕ) → at + n ≤ length xs → put xs at (part xs at n) ≡ xs
  pub put-put : (xs : List ℕ) (at : ℕ) (ys zs : List ℕ) → at + length ys ≤ length xs → length zs ≡ length ys → put (put xs at ys) at zs ≡ put xs at zs
  pub put_swap : (xs : List ℕ) (at at' : ℕ) (ys zs : List ℕ) → at + length ys ≤ length xs → at' + length zs ≤ length xs
      → (at + length ys ≤ at') ⊎ (at' + length zs ≤ at) → put (put xs at ys) at' zs ≡ put (put xs at' zs) at ys
  pub put_next : (xs : List ℕ) (at : ℕ) (ys zs : List ℕ) → at ≤ length xs → put (put xs at ys) (at + length ys) zs ≡ put xs at (ys ++ zs)
  -- what stands from a place on where one element was stored
  pub drop-set : (xs : List ℕ) (k v : ℕ) → k < length xs → drop k (set xs k v) ≡ v ∷ drop (k + 1) xs
  -- a run copied: over one of its length, over a part, to the front of an output
  pub copied : (src dst : List ℕ) → length dst ≡ length src → take (length src) src ++ drop (length src) dst ≡ src
  pub copied_in : (xs src ys : List ℕ) (at count : ℕ) → at + count ≤ length xs → length src ≡ count
      → ys ≡ take (length src) src ++ drop (length src) (part xs at (at + count - at))
      → take at xs ++ (ys ++ drop (at + count - at) (drop at xs)) ≡ put xs at src
  pub copied_front : (out src ys : List ℕ) (s : ℕ) → s ≤ length out → length src ≡ s → ys ≡ take (length src) src ++ drop (length src) out → ys ≡ put out 0 src

-- ---- block i of a flat store of n blocks

pub record BlockLaws : Type 0 where
  -- it lies inside, and no two overlap
  pub block_inside : (size n i : ℕ) → i < n → i * size + size ≤ n * size
  pub blocks_apart : (size i j : ℕ) → (i ≡ j → ⊥) → (i * size + size ≤ j * size) ⊎ (j * size + size ≤ i * size)
  pub length-block : (size n : ℕ) (store : List ℕ) → length store ≡ n * size → (i : ℕ) → i < n → length (block size store i) ≡ size
  -- a block that is stored is there, and each other is as it was
  pub length-put_block : (size n : ℕ) (store : List ℕ) → length store ≡ n * size → (i : ℕ) → i < n → (ys : List ℕ) → length ys ≡ size
      → length (put_block size store i ys) ≡ n * size
  pub block-put : (size n : ℕ) (store : List ℕ) → length store ≡ n * size → (i : ℕ) → i < n → (ys : List ℕ) → length ys ≡ size
      → block size (put_block size store i ys) i ≡ ys
  pub block-put-other : (size n : ℕ) (store : List ℕ) → length store ≡ n * size → (i : ℕ) → i < n → (ys : List ℕ) → length ys ≡ size
      → (j : ℕ) → j < n → (i ≡ j → ⊥) → block size (put_block size store i ys) j ≡ block size store j

-- ---- whether two runs are the same

pub record SameLaws : Type 0 where
  pub same_refl : (a : List ℕ) → same a a ≡ true
  pub same-eq : (a b : List ℕ) → same a b ≡ true → a ≡ b
  pub same_differ : (a b : List ℕ) → (a ≡ b → ⊥) → same a b ≡ false
  pub same_apart : (a b : List ℕ) → same a b ≡ false → a ≡ b → ⊥

-- ---- what answers say

pub record SaidLaws : Type 1 where
  -- answers that can be read back from what they say are told apart by it
  pub told_apart : {A : Type 0} (said : A → Said) (back : Said → A) → ((v : A) → back (said v) ≡ v) → Apart said

-- ---- little-endian fields

pub record LittleLaws (width : ℕ) : Type 0 where
  -- a number read fits its width
  pub bound : (s : List ℕ) → Bytes s → (at : ℕ) → le s at width < 256 ^ width
  -- a field that begins past the end reads as 0
  pub past_end : (s : List ℕ) (at : ℕ) → length s ≤ at → le s at width ≡ 0
  -- the bytes of a number are as many as the width says, and bytes
  pub long : (v : ℕ) → length (bytes_of width v) ≡ width
  pub bytes : (v : ℕ) → Bytes (bytes_of width v)
  -- a number's bytes give it back, as far as the width holds it
  pub value_back : (v : ℕ) → le (bytes_of width v) 0 width ≡ v % 256 ^ width
  -- a number read has the bytes that it was read from
  pub bytes_back : (s : List ℕ) → Bytes s → (at : ℕ) → at + width ≤ length s → bytes_of width (le s at width) ≡ part s at width
  -- reading what was stored; storing what was read
  pub read_back : (s : List ℕ) (at v : ℕ) → at + width ≤ length s → le (put_le s at width v) at width ≡ v % 256 ^ width
  pub store-back : (s : List ℕ) → Bytes s → (at : ℕ) → put_le s at width (le s at width) ≡ s
  -- what a store changes, and what it leaves
  pub stored : (s : List ℕ) (at v : ℕ) → at + width ≤ length s → part (put_le s at width v) at width ≡ bytes_of width v
  pub same_length : (s : List ℕ) (at v : ℕ) → length (put_le s at width v) ≡ length s
  pub elsewhere : (s : List ℕ) (at v i : ℕ) → (i < at) ⊎ (at + width ≤ i) → get_or (put_le s at width v) i 0 ≡ get_or s i 0
  pub no_room : (s : List ℕ) (at v : ℕ) → length s < at + width → put_le s at width v ≡ s

-- bytes stay bytes, and a number is read from its own bytes alone
pub record ByteLaws : Type 0 where
  pub bytes_append : (xs ys : List ℕ) → Bytes xs → Bytes ys → Bytes (xs ++ ys)
  pub bytes_part : (xs : List ℕ) (at n : ℕ) → Bytes xs → Bytes (part xs at n)
  pub bytes_put : (xs : List ℕ) (at : ℕ) (ys : List ℕ) → Bytes xs → Bytes ys → Bytes (put xs at ys)
  pub le_same : (width : ℕ) (s t : List ℕ) (at at' : ℕ) → ((k : ℕ) → k < width → get_or s (at + k) 0 ≡ get_or t (at' + k) 0) → le s at width ≡ le t at' width
  pub le-part : (width : ℕ) (s : List ℕ) (from n at : ℕ) → at + width ≤ n → le (part s from n) at width ≡ le s (from + at) width
  pub le-drop : (width : ℕ) (s : List ℕ) (from at : ℕ) → le (drop from s) at width ≡ le s (from + at) width
  pub put-fits : (s : List ℕ) (at width v : ℕ) → at + width ≤ length s → put_le s at width v ≡ put s at (bytes_of width v)
