-- What is held decides the data or leaves them open (minutes, demand 3; document 01, "Marks, hand-out, prefix"). Statements,
-- all proved: proofs/Theorems.antt.
use Rattle.std.specs.Prelude.{◌≡◌, List, ℕ, ◌+◌, ◌*◌, ◌/◌, ◌%◌, ◌≤◌, ◌<◌, length, get_or}
use Rattle.little.specs.Parts.{block}
use Rattle.cauchy.specs.Code.{word_at, word_of, Blocks, Held, Fits}
use Rattle.cauchy.specs.Decode.{holding, missing_data, decode, decoded, used_marks}
use Rattle.cauchy.specs.Calls.{rebuilt_scratch, decoded_scratch}

-- marks for n + m blocks, and a store of that many; at an index that is not held any bytes may lie
pub record Shape (n m s : ℕ) (marks store : List ℕ) : Type 0 where
  pub even : s % 2 ≡ 0
  pub small : m + n ≤ 65536
  pub marks-size : length marks ≡ n + m
  pub store-blocks : Blocks (n + m) s store

-- At least n held: data block j is the same in every list that fits, and `decode` gives it.
abbrev pub Known : Type 0
Known =
    (n m s : ℕ) (marks store blocks : List ℕ) → Shape n m s marks store → Blocks n s blocks → Fits n m s marks store blocks → n ≤ holding marks
    → (j : ℕ) → j < n → block s blocks j ≡ decode n m s marks store j

-- So no two lists fit.
abbrev pub One : Type 0
One =
    (n m s : ℕ) (marks store blocks others : List ℕ) → Shape n m s marks store → Blocks n s blocks → Blocks n s others
    → Fits n m s marks store blocks → Fits n m s marks store others → n ≤ holding marks → blocks ≡ others

-- What lies at an index that is not held has no part in it: stores that agree at each held index give the same blocks.
abbrev pub Blind : Type 0
Blind =
    (n m s : ℕ) (marks store other : List ℕ) → s % 2 ≡ 0 → length marks ≡ n + m → n ≤ holding marks
    → ((i : ℕ) → i < n + m → Held marks i → block s store i ≡ block s other i)
    → (j : ℕ) → j < n → decode n m s marks store j ≡ decode n m s marks other j

-- And where more are held than `decode` uses, its blocks have all that it uses, be the rest as it may.
abbrev pub Used : Type 0
Used =
    (n m s : ℕ) (marks store : List ℕ) → Shape n m s marks store → n ≤ holding marks
    → Blocks n s (decoded n m s marks store) × Fits n m s (used_marks n marks) store (decoded n m s marks store)

-- No other list has all that.
abbrev pub UsedOne : Type 0
UsedOne =
    (n m s : ℕ) (marks store blocks : List ℕ) → Shape n m s marks store → n ≤ holding marks → Blocks n s blocks
    → Fits n m s (used_marks n marks) store blocks → blocks ≡ decoded n m s marks store

-- At most n held: some list fits, whatever the held blocks are.
abbrev pub Some : Type 0
Some =
    (n m s : ℕ) (marks store : List ℕ) → Shape n m s marks store → holding marks ≤ n
    → (blocks : List ℕ) × Blocks n s blocks × Fits n m s marks store blocks

-- Fewer than n held: for each data block that is not held and any s bytes, some list that fits has those bytes there.
abbrev pub Free : Type 0
Free =
    (n m s : ℕ) (marks store : List ℕ) → Shape n m s marks store → holding marks < n
    → (j : ℕ) → j < n → ¬ (Held marks j) → (bytes : List ℕ) → Blocks 1 s bytes
    → (blocks : List ℕ) × Blocks n s blocks × Fits n m s marks store blocks × (block s blocks j ≡ bytes)

-- ---- what is rebuilt is `decode`

-- With every column asked for, block l of scratch is `decode` of the l-th missing data block.
abbrev pub Decodes : Type 0
Decodes =
    (n m s : ℕ) (marks store scratch : List ℕ) → 2 ≤ s → s % 2 ≡ 0 → length marks ≡ n + m → length scratch ≡ m * s → n ≤ holding marks
    → (l : ℕ) → l < length (missing_data n marks)
    → block s (decoded_scratch n m s marks store scratch) l ≡ decode n m s marks store (get_or (missing_data n marks) l 0)

-- With some columns asked for, those words of it.
abbrev pub DecodesWords : Type 0
DecodesWords =
    (n m s : ℕ) (marks store scratch : List ℕ) (first count : ℕ) → 2 ≤ s → s % 2 ≡ 0 → length marks ≡ n + m → length scratch ≡ m * s
    → n ≤ holding marks → first + count ≤ s / 2
    → (l w : ℕ) → l < length (missing_data n marks) → first ≤ w → w < first + count
    → word_of s (rebuilt_scratch n m s marks store first count scratch) l w ≡ word_at (decode n m s marks store (get_or (missing_data n marks) l 0)) (2 * w)

-- ---- all of it

pub record Theorems : Type 0 where
  pub known : Known
  pub one : One
  pub blind : Blind
  pub used : Used
  pub used_one : UsedOne
  pub some : Some
  pub free : Free
  pub decodes : Decodes
  pub decodes_words : DecodesWords
