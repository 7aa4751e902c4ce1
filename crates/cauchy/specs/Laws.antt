-- What the floors above may rely on beside the calls' promises and the theorems: the lengths of blocks, which data blocks are
-- missing, what `decode` joins to, and scratch that is rebuilt a few columns at a time. Statements, proved in proofs/Laws.antt;
-- no other law of this crate is seen above.
use Rattle.std.specs.Prelude.{◌≡◌, false, List, ◌++◌, ℕ, suc, ◌+◌, ◌*◌, ◌/◌, ◌%◌, ◌≤◌, ◌<◌, length, get_or, take, drop}
use Rattle.little.specs.Parts.{block}
use Rattle.cauchy.specs.Code.{word_bytes, joined, recovery_block, code_block, Held}
use Rattle.cauchy.specs.Decode.{held, count, missing, present, holding, missing_data, decode, decoded}
use Rattle.cauchy.specs.Calls.{wrong_shape, in_range, rebuilt_scratch}

-- what a right shape tells
pub record Right (n m s : ℕ) : Type 0 where
  pub n_least : 1 ≤ n
  pub n_most : n ≤ 1024
  pub m_most : m ≤ 32
  pub s_least : 2 ≤ s
  pub s_most : s ≤ 4096
  pub even : s % 2 ≡ 0

pub record CodeLaws : Type 0 where
  pub right : (n m s : ℕ) → wrong_shape n m s ≡ false → Right n m s
  -- how long the bytes of words, and a block of the code, are
  pub length-word_bytes : (f : ℕ → ℕ) (c n : ℕ) → length (word_bytes f c n) ≡ 2 * n
  pub length_recovery : (n m s : ℕ) (blocks : List ℕ) (k : ℕ) → s % 2 ≡ 0 → length (recovery_block n m s blocks k) ≡ s
  pub length_code : (n m s : ℕ) (blocks : List ℕ) (i : ℕ) → s % 2 ≡ 0 → length blocks ≡ n * s → length (code_block n m s blocks i) ≡ s
  -- lists joined depend on each of them alone; they are joined in two parts, and one of them is itself
  pub joined_ext : (f g : ℕ → List ℕ) (n : ℕ) → ((w : ℕ) → w < n → f w ≡ g w) → joined f 0 n ≡ joined g 0 n
  pub joined-append : (f : ℕ → List ℕ) (c a b : ℕ) → joined f c (a + b) ≡ joined f c a ++ joined f (c + a) b
  pub joined-one : (f : ℕ → List ℕ) (c : ℕ) → joined f c 1 ≡ f c

-- no more data blocks are missing than recovery blocks are held
pub record Enough (n m : ℕ) (marks : List ℕ) : Type 0 where
  pub rows : length (missing m (held (take n marks))) ≤ length (present 0 (held (drop n marks)))
  pub few : length (missing m (held (take n marks))) ≤ m
  pub same : length (missing m (held (take n marks))) ≡ length (missing 0 (held (take n marks)))

pub record MissingLaws : Type 0 where
  -- which indices are held
  pub length-held : (ms : List ℕ) → length (held ms) ≡ length ms
  pub held_one : (ms : List ℕ) (i : ℕ) → get_or ms i 0 ≡ 1 → get_or (held ms) i 0 ≡ 1
  pub held_none : (ms : List ℕ) (i : ℕ) → (get_or ms i 0 ≡ 1 → ⊥) → get_or (held ms) i 0 ≡ 0
  pub held-take : (n : ℕ) (ms : List ℕ) → held (take n ms) ≡ take n (held ms)
  -- a place that is missing stands in the list after the missing places before it, and each place adds one or none
  pub length-missing : (c : ℕ) (ms : List ℕ) → length (missing c ms) + count ms ≡ length ms
  pub missing_at : (c c' : ℕ) (ms : List ℕ) (j : ℕ) → j < length ms → get_or ms j 0 ≡ 0
      → (get_or (missing c ms) (length (missing c' (take j ms))) 0 ≡ c + j) × (length (missing c' (take j ms)) < length (missing c ms))
  pub missing_more : (c : ℕ) (ms : List ℕ) (j : ℕ) → j < length ms → get_or ms j 0 ≡ 0
      → length (missing c (take (suc j) ms)) ≡ suc (length (missing c (take j ms)))
  pub missing-same : (c : ℕ) (ms : List ℕ) (j : ℕ) → 0 < get_or ms j 0 → length (missing c (take (suc j) ms)) ≡ length (missing c (take j ms))
  -- with n held there is a recovery block for each
  pub enough : (n m : ℕ) (marks : List ℕ) → length marks ≡ n + m → n ≤ holding marks → Enough n m marks
  -- blocks that are each what `decode` gives are all of them joined
  pub as_decoded : (n m s : ℕ) (marks store blocks : List ℕ) → length blocks ≡ n * s
      → ((j : ℕ) → j < n → block s blocks j ≡ decode n m s marks store j) → blocks ≡ decoded n m s marks store

pub record ScratchLaws : Type 0 where
  -- what is rebuilt is as long as what was lent
  pub length-rebuilt : (n m s : ℕ) (marks store : List ℕ) (first count : ℕ) (scratch : List ℕ)
      → length (rebuilt_scratch n m s marks store first count scratch) ≡ length scratch
  -- no column asked for, or no data block missing: scratch stays
  pub none_rebuilt : (n m s : ℕ) (marks store : List ℕ) (first : ℕ) (scratch : List ℕ)
      → rebuilt_scratch n m s marks store first 0 scratch ≡ scratch
  pub nothing_missing : (n m s : ℕ) (marks store : List ℕ) (first count : ℕ) (scratch : List ℕ)
      → length (missing_data n marks) ≡ 0 → rebuilt_scratch n m s marks store first count scratch ≡ scratch
  -- columns in two goes are those columns in one
  pub rebuilt_on : (n m s : ℕ) (marks store : List ℕ) (first a b : ℕ) (scratch : List ℕ)
      → rebuilt_scratch n m s marks store (first + a) b (rebuilt_scratch n m s marks store first a scratch)
      ≡ rebuilt_scratch n m s marks store first (a + b) scratch
  -- a byte outside the columns asked for stays
  pub else_kept : (n m s : ℕ) (marks store : List ℕ) (first count : ℕ) (scratch : List ℕ) (q : ℕ)
      → in_range s first count (length (missing_data n marks)) q ≡ false
      → get_or (rebuilt_scratch n m s marks store first count scratch) q 0 ≡ get_or scratch q 0
  -- all columns: each block of scratch is `decode` of its missing data block, whatever lay there
  pub all-rebuilt : (n m s : ℕ) (marks store scratch : List ℕ) → 2 ≤ s → s % 2 ≡ 0 → length marks ≡ n + m → length scratch ≡ m * s
      → n ≤ holding marks → (l : ℕ) → l < length (missing_data n marks)
      → block s (rebuilt_scratch n m s marks store 0 (s / 2) scratch) l ≡ decode n m s marks store (get_or (missing_data n marks) l 0)
  -- what lies in the store at an index that is not held has no part in it
  pub blind_rebuilt : (n m s : ℕ) (marks store other : List ℕ) (first count : ℕ) (scratch : List ℕ)
      → s % 2 ≡ 0 → length marks ≡ n + m → n ≤ holding marks → first + count ≤ s / 2
      → ((i : ℕ) → i < n + m → Held marks i → block s store i ≡ block s other i)
      → rebuilt_scratch n m s marks store first count scratch ≡ rebuilt_scratch n m s marks other first count scratch
