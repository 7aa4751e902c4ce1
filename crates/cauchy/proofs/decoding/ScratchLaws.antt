-- Scratch that is rebuilt a few columns at a time: what a turn changes, what it leaves, and what it does not see. Assumes nothing.
use mathlib.Core.Path.{◌≡◌, sym, ◌∙◌, ap}
use mathlib.Core.Bool.{false}
use mathlib.Core.List.{List}
use Prim.Native.Nat.{ℕ, ◌+◌, ◌/◌, ◌%◌, ◌≤◌, ◌<◌}
use native.Mathlib.Omega.{arith}
use lib.ListN.{length, get_or}
use lib.Dec.{ltb}
use Rattle.little.specs.Parts.{block}
use Rattle.cauchy.specs.Code.{Held}
use Rattle.cauchy.specs.Decode.{holding, missing_data, found_words}
use Rattle.cauchy.specs.Calls.{in_range, filled, rebuilt_scratch}
use Rattle.cauchy.proofs.blocks.Filled.{length-filled, else_filled, same-filled, filled_ext, filled_on, and_off, out-words}
use Rattle.cauchy.proofs.ranges.RangeLaws.{none_filled}
use Rattle.cauchy.proofs.decoding.BlindLaws.{same-words}

module _ (n m s : ℕ) (marks store : List ℕ) where
  -- the words of the missing blocks
  abbrev words : ℕ → ℕ → ℕ
  words l w = get_or (found_words n m s marks store w) l 0

  pub length-rebuilt : (first count : ℕ) (scratch : List ℕ)
      → length (rebuilt_scratch n m s marks store first count scratch) ≡ length scratch
  unfolding rebuilt_scratch
  length-rebuilt first count scratch = length-filled s first count (length (missing_data n marks)) words scratch

  pub none_rebuilt : (first : ℕ) (scratch : List ℕ) → rebuilt_scratch n m s marks store first 0 scratch ≡ scratch
  unfolding rebuilt_scratch in_range
  none_rebuilt first scratch =
      same-filled s first 0 (length (missing_data n marks)) words scratch
      (λ q. and_off (ltb (q / s) (length (missing_data n marks))) _ (out-words first 0 (q % s) (λ a b. omega arith)))

  pub nothing_missing : (first count : ℕ) (scratch : List ℕ) → length (missing_data n marks) ≡ 0
      → rebuilt_scratch n m s marks store first count scratch ≡ scratch
  unfolding rebuilt_scratch
  nothing_missing first count scratch e =
      ap (λ (x : ℕ). filled s first count x words scratch) e ∙ sym (none_filled s first count words scratch)

  pub rebuilt_on : (first a b : ℕ) (scratch : List ℕ)
      → rebuilt_scratch n m s marks store (first + a) b (rebuilt_scratch n m s marks store first a scratch)
      ≡ rebuilt_scratch n m s marks store first (a + b) scratch
  unfolding rebuilt_scratch
  rebuilt_on first a b scratch = filled_on s first a b (length (missing_data n marks)) words scratch

  pub else_kept : (first count : ℕ) (scratch : List ℕ) (q : ℕ) → in_range s first count (length (missing_data n marks)) q ≡ false
      → get_or (rebuilt_scratch n m s marks store first count scratch) q 0 ≡ get_or scratch q 0
  unfolding rebuilt_scratch
  else_kept first count scratch q o = else_filled s first count (length (missing_data n marks)) words scratch q o

pub blind_rebuilt : (n m s : ℕ) (marks store other : List ℕ) (first count : ℕ) (scratch : List ℕ)
    → s % 2 ≡ 0 → length marks ≡ n + m → n ≤ holding marks → first + count ≤ s / 2
    → ((i : ℕ) → i < n + m → Held marks i → block s store i ≡ block s other i)
    → rebuilt_scratch n m s marks store first count scratch ≡ rebuilt_scratch n m s marks other first count scratch
unfolding rebuilt_scratch
blind_rebuilt n m s marks store other first count scratch even lm h room agree =
    filled_ext s first count (length (missing_data n marks)) (words n m s marks store) (words n m s marks other) scratch
    (λ l w _ _ hw. ap (λ (x : List ℕ). get_or x l 0) (same-words n m s marks store other even lm h agree w (omega arith)))
