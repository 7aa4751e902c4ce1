-- What each public call answers and leaves in lent memory (document 01, "The receiver and its house limits", "The code", "Marks,
-- hand-out, prefix"); what that means is stated in specs/Theorems.antt. Assumes nothing: these are definitions.
use Rattle.std.specs.Prelude.{Bool, Result, Ok, Err, cond, not, ◌&&◌, ◌||◌, List, [], ◌∷◌, ◌++◌, ℕ, zero, suc, ◌+◌, ◌-◌, ◌*◌, ◌/◌, ◌%◌, min, length, get_or, drop, ltb, leb, eqb}
use Rattle.little.specs.Fields.{bytes_of}
use Rattle.little.specs.Runs.{zeros}
use Rattle.cauchy.specs.Code.{most_data, most_recovery, least_block, most_block, numbers_room, joined, recovery_block}
use Rattle.cauchy.specs.Decode.{holding, missing_data, found_words, decode}
use Rattle.cauchy.specs.declared.shape.Refusal.{Refusal}

-- what a call answers: that it is done, or why it is refused
abbrev pub Answer : Type 0
Answer = Result (Unit {0}) Refusal

-- a house limit is passed: n is 1 to 1,024, m at most 32, s even and 2 to 4,096
unfoldable pub wrong_shape : ℕ → ℕ → ℕ → Bool
wrong_shape n m s = eqb n 0 || ltb most_data n || ltb most_recovery m || ltb s least_block || ltb most_block s || not (eqb (s % 2) 0)

-- ---- recovery

-- what the calls that make recovery blocks leave
pub record Recovered : Type 0 where
  pub out : List ℕ
  pub answer : Answer

abbrev pub recovered : List ℕ → Answer → Recovered
recovered out answer = record { out = out; answer = answer }

-- block k is none of the m, or what is lent has another length
unfoldable pub wrong_lent : ℕ → ℕ → ℕ → ℕ → List ℕ → List ℕ → Bool
wrong_lent n m s k blocks out = not (ltb k m) || not (eqb (length blocks) (n * s)) || not (eqb (length out) s)

unfoldable pub recovery_spec : ℕ → ℕ → ℕ → ℕ → List ℕ → List ℕ → Recovered
recovery_spec n m s k blocks out =
    cond (wrong_shape n m s || wrong_lent n m s k blocks out)
    (recovered out (Err Refusal.BadShape))
    (recovered (recovery_block n m s blocks k) (Ok tt))

-- ---- recovery_four

-- how many recovery blocks there are from the k-th on, as far as four
abbrev pub up_to_four : ℕ → ℕ → ℕ
up_to_four m k = min 4 (m - k)

-- block k is none of the m, or what is lent, the last data block apart from those before it, has another length
unfoldable pub wrong_four : ℕ → ℕ → ℕ → ℕ → List ℕ → List ℕ → List ℕ → Bool
wrong_four n m s k front last out =
    not (ltb k m) || not (eqb (length front) ((n - 1) * s)) || not (eqb (length last) s) || not (eqb (length out) (up_to_four m k * s))

-- those recovery blocks of the parts joined, one after the other
unfoldable pub four_spec : ℕ → ℕ → ℕ → ℕ → List ℕ → List ℕ → List ℕ → Recovered
four_spec n m s k front last out =
    cond (wrong_shape n m s || wrong_four n m s k front last out)
    (recovered out (Err Refusal.BadShape))
    (recovered (joined (λ r. recovery_block n m s (front ++ last) (k + r)) 0 (up_to_four m k)) (Ok tt))

-- ---- rebuild

-- the list f c, f (c + 1) and so on, of n elements
unfoldable pub build : (ℕ → ℕ) → ℕ → ℕ → List ℕ
build f c zero = []
build f c (suc n) = f c ∷ build f (suc c) n

-- byte h of a word, the low one first
unfoldable pub byte_of : ℕ → ℕ → ℕ
byte_of h x = get_or (bytes_of 2 x) h 0

-- byte q lies in one of the first e blocks, in one of the `count` words from `first` on
unfoldable pub in_range : ℕ → ℕ → ℕ → ℕ → ℕ → Bool
in_range s first count e q = ltb (q / s) e && (leb (2 * first) (q % s) && ltb (q % s) (2 * (first + count)))

-- a store whose word w of block l is g l w, for the first e blocks and the `count` words from `first` on; each other byte is base's
unfoldable pub filled : ℕ → ℕ → ℕ → ℕ → (ℕ → ℕ → ℕ) → List ℕ → List ℕ
filled s first count e g base =
    build (λ q. cond (in_range s first count e q) (byte_of (q % s % 2) (g (q / s) (q % s / 2))) (get_or base q 0)) 0 (length base)

-- what is lent has another length than the shape asks for, or the columns asked for do not all exist
unfoldable pub wrong_memory : ℕ → ℕ → ℕ → ℕ → ℕ → ℕ → ℕ → ℕ → ℕ → Bool
wrong_memory n m s marks store scratch numbers first count =
    not (eqb marks (n + m)) || not (eqb store ((n + m) * s)) || not (eqb scratch (m * s)) || not (eqb numbers numbers_room) || ltb (s / 2) first || ltb (s / 2 - first) count

-- what `rebuild` and `rebuild_all` leave
pub record Rebuilt : Type 0 where
  pub scratch : List ℕ
  pub numbers : List ℕ
  pub answer : Answer

abbrev pub rebuilt : List ℕ → List ℕ → Answer → Rebuilt
rebuilt scratch numbers answer = record { scratch = scratch; numbers = numbers; answer = answer }

-- block l of scratch has, in the columns asked for, the words of the l-th missing data block
unfoldable pub rebuilt_scratch : ℕ → ℕ → ℕ → List ℕ → List ℕ → ℕ → ℕ → List ℕ → List ℕ
rebuilt_scratch n m s marks store first count scratch =
    filled s first count (length (missing_data n marks)) (λ l w. get_or (found_words n m s marks store w) l 0) scratch

-- a refusal changes nothing; else the room for field elements is left as zeros
unfoldable pub rebuild_spec : ℕ → ℕ → ℕ → List ℕ → List ℕ → List ℕ → List ℕ → ℕ → ℕ → Rebuilt
rebuild_spec n m s marks store scratch numbers first count =
    cond (wrong_shape n m s || wrong_memory n m s (length marks) (length store) (length scratch) (length numbers) first count)
    (rebuilt scratch numbers (Err Refusal.BadShape))
    (cond (ltb (holding marks) n)
    (rebuilt scratch numbers (Err Refusal.TooFew))
    (rebuilt (rebuilt_scratch n m s marks store first count scratch) (zeros numbers_room) (Ok tt)))

-- ---- rebuild_all

-- the missing data blocks, rising; after them scratch is as it was
unfoldable pub decoded_scratch : ℕ → ℕ → ℕ → List ℕ → List ℕ → List ℕ → List ℕ
decoded_scratch n m s marks store scratch =
    joined (λ l. decode n m s marks store (get_or (missing_data n marks) l 0)) 0 (length (missing_data n marks))
    ++ drop (length (missing_data n marks) * s) scratch

unfoldable pub rebuild_all_spec : ℕ → ℕ → ℕ → List ℕ → List ℕ → List ℕ → List ℕ → Rebuilt
rebuild_all_spec n m s marks store scratch numbers =
    cond (wrong_shape n m s || wrong_memory n m s (length marks) (length store) (length scratch) (length numbers) 0 (s / 2))
    (rebuilt scratch numbers (Err Refusal.BadShape))
    (cond (ltb (holding marks) n)
    (rebuilt scratch numbers (Err Refusal.TooFew))
    (rebuilt (decoded_scratch n m s marks store scratch) (zeros numbers_room) (Ok tt)))
