-- The data blocks from what is held (document 01, "Marks, hand-out, prefix"): all held data blocks and, for the missing ones, as
-- many of the held recovery blocks, the lowest first. What lies in the store at an index that is not held is never used.
-- Assumes nothing: these are definitions.
use Rattle.std.specs.Prelude.{cond, List, [], ◌∷◌, ◌++◌, ℕ, zero, suc, ◌+◌, ◌/◌, length, get_or, take, drop, eqb}
use Rattle.std.specs.Int.Bits.{bit_xor}
use Rattle.little.specs.Parts.{block}
use Rattle.cauchy.specs.Code.{held_mark, word_of, word_bytes, joined, field_sum, share}
use Rattle.cauchy.specs.inner.System.{field, solve}

-- 1 for each held index, 0 for each other
unfoldable pub held : List ℕ → List ℕ
held [] = []
held (mark ∷ marks) = cond (eqb mark held_mark) 1 0 ∷ held marks

-- how many are not 0
unfoldable pub count : List ℕ → ℕ
count [] = 0
count (zero ∷ hs) = count hs
count (suc h ∷ hs) = suc (count hs)

-- the places of the zeros, counted from c, rising
unfoldable pub missing : ℕ → List ℕ → List ℕ
missing c [] = []
missing c (zero ∷ hs) = c ∷ missing (suc c) hs
missing c (suc h ∷ hs) = missing (suc c) hs

-- the places of the others, counted from c, rising
unfoldable pub present : ℕ → List ℕ → List ℕ
present c [] = []
present c (zero ∷ hs) = present (suc c) hs
present c (suc h ∷ hs) = c ∷ present (suc c) hs

-- how many indices are held, data and recovery together
abbrev pub holding : List ℕ → ℕ
holding marks = count (held marks)

-- the data blocks that are not held, rising
abbrev pub missing_data : ℕ → List ℕ → List ℕ
missing_data n marks = missing 0 (held (take n marks))

-- their nodes in the code, m + j for data block j
abbrev pub missing_nodes : ℕ → ℕ → List ℕ → List ℕ
missing_nodes n m marks = missing m (held (take n marks))

-- the recovery blocks that are used: the lowest of the held ones, one for each missing data block
unfoldable pub rows_used : ℕ → List ℕ → List ℕ
rows_used n marks = take (length (missing_data n marks)) (present 0 (held (drop n marks)))

-- the shares of the held data blocks in word w of recovery block k, added up
unfoldable pub held_sum : ℕ → ℕ → ℕ → List ℕ → List ℕ → ℕ → ℕ → ℕ
held_sum n m s marks store k w = field_sum (λ j. cond (eqb (get_or marks j 0) held_mark) (share m s store k w j) 0) 0 n

-- what the missing data blocks bring to word w of recovery block k: all of that word but the held blocks' shares
unfoldable pub side : ℕ → ℕ → ℕ → List ℕ → List ℕ → ℕ → ℕ → ℕ
side n m s marks store w k = bit_xor (held_sum n m s marks store k w) (word_of s store (n + k) w)

unfoldable pub sides : ℕ → ℕ → ℕ → List ℕ → List ℕ → ℕ → List ℕ → List ℕ
sides n m s marks store w [] = []
sides n m s marks store w (k ∷ ks) = side n m s marks store w k ∷ sides n m s marks store w ks

-- word w of each missing data block, rising
unfoldable pub found_words : ℕ → ℕ → ℕ → List ℕ → List ℕ → ℕ → List ℕ
found_words n m s marks store w =
    solve field (rows_used n marks) (missing_nodes n m marks) (sides n m s marks store w (rows_used n marks))

-- how many data blocks below j are missing
unfoldable pub rank : ℕ → List ℕ → ℕ
rank j marks = length (missing 0 (held (take j marks)))

-- data block j, where at least n are held: as it lies in the store, or rebuilt
unfoldable pub decode : ℕ → ℕ → ℕ → List ℕ → List ℕ → ℕ → List ℕ
decode n m s marks store j =
    cond (eqb (get_or marks j 0) held_mark) (block s store j) (word_bytes (λ w. get_or (found_words n m s marks store w) (rank j marks) 0) 0 (s / 2))

-- all n data blocks
unfoldable pub decoded : ℕ → ℕ → ℕ → List ℕ → List ℕ → List ℕ
decoded n m s marks store = joined (λ j. decode n m s marks store j) 0 n

-- the marks of the e first held ones alone
unfoldable pub first_held : ℕ → List ℕ → List ℕ
first_held e [] = []
first_held zero (mark ∷ marks) = 0 ∷ first_held zero marks
first_held (suc e) (mark ∷ marks) = cond (eqb mark held_mark) (held_mark ∷ first_held e marks) (0 ∷ first_held (suc e) marks)

-- the marks of what `decode` uses: the data's, and those of as many held recovery blocks as data blocks are missing, the lowest
unfoldable pub used_marks : ℕ → List ℕ → List ℕ
used_marks n marks = take n marks ++ first_held (length (missing_data n marks)) (drop n marks)
