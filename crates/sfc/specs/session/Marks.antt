-- The marks of a session (document 01, "Marks, hand-out, prefix"): 0 for an absent index, 1 for a held and 2 for a barred
-- one. Assumes nothing: these are definitions.
use Rattle.std.specs.Prelude.{ℕ, suc, Bool, true, cond, ◌&&◌, List, [], ◌∷◌, ltb, eqb}
use Rattle.cauchy.specs.Decode.{holding}

abbrev pub is_held : ℕ → Bool
is_held mark = eqb mark 1

-- V: how many indices are held, data and recovery alike, as the code below counts them
abbrev pub held_count : List ℕ → ℕ
held_count marks = holding marks

-- how many are barred
unfoldable pub barred_count : List ℕ → ℕ
barred_count [] = 0
barred_count (k ∷ ks) = cond (eqb k 2) (suc (barred_count ks)) (barred_count ks)

-- each is one of the three
unfoldable pub marks_known : List ℕ → Bool
marks_known [] = true
marks_known (k ∷ ks) = ltb k 3 && marks_known ks
