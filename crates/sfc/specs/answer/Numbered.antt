-- What is proved of the table of numbers (document 01, "Numbers a caller can get"): a statement, proved in proofs/answer/Numbered.antt.
use Rattle.std.specs.Prelude.{ℕ, zero, suc, ◌≡◌, Bool, true, cond, ◌&&◌, List, [], ◌∷◌, eqb}
use Rattle.little.specs.Runs.{rising_from}
use Rattle.sfc.specs.answer.Numbers.{row, last_row, number_of, reason_of}
use Rattle.sfc.specs.declared.answer.reason.Reason.{Reason}

-- the numbers of the rows up to row r, and those of `rest`; the first argument only bounds the rows
abbrev pub numbers_up_to : ℕ → Reason → List ℕ → List ℕ
numbers_up_to zero r rest = rest
numbers_up_to (suc most) r rest =
    cond (eqb (number_of r) (number_of (row r).1)) (number_of r ∷ rest) (numbers_up_to most (row r).1 (number_of r ∷ rest))

abbrev pub table : List ℕ
table = numbers_up_to 60 last_row []

-- the numbers that document 01's table has for a container, and 54 of document 02, [8]; 72, the hash's, is blake3's own
abbrev pub paper_table : List ℕ
paper_table =
    10 ∷ 11 ∷ 12 ∷ 13 ∷ 14 ∷ 15 ∷ 16 ∷ 17 ∷ 18 ∷ 19 ∷ 20 ∷ 21 ∷ 22 ∷ 23 ∷ 30 ∷ 31 ∷ 32 ∷ 33 ∷ 34 ∷ 35 ∷ 36 ∷ 37 ∷ 38 ∷ 39 ∷ 40 ∷ 41
    ∷ 42 ∷ 43 ∷ 50 ∷ 51 ∷ 52 ∷ 53 ∷ 54 ∷ 60 ∷ 61 ∷ 70 ∷ 71 ∷ []

-- whether a test holds of each
abbrev pub each : (ℕ → Bool) → List ℕ → Bool
each p [] = true
each p (k ∷ ks) = p k && each p ks

pub record Numbered : Type 0 where
  -- no number stands twice
  pub rising : rising_from 0 table ≡ true
  -- each number of the papers has its reason, and that reason this number
  pub paper_back : each (λ (k : ℕ). eqb (number_of (reason_of k)) k) paper_table ≡ true
  -- and so has each of our rows
  pub number-back : each (λ (k : ℕ). eqb (number_of (reason_of k)) k) table ≡ true
  -- and each reason is the one that its number leads to, so two reasons with one number are one
  pub reason_back : (r : Reason) → reason_of (number_of r) ≡ r
