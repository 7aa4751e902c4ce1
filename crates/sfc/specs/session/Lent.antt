-- 71, wherever a call gives it (document 01, its table): what is handed in and lent does not fit together. Assumes nothing: these
-- are definitions.
use Rattle.std.specs.Prelude.{ℕ, ◌+◌, ◌*◌, ◌/◌, Bool, not, ◌||◌, List, [], ◌∷◌, ltb, eqb, length, Result, Ok, Err}
use Rattle.sfc.specs.answer.Numbers.{Check, checked}
use Rattle.sfc.specs.format.Limits.{unlawful, above_house}
use Rattle.sfc.specs.session.Marks.{held_count, barred_count, marks_known}
use Rattle.sfc.specs.declared.format.header.Head.{Head}
use Rattle.sfc.specs.declared.session.marks.MarksCounted.{MarksCounted}
use Rattle.sfc.specs.declared.answer.reason.Reason.{Reason}
use Rattle.sfc.specs.answer.Places.{counts}

-- the four numbers handed in are against 14 or 15
unfoldable pub shape_wrong : ℕ → ℕ → ℕ → ℕ → Bool
shape_wrong size n m s = unlawful size n m s || above_house n m s

-- or the lent marks are not theirs
unfoldable pub marks_wrong : ℕ → ℕ → ℕ → ℕ → List ℕ → Bool
marks_wrong size n m s marks = shape_wrong size n m s || not (eqb (length marks) (n + m)) || not (marks_known marks)

-- or the lent store is not
unfoldable pub lent_wrong : ℕ → ℕ → ℕ → ℕ → List ℕ → List ℕ → Bool
lent_wrong size n m s store marks = marks_wrong size n m s marks || not (eqb (length store) ((n + m) * s))

-- what is lent beside store and marks to a call that rebuilds and gives: scratch for the rebuilt blocks, room for numbers, the
-- output
pub record Lent : Type 0 where
  pub scratch : List ℕ
  pub numbers : List ℕ
  pub output : List ℕ

abbrev pub lent_of : List ℕ → List ℕ → List ℕ → Lent
lent_of scratch numbers output = record { scratch = scratch; numbers = numbers; output = output }

-- or the scratch is not: M·S bytes and 1,024 numbers
unfoldable pub rebuild_wrong : Head → List ℕ → List ℕ → Lent → Bool
rebuild_wrong h store marks l =
    lent_wrong h.size h.n h.m h.s store marks || not (eqb (length l.scratch) (h.m * h.s)) || not (eqb (length l.numbers) 1024)

-- or the scratch of a rebuild in turns is not, or more of its word columns are finished than there are
unfoldable pub rebuilding_wrong : ℕ → ℕ → List ℕ → ℕ → Bool
rebuilding_wrong m s scratch finished = not (eqb (length scratch) (m * s)) || ltb (s / 2) finished

unfoldable pub columns_wrong : ℕ → ℕ → ℕ → ℕ → List ℕ → List ℕ → List ℕ → ℕ → Bool
columns_wrong size n m s store marks scratch finished = lent_wrong size n m s store marks || rebuilding_wrong m s scratch finished

-- ---- the count of marks, which nothing else refuses

abbrev pub count_checks : Head → List ℕ → List Check
count_checks h marks = (marks_wrong h.size h.n h.m h.s marks, 71) ∷ []

unfoldable pub count_marks : Head → List ℕ → Result MarksCounted Reason
count_marks h marks = checked (count_checks h marks) Err (Ok (counts (held_count marks) (barred_count marks)))
