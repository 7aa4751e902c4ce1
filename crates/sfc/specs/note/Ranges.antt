-- The ranges that rising indices make, and the ranges of the unknown data blocks (document 01, "Resend note and listing").
-- Assumes nothing: these are definitions.
use Rattle.std.specs.Prelude.{ℕ, suc, ◌+◌, Bool, true, cond, ◌&&◌, List, [], ◌∷◌, ltb, leb, eqb, length, Result, Ok, Err}
use Rattle.little.specs.Parts.{put}
use Rattle.sfc.specs.answer.Numbers.{Check, checked, Answered}
use Rattle.sfc.specs.session.Lent.{marks_wrong}
use Rattle.sfc.specs.note.Missing.{missing}
use Rattle.sfc.specs.declared.format.header.Head.{Head}
use Rattle.sfc.specs.declared.answer.reason.Reason.{Reason}

pub record Range : Type 0 where
  pub first : ℕ
  pub last : ℕ

-- an index put before ranges: it joins the first of them, or is a range of its own
unfoldable pub put_before : ℕ → List Range → List Range
put_before i [] = record { first = i; last = i } ∷ []
put_before i (r ∷ rs) =
    cond (eqb (suc i) r.first) (record { first = i; last = r.last } ∷ rs) (record { first = i; last = i } ∷ r ∷ rs)

-- the ranges of a rising list of indices
unfoldable pub ranges : List ℕ → List Range
ranges [] = []
ranges (i ∷ is) = put_before i (ranges is)

-- no range is empty, the first begins at `least` or later, and an index lies between each and the next
unfoldable pub apart_from : ℕ → List Range → Bool
apart_from least [] = true
apart_from least (r ∷ rs) = leb least r.first && leb r.first r.last && apart_from (r.last + 2) rs

abbrev pub maximal : List Range → Bool
maximal rs = apart_from 0 rs

-- what a caller is given: first and last of each range
unfoldable pub bounds : List Range → List ℕ
bounds [] = []
bounds (r ∷ rs) = r.first ∷ r.last ∷ bounds rs

-- ---- the call

abbrev pub bounds_for : Head → List ℕ → List ℕ
bounds_for h marks = bounds (ranges (missing h.n marks))

abbrev pub range_checks : Head → List ℕ → List ℕ → List Check
range_checks h marks out =
    (marks_wrong h.size h.n h.m h.s marks, 71) ∷ (ltb (length out) (length (bounds_for h marks)), 52) ∷ []

unfoldable pub list_ranges : Head → List ℕ → List ℕ → Answered (Result ℕ Reason)
list_ranges h marks out = record {
  answer = checked (range_checks h marks out) Err (Ok (length (bounds_for h marks)));
  output = checked (range_checks h marks out) (λ (r : Reason). out) (put out 0 (bounds_for h marks));
}
