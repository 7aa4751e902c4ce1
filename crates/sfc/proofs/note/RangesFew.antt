-- RangesFew of specs/note/NoteTheorems.antt: ranges with an index between them are at most half as many as there are
-- indices. Assumes nothing.
use Prim.Native.Nat.{ℕ, zero, suc, ◌+◌, ◌*◌, ◌≤◌, ◌<◌}
use mathlib.Core.Path.{◌≡◌}
use mathlib.Core.Bool.{Bool, true, false, cond}
use mathlib.Core.Logic.{⊎_elim}
use mathlib.Core.List.{List, [], ◌∷◌}
use native.Mathlib.Omega.{arith}
use borrow.Author.Tests.{le-ltb}
use lib.Dec.{eqb}
use lib.ListN.{length, take}
use Rattle.little.proofs.Laws.{test_laws}
use Rattle.little.specs.Parts.{put}
use Rattle.sfc.specs.answer.Numbers.{Answered}
use Rattle.sfc.specs.session.Marks.{is_held, held_count}
use Rattle.sfc.specs.session.Lent.{marks_wrong}
use Rattle.sfc.specs.note.Missing.{unheld_from, missing}
use Rattle.sfc.specs.note.Ranges.{Range, put_before, ranges, apart_from, bounds, bounds_for, list_ranges}
use Rattle.sfc.specs.note.NoteTheorems.{RangesFew}
use Rattle.sfc.specs.declared.format.header.Head.{Head}
use Rattle.sfc.proofs.session.MarkLaws.{right_marks}
use Rattle.sfc.proofs.note.MissingLaws.{missing_none, missing-all}
use Rattle.sfc.proofs.note.MissingExact.{missing_rises}
use Rattle.sfc.proofs.note.RangesExact.{apart, ranges_exact}
use Rattle.sfc.proofs.note.PairLaws.{bounds_long}
use Rattle.sfc.specs.declared.answer.reason.Reason.{Reason}
use Rattle.std.specs.Prelude.{Result, Ok}

-- each range of indices of so many marks ends among them, and ranges with an index between them are at most half as many
abbrev pub Ends : ℕ → List Range → Type 0
Ends top [] = Unit {0}
Ends top (r ∷ rs) = (r.last < top) × Ends top rs

put_ends : (top i : ℕ) (rs : List Range) → i < top → Ends top rs → Ends top (put_before i rs)
unfolding put_before
put_ends top i [] h e = (h, tt)
put_ends top i (r ∷ rs) h e = go (eqb (suc i) r.first)
  where
    go : (b : Bool) → Ends top (cond b (record { first = i; last = r.last } ∷ rs) (record { first = i; last = i } ∷ r ∷ rs))
    go true = e
    go false = (h, e)

ends : (top j : ℕ) (ks : List ℕ) → j + length ks ≤ top → Ends top (ranges (unheld_from j ks))
unfolding unheld_from ranges
ends top j [] h = tt
ends top j (k ∷ ks) h = go (is_held k) (ends top (suc j) ks (omega arith))
  where
    go : (b : Bool) → Ends top (ranges (unheld_from (suc j) ks)) → Ends top (ranges (cond b (unheld_from (suc j) ks) (j ∷ unheld_from (suc j) ks)))
    go true e = e
    go false e = put_ends top j (ranges (unheld_from (suc j) ks)) (omega arith) e

half : (least top : ℕ) (rs : List Range) → least ≤ top + 1 → apart_from least rs ≡ true → Ends top rs → 2 * length rs + least ≤ top + 1
half least top [] h a e = omega arith
half least top (r ∷ rs) h a e =
    let p = apart least r rs a in
    omega (arith, p.from, p.some, half (r.last + 2) top rs (omega (arith, e.0)) p.rest e.1)

taken : (n : ℕ) (xs : List ℕ) → length (take n xs) ≤ n
taken zero xs = omega arith
taken (suc n) [] = omega arith
taken (suc n) (x ∷ xs) = omega (arith, taken n xs)

pub missing_ends : (n : ℕ) (marks : List ℕ) → Ends n (ranges (missing n marks))
missing_ends n marks =
    ⊎_elim (λ (p : held_count marks < n). rw (missing-all n marks p) (ends n 0 (take n marks) (omega (arith, taken n marks))))
    (λ (p : n ≤ held_count marks). rw (missing_none n marks p) (ends n 0 [] (omega arith)))
    (test_laws.below_or (held_count marks) n)

few : (n : ℕ) (marks : List ℕ) → 2 * length (ranges (missing n marks)) ≤ n + 1
few n marks =
    let h = half 0 n (ranges (missing n marks)) (omega arith) (ranges_exact.rise (missing n marks) (missing_rises n marks)) (missing_ends n marks) in
    omega arith

bounds-few : (n : ℕ) (marks : List ℕ) → n ≤ 1024 → length (bounds (ranges (missing n marks))) ≤ 1024
bounds-few n marks h = omega (arith, few n marks, bounds_long (ranges (missing n marks)))

ranges-given : (h : Head) (marks out : List ℕ) → marks_wrong h.size h.n h.m h.s marks ≡ false → 1024 ≤ length out
    → ◌≡◌ {A = Answered (Result ℕ Reason)} (list_ranges h marks out) (record { answer = Ok (length (bounds_for h marks)); output = put out 0 (bounds_for h marks) })
unfolding list_ranges
ranges-given h marks out e l =
    let f = bounds-few h.n marks (right_marks h.size h.n h.m h.s marks e).shape.n_most in
    rw (e, le-ltb (length out) (length (bounds_for h marks)) (omega arith))

pub ranges-few : RangesFew
ranges-few = record { bounds_long = bounds_long; ranges-few = few; bounds-few = bounds-few; ranges-given = ranges-given }
