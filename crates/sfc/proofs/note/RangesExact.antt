-- RangesExact of specs/note/NoteTheorems.antt: the ranges of a rising list are maximal, have its indices, and are the only ones.
-- Assumes nothing.
use Prim.Native.Nat.{ℕ, suc, ◌+◌, ◌<◌, ◌≤◌}
use mathlib.Core.Path.{◌≡◌, refl, sym, ap, ap₂, ◌∙◌}
use mathlib.Core.Bool.{Bool, true, false, cond, ◌&&◌, ◌||◌, false≢true}
use mathlib.Core.Logic.{⊎_elim}
use mathlib.Core.List.{List, [], ◌∷◌}
use native.Mathlib.Omega.{arith}
use borrow.Author.Tests.{eq-eqb, ne_eqb, eqb-true, eqb-false, le-leb, lt-leb, leb-true}
use lib.Dec.{eqb, leb}
use Rattle.little.proofs.Laws.{test_laws}
use Rattle.little.specs.Runs.{any, among, rising_from}
use Rattle.sfc.specs.note.Ranges.{Range, put_before, ranges, apart_from}
use Rattle.sfc.specs.note.NoteTheorems.{covered, RangesExact}

-- what the test of ranges says of the first of them, and of the rest
pub record Apart (least : ℕ) (r : Range) (rs : List Range) : Type 0 where
  pub from : least ≤ r.first
  pub some : r.first ≤ r.last
  pub rest : apart_from (r.last + 2) rs ≡ true

pub apart : (least : ℕ) (r : Range) (rs : List Range) → apart_from least (r ∷ rs) ≡ true → Apart least r rs
unfolding apart_from
apart least r rs e =
    let x = test_laws.and_both (leb least r.first && leb r.first r.last) (apart_from (r.last + 2) rs) e in
    let y = test_laws.and_both (leb least r.first) (leb r.first r.last) x.0 in
    record { from = leb-true _ _ y.0; some = leb-true _ _ y.1; rest = x.1 }

apart_back : (least : ℕ) (r : Range) (rs : List Range) → least ≤ r.first → r.first ≤ r.last → apart_from (r.last + 2) rs ≡ true
    → apart_from least (r ∷ rs) ≡ true
unfolding apart_from
apart_back least r rs h k e = rw (le-leb _ _ h, le-leb _ _ k) e

-- ---- they are maximal

none_apart : (least : ℕ) → apart_from least [] ≡ true
unfolding apart_from
none_apart least = refl

put_apart : (least i : ℕ) (rs : List Range) → least ≤ i → apart_from (suc i) rs ≡ true → apart_from least (put_before i rs) ≡ true
unfolding put_before
put_apart least i [] h e = apart_back least (record { first = i; last = i }) [] h (omega arith) (none_apart (i + 2))
put_apart least i (r ∷ rs) h e = go (eqb (suc i) r.first) refl (apart (suc i) r rs e)
  where
    go : (b : Bool) → eqb (suc i) r.first ≡ b → Apart (suc i) r rs
        → apart_from least (cond b (record { first = i; last = r.last } ∷ rs) (record { first = i; last = i } ∷ r ∷ rs)) ≡ true
    go true f a = apart_back least (record { first = i; last = r.last }) rs h (omega (arith, a.from, a.some)) a.rest
    go false f a =
        apart_back least (record { first = i; last = i }) (r ∷ rs) h (omega arith)
        (apart_back (i + 2) r rs (omega (arith, a.from, eqb-false (suc i) r.first f)) a.some a.rest)

rise_from : (least : ℕ) (is : List ℕ) → rising_from least is ≡ true → apart_from least (ranges is) ≡ true
unfolding rising_from ranges apart_from
rise_from least [] e = refl
rise_from least (i ∷ is) e =
    let x = test_laws.and_both (leb least i) (rising_from (suc i) is) e in
    put_apart least i (ranges is) (leb-true _ _ x.0) (rise_from (suc i) is x.1)

-- ---- they have the indices of the list

-- a range from j to l is j and the range after it
one_more : (i j f l : ℕ) → f ≡ suc j → j ≤ l → (leb j i && leb i l) ≡ (eqb i j || (leb f i && leb i l))
one_more i j f l e h =
    ⊎_elim (λ (p : i < j). rw (lt-leb j i p, lt-leb f i (omega arith), ne_eqb i j (λ s. omega arith)))
    (λ (p : j ≤ i). ⊎_elim
    (λ (q : j < i). rw (le-leb j i p, le-leb f i (omega arith), ne_eqb i j (λ s. omega arith)))
    (λ (q : i ≤ j). rw (le-leb j i p, eq-eqb i j (omega arith), le-leb i l (omega arith)))
    (test_laws.below_or j i))
    (test_laws.below_or i j)

-- a range of one index is that index
only : (i j : ℕ) → (leb j i && leb i j) ≡ eqb i j
only i j =
    ⊎_elim (λ (p : i < j). rw (lt-leb j i p, ne_eqb i j (λ s. omega arith)))
    (λ (p : j ≤ i). ⊎_elim
    (λ (q : j < i). rw (le-leb j i p, lt-leb i j q, ne_eqb i j (λ s. omega arith)))
    (λ (q : i ≤ j). rw (le-leb j i p, eq-eqb i j (omega arith), le-leb i j q))
    (test_laws.below_or j i))
    (test_laws.below_or i j)

or_assoc : (a b c : Bool) → ((a || b) || c) ≡ (a || (b || c))
or_assoc true b c = refl
or_assoc false b c = refl

put-covered : (i j : ℕ) (rs : List Range) → apart_from (suc j) rs ≡ true → covered i (put_before j rs) ≡ (eqb i j || covered i rs)
unfolding put_before any
put-covered i j [] e = rw (only i j)
put-covered i j (r ∷ rs) e = go (eqb (suc j) r.first) refl (apart (suc j) r rs e)
  where
    go : (b : Bool) → eqb (suc j) r.first ≡ b → Apart (suc j) r rs
        → covered i (cond b (record { first = j; last = r.last } ∷ rs) (record { first = j; last = j } ∷ r ∷ rs))
        ≡ (eqb i j || ((leb r.first i && leb i r.last) || covered i rs))
    go true f a =
        rw (one_more i j r.first r.last (sym (eqb-true _ _ f)) (omega (arith, a.from, a.some)))
        (or_assoc (eqb i j) (leb r.first i && leb i r.last) (covered i rs))
    go false f a = rw (only i j)

cover_from : (least : ℕ) (is : List ℕ) → rising_from least is ≡ true → (i : ℕ) → covered i (ranges is) ≡ among i is
unfolding rising_from ranges any
cover_from least [] e i = refl
cover_from least (j ∷ is) e i =
    let x = test_laws.and_both (leb least j) (rising_from (suc j) is) e in
    put-covered i j (ranges is) (rise_from (suc j) is x.1) ∙ ap (λ (b : Bool). eqb i j || b) (cover_from (suc j) is x.1 i)

-- ---- no others have them

first_in : (least : ℕ) (r : Range) (rs : List Range) → Apart least r rs → covered r.first (r ∷ rs) ≡ true
unfolding any
first_in least r rs a = rw (le-leb _ _ a.some, le-leb r.first r.first (omega arith))

inside : (i : ℕ) (r : Range) (rs : List Range) → r.first ≤ i → i ≤ r.last → covered i (r ∷ rs) ≡ true
unfolding any
inside i r rs h k = rw (le-leb _ _ h, le-leb _ _ k)

-- outside the first range, only the rest counts
before-first : (i : ℕ) (r : Range) (rs : List Range) → i < r.first → covered i (r ∷ rs) ≡ covered i rs
unfolding any
before-first i r rs h = rw (lt-leb _ _ h)

after_last : (i : ℕ) (r : Range) (rs : List Range) → r.last < i → covered i (r ∷ rs) ≡ covered i rs
unfolding any
after_last i r rs h = go (leb r.first i)
  where
    go : (b : Bool) → ((b && leb i r.last) || covered i rs) ≡ covered i rs
    go true = rw (lt-leb _ _ h)
    go false = refl

before-all : (least i : ℕ) (rs : List Range) → apart_from least rs ≡ true → i < least → covered i rs ≡ false
unfolding any
before-all least i [] e h = refl
before-all least i (r ∷ rs) e h =
    let a = apart least r rs e in
    before-first i r rs (omega (arith, a.from)) ∙ before-all (r.last + 2) i rs a.rest (omega (arith, a.from, a.some))

-- neither list begins later, nor ends its first range sooner, than the other
not_later : (l m : ℕ) (r q : Range) (rs qs : List Range) → Apart l r rs → Apart m q qs → ((i : ℕ) → covered i (r ∷ rs) ≡ covered i (q ∷ qs))
    → q.first ≤ r.first
not_later l m r q rs qs a b h =
    ⊎_elim (λ (p : r.first < q.first).
    absurd (false≢true (sym (before-first r.first q qs p ∙ before-all (q.last + 2) r.first qs b.rest (omega (arith, b.some))) ∙ sym (h r.first) ∙ first_in l r rs a)))
    (λ (p : q.first ≤ r.first). p)
    (test_laws.below_or r.first q.first)

not_sooner : (l m : ℕ) (r q : Range) (rs qs : List Range) → Apart l r rs → Apart m q qs → r.first ≡ q.first
    → ((i : ℕ) → covered i (r ∷ rs) ≡ covered i (q ∷ qs)) → q.last ≤ r.last
not_sooner l m r q rs qs a b e h =
    ⊎_elim (λ (p : r.last < q.last).
    absurd (false≢true (sym (after_last (suc r.last) r rs (omega arith) ∙ before-all (r.last + 2) (suc r.last) rs a.rest (omega arith))
    ∙ h (suc r.last) ∙ inside (suc r.last) q qs (omega (arith, a.some)) (omega arith))))
    (λ (p : q.last ≤ r.last). p)
    (test_laws.below_or r.last q.last)

none : (i : ℕ) → false ≡ covered i []
unfolding any
none i = refl

same : (l m : ℕ) (rs qs : List Range) → apart_from l rs ≡ true → apart_from m qs ≡ true → ((i : ℕ) → covered i rs ≡ covered i qs) → rs ≡ qs
same l m [] [] e f h = refl
same l m [] (q ∷ qs) e f h = absurd (false≢true (none q.first ∙ h q.first ∙ first_in m q qs (apart m q qs f)))
same l m (r ∷ rs) [] e f h = absurd (false≢true (none r.first ∙ sym (h r.first) ∙ first_in l r rs (apart l r rs e)))
same l m (r ∷ rs) (q ∷ qs) e f h =
    let a = apart l r rs e in
    let b = apart m q qs f in
    let h' : (i : ℕ) → covered i (q ∷ qs) ≡ covered i (r ∷ rs) = λ i. sym (h i) in
    let x = not_later l m r q rs qs a b h in
    let y = not_later m l q r qs rs b a h' in
    let first : r.first ≡ q.first = omega arith in
    let u = not_sooner l m r q rs qs a b first h in
    let v = not_sooner m l q r qs rs b a (sym first) h' in
    let last : r.last ≡ q.last = omega arith in
    ap₂ ◌∷◌ (λ t. record { first = first t; last = last t })
    (same (r.last + 2) (q.last + 2) rs qs a.rest b.rest
    (λ i. ⊎_elim
    (λ (p : i < r.last + 2). before-all (r.last + 2) i rs a.rest p ∙ sym (before-all (q.last + 2) i qs b.rest (omega arith)))
    (λ (p : r.last + 2 ≤ i). sym (after_last i r rs (omega arith)) ∙ h i ∙ after_last i q qs (omega arith))
    (test_laws.below_or i (r.last + 2))))

pub ranges_exact : RangesExact
ranges_exact = record { rise = rise_from 0; cover = cover_from 0; only_one = same 0 0 }
