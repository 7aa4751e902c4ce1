-- Ranges of the marks that do not say held: one mark more at the front, and a turn of the loop that counts them. Assumes
-- nothing.
use Prim.Native.Nat.{ℕ, zero, suc, ◌+◌, ◌-◌, ◌<◌, ◌≤◌}
use mathlib.Core.Path.{◌≡◌, refl, sym, ap, ◌∙◌}
use mathlib.Core.Bool.{Bool, true, false, cond, not, ◌&&◌, false≢true}
use mathlib.Core.List.{List, [], ◌∷◌}
use mathlib.Core.Logic.{◌⊎◌, inl, inr, ⊎_elim}
use native.Mathlib.Omega.{arith}
use borrow.Author.Tests.{eq-eqb, ne_eqb, eqb-true, eqb-false}
use lib.Dec.{eqb}
use lib.ListN.{length, get_or, drop}
use Rattle.sfc.specs.session.Marks.{is_held}
use Rattle.sfc.specs.note.Missing.{unheld_from}
use Rattle.sfc.specs.note.Ranges.{Range, put_before, ranges}
use Rattle.sfc.specs.inner.Index.{begins_at}
use Rattle.sfc.proofs.note.MissingLaws.{unheld_same, unheld_more, unheld_none}

pub either : (b : Bool) → (b ≡ true) ⊎ (b ≡ false)
either true = inl refl
either false = inr refl

-- the ranges that the marks from i on make
abbrev pub ranges_at : List ℕ → ℕ → List Range
ranges_at marks i = ranges (unheld_from i (drop i marks))

-- ---- an index put before ranges

begins_put : (i : ℕ) (rs : List Range) → begins_at i (put_before i rs) ≡ true
unfolding begins_at put_before
begins_put i [] = eq-eqb i i refl
begins_put i (r ∷ rs) = go (eqb (suc i) r.first)
  where
    go : (b : Bool) → begins_at i (cond b (record { first = i; last = r.last } ∷ rs) (record { first = i; last = i } ∷ r ∷ rs)) ≡ true
    go true = eq-eqb i i refl
    go false = eq-eqb i i refl

begins_other : (i j : ℕ) (rs : List Range) → (i ≡ j → ⊥) → begins_at i (put_before j rs) ≡ false
unfolding begins_at put_before
begins_other i j [] h = ne_eqb i j h
begins_other i j (r ∷ rs) h = go (eqb (suc j) r.first)
  where
    go : (b : Bool) → begins_at i (cond b (record { first = j; last = r.last } ∷ rs) (record { first = j; last = j } ∷ r ∷ rs)) ≡ false
    go true = ne_eqb i j h
    go false = ne_eqb i j h

-- the ranges of marks from j on begin at j or later
begins_later : (i j : ℕ) (ks : List ℕ) → i < j → begins_at i (ranges (unheld_from j ks)) ≡ false
unfolding unheld_from ranges begins_at
begins_later i j [] h = refl
begins_later i j (k ∷ ks) h = go (is_held k) (begins_later i (suc j) ks (omega arith))
  where
    go : (b : Bool) → begins_at i (ranges (unheld_from (suc j) ks)) ≡ false
        → begins_at i (ranges (cond b (unheld_from (suc j) ks) (j ∷ unheld_from (suc j) ks))) ≡ false
    go true f = f
    go false f = begins_other i j (ranges (unheld_from (suc j) ks)) (λ e. omega arith)

pub begins_some : (i : ℕ) (rs : List Range) → begins_at i rs ≡ true → 0 < length rs
unfolding begins_at
begins_some i [] e = absurd (false≢true e)
begins_some i (r ∷ rs) e = omega arith

joined_length : (i : ℕ) (rs : List Range) → begins_at (suc i) rs ≡ true → length (put_before i rs) ≡ length rs
unfolding begins_at put_before
joined_length i [] e = absurd (false≢true e)
joined_length i (r ∷ rs) e = rw e

own-length : (i : ℕ) (rs : List Range) → begins_at (suc i) rs ≡ false → length (put_before i rs) ≡ suc (length rs)
unfolding begins_at put_before
own-length i [] e = refl
own-length i (r ∷ rs) e = rw e

put-longer : (i : ℕ) (rs : List Range) → length rs ≤ length (put_before i rs)
unfolding put_before
put-longer i [] = omega arith
put-longer i (r ∷ rs) = go (eqb (suc i) r.first)
  where
    go : (b : Bool) → suc (length rs) ≤ length (cond b (record { first = i; last = r.last } ∷ rs) (record { first = i; last = i } ∷ r ∷ rs))
    go true = omega arith
    go false = omega arith

-- the marks from i on make no more ranges than all marks
ranges_fewer : (j i : ℕ) (xs : List ℕ) → length (ranges (unheld_from (j + i) (drop i xs))) ≤ length (ranges (unheld_from j xs))
unfolding unheld_from ranges
ranges_fewer j zero xs = let e : j + 0 ≡ j = omega arith in rw e (omega arith)
ranges_fewer j (suc i) [] = omega arith
ranges_fewer j (suc i) (k ∷ ks) =
    let e : j + suc i ≡ suc j + i = omega arith in
    rw e (go (is_held k) (ranges_fewer (suc j) i ks))
  where
    go : (b : Bool) → length (ranges (unheld_from (suc j + i) (drop i ks))) ≤ length (ranges (unheld_from (suc j) ks))
        → length (ranges (unheld_from (suc j + i) (drop i ks))) ≤ length (ranges (cond b (unheld_from (suc j) ks) (j ∷ unheld_from (suc j) ks)))
    go true h = h
    go false h = omega (arith, put-longer j (ranges (unheld_from (suc j) ks)))

pub ranges-part : (i : ℕ) (marks : List ℕ) → length (ranges_at marks i) ≤ length (ranges (unheld_from 0 marks))
ranges-part i marks = let e : 0 + i ≡ i = omega arith in rw e at (ranges_fewer 0 i marks)

-- and no more than there are marks
pub ranges-few : (i : ℕ) (xs : List ℕ) → length (ranges (unheld_from i xs)) ≤ length xs
unfolding unheld_from ranges
ranges-few i [] = omega arith
ranges-few i (k ∷ ks) = go (is_held k) (ranges-few (suc i) ks)
  where
    go : (b : Bool) → length (ranges (unheld_from (suc i) ks)) ≤ length ks
        → length (ranges (cond b (unheld_from (suc i) ks) (i ∷ unheld_from (suc i) ks))) ≤ suc (length ks)
    go true h = omega arith
    go false h =
        ⊎_elim (λ e. omega (arith, joined_length i (ranges (unheld_from (suc i) ks)) e)) (λ e. omega (arith, own-length i (ranges (unheld_from (suc i) ks)) e))
        (either (begins_at (suc i) (ranges (unheld_from (suc i) ks))))

-- ---- one mark more at the front

module _ (marks : List ℕ) (i : ℕ) (h : 0 < i) (k : i ≤ length marks) where
  pub same-ranges : get_or marks (i - 1) 0 ≡ 1 → ranges_at marks (i - 1) ≡ ranges_at marks i
  same-ranges e = ap ranges (unheld_same marks i h k e)

  pub more_ranges : (get_or marks (i - 1) 0 ≡ 1 → ⊥) → ranges_at marks (i - 1) ≡ put_before (i - 1) (ranges_at marks i)
  unfolding ranges
  more_ranges e = ap ranges (unheld_more marks i h k e)

  -- none begins at a held index; one does at another
  pub begins_same : get_or marks (i - 1) 0 ≡ 1 → false ≡ begins_at (i - 1) (ranges_at marks (i - 1))
  begins_same e = sym (ap (begins_at (i - 1)) (same-ranges e) ∙ begins_later (i - 1) i (drop i marks) (omega arith))

  pub begins_more : (get_or marks (i - 1) 0 ≡ 1 → ⊥) → true ≡ begins_at (i - 1) (ranges_at marks (i - 1))
  begins_more e = sym (ap (begins_at (i - 1)) (more_ranges e) ∙ begins_put (i - 1) (ranges_at marks i))

  module _ (e : get_or marks (i - 1) 0 ≡ 1 → ⊥) where
    pub joined_more : begins_at i (ranges_at marks i) ≡ true → length (ranges_at marks (i - 1)) ≡ length (ranges_at marks i)
    joined_more b =
        let f : i ≡ suc (i - 1) = omega arith in
        ap length (more_ranges e) ∙ joined_length (i - 1) (ranges_at marks i) (sym (ap (λ (j : ℕ). begins_at j (ranges_at marks i)) f) ∙ b)

    pub own_more : begins_at i (ranges_at marks i) ≡ false → length (ranges_at marks (i - 1)) ≡ suc (length (ranges_at marks i))
    own_more b =
        let f : i ≡ suc (i - 1) = omega arith in
        ap length (more_ranges e) ∙ own-length (i - 1) (ranges_at marks i) (sym (ap (λ (j : ℕ). begins_at j (ranges_at marks i)) f) ∙ b)

pub none_at-end : (marks : List ℕ) → ranges_at marks (length marks) ≡ []
unfolding ranges
none_at-end marks = ap ranges (unheld_none (length marks) marks)

pub begins_end : (marks : List ℕ) → false ≡ begins_at (length marks) (ranges_at marks (length marks))
unfolding begins_at
begins_end marks = rw (none_at-end marks)

-- ---- counting

pub record Counting (marks : List ℕ) (count : ℕ) (joined : Bool) (i : ℕ) : Type 0 where
  pub few : count + i ≤ length marks
  pub counted : count ≡ length (ranges_at marks i)
  pub begins : joined ≡ begins_at i (ranges_at marks i)

pub count_start : (marks : List ℕ) → Counting marks 0 false (length marks)
count_start marks = record { few = omega arith; counted = rw (none_at-end marks); begins = begins_end marks }

module _ (marks : List ℕ) (count : ℕ) (joined : Bool) (i : ℕ) (h : 0 < i) (l : Counting marks count joined i) where
  in_marks : i ≤ length marks
  in_marks = omega (arith, l.few)

  turn : (b j : Bool) → eqb (get_or marks (i - 1) 0) 1 ≡ b → joined ≡ j → (n : ℕ) → n ≡ cond (not b && not j) (count + 1) count
      → Counting marks n (not b) (i - 1)
  turn true j f g n e =
      let s = eqb-true _ _ f in
      record {
        few = omega (arith, l.few);
        counted = e ∙ l.counted ∙ sym (ap length (same-ranges marks i h in_marks s));
        begins = begins_same marks i h in_marks s;
      }
  turn false true f g n e =
      let s = eqb-false _ _ f in
      record {
        few = omega (arith, l.few);
        counted = e ∙ l.counted ∙ sym (joined_more marks i h in_marks s (sym l.begins ∙ g));
        begins = begins_more marks i h in_marks s;
      }
  turn false false f g n e =
      let s = eqb-false _ _ f in
      record {
        few = omega (arith, l.few);
        counted = omega (arith, l.counted, own_more marks i h in_marks s (sym l.begins ∙ g));
        begins = begins_more marks i h in_marks s;
      }

  pub count-own : (not (eqb (get_or marks (i - 1) 0) 1) && not joined) ≡ true → Counting marks (count + 1) (not (eqb (get_or marks (i - 1) 0) 1)) (i - 1)
  count-own e = turn (eqb (get_or marks (i - 1) 0) 1) joined refl refl (count + 1) (rw e)

  pub count_same : (not (eqb (get_or marks (i - 1) 0) 1) && not joined) ≡ false → Counting marks count (not (eqb (get_or marks (i - 1) 0) 1)) (i - 1)
  count_same e = turn (eqb (get_or marks (i - 1) 0) 1) joined refl refl count (rw e)

pub count_end : (marks : List ℕ) (count : ℕ) (joined : Bool) (i : ℕ) → i ≤ 0 → Counting marks count joined i → count ≡ length (ranges (unheld_from 0 marks))
count_end marks count joined zero h l = l.counted
count_end marks count joined (suc i) h l = absurd (omega arith)
