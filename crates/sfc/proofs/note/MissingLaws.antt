-- The indices of marks that do not say held: how many there are, and a turn of the loops that judge, count and list them.
-- Assumes nothing.
use Prim.Native.Nat.{ℕ, zero, suc, ◌+◌, ◌-◌, ◌<◌, ◌≤◌}
use mathlib.Core.Path.{◌≡◌, refl, sym, ap, ◌∙◌}
use mathlib.Core.Bool.{Bool, true, false, cond}
use mathlib.Core.List.{List, [], ◌∷◌, ◌++◌}
use native.Mathlib.Omega.{arith}
use borrow.Author.Tests.{eq-eqb, ne_eqb, le-leb, lt-leb, lt-ltb, le-ltb}
use lib.ListN.{length, get_or, set, take, drop, length-set, length-append}
use lib.Seq.{length-take-le, drop-length, take-take, take_all, get_or-take, get_or-append-add}
use Rattle.std.proofs.lemmas.List.{take-append-le}
use Rattle.little.specs.Parts.{put}
use Rattle.little.proofs.Laws.{part_laws, put_laws}
use Rattle.cauchy.specs.Decode.{held, count}
use Rattle.sfc.specs.session.Marks.{is_held, held_count}
use Rattle.sfc.specs.session.Lent.{marks_wrong}
use Rattle.sfc.specs.answer.Numbers.{Answered}
use Rattle.sfc.specs.note.Missing.{unheld_from, missing, list_missing}
use Rattle.sfc.specs.declared.format.header.Head.{Head}
use Rattle.sfc.proofs.session.MarkLaws.{right_marks}
use Rattle.sfc.specs.declared.answer.reason.Reason.TheVariants.{Lent, OutputShort}
use Rattle.sfc.specs.declared.answer.reason.Reason.{Reason}
use Rattle.std.specs.Prelude.{Result, Ok, Err}

-- ---- a turn of a walk from the last mark to the first: `left` are the marks before it, and m is the mark that it meets

pub back : (marks rest left : List ℕ) (m : ℕ) → rest ≡ take (length rest) marks → rest ≡ left ++ (m ∷ [])
    → (0 < length rest) × (length left ≡ length rest - 1) × (get_or marks (length rest - 1) 0 ≡ m) × (left ≡ take (length left) marks)
back marks rest left m t p =
    let l : length rest ≡ length left + 1 = ap length p ∙ length-append left (m ∷ []) in
    let n : length rest - 1 ≡ length left + 0 = omega (arith, l) in
    let a : take (length left + 1) marks ≡ left ++ (m ∷ []) = sym (sym p ∙ t ∙ ap (λ (k : ℕ). take k marks) l) in
    let g : get_or marks (length left + 0) 0 ≡ m =
    sym (get_or-take (length left + 1) marks (length left + 0) 0 (omega arith)) ∙ ap (λ (xs : List ℕ). get_or xs (length left + 0) 0) a ∙ get_or-append-add left (m ∷ []) 0 0 in
    let f : left ≡ take (length left) marks =
    sym (sym (take-take (length left) (length left + 1) marks (omega arith)) ∙ ap (take (length left)) a ∙ take-append-le (length left) left (m ∷ []) (omega arith)
    ∙ take_all (length left) left (omega arith)) in
    (omega (arith, l), omega (arith, l), ap (λ (k : ℕ). get_or marks k 0) n ∙ g, f)

-- ---- how many are held, and how many not

module _ (xs : List ℕ) (i : ℕ) (h : 0 < i) (k : i ≤ length xs) where
  -- one mark more at the front of those that do not say held
  pub unheld_more : (get_or xs (i - 1) 0 ≡ 1 → ⊥) → unheld_from (i - 1) (drop (i - 1) xs) ≡ (i - 1) ∷ unheld_from i (drop i xs)
  unfolding unheld_from
  unheld_more e =
      let f : suc (i - 1) ≡ i = omega arith in
      rw (part_laws.drop_down xs i h k, ne_eqb _ _ e, f)

  pub unheld_same : get_or xs (i - 1) 0 ≡ 1 → unheld_from (i - 1) (drop (i - 1) xs) ≡ unheld_from i (drop i xs)
  unfolding unheld_from
  unheld_same e =
      let f : suc (i - 1) ≡ i = omega arith in
      rw (part_laws.drop_down xs i h k, eq-eqb _ _ e, f)

pub unheld_none : (i : ℕ) (xs : List ℕ) → unheld_from i (drop (length xs) xs) ≡ []
unfolding unheld_from
unheld_none i xs = rw drop-length

pub unheld_count : (i : ℕ) (xs : List ℕ) → length (unheld_from i xs) + held_count xs ≡ length xs
unfolding held count unheld_from
unheld_count i [] = refl
unheld_count i (k ∷ ks) = go (is_held k) (unheld_count (suc i) ks)
  where
    go : (b : Bool) → length (unheld_from (suc i) ks) + held_count ks ≡ length ks
        → length (cond b (unheld_from (suc i) ks) (i ∷ unheld_from (suc i) ks)) + count (cond b 1 0 ∷ held ks) ≡ suc (length ks)
    go true h = omega arith
    go false h = omega arith

-- the marks from i on have no more of them than all marks
pub unheld_fewer : (j i : ℕ) (xs : List ℕ) → length (unheld_from (j + i) (drop i xs)) ≤ length (unheld_from j xs)
unfolding unheld_from
unheld_fewer j zero xs = let e : j + 0 ≡ j = omega arith in rw e (omega arith)
unheld_fewer j (suc i) [] = omega arith
unheld_fewer j (suc i) (k ∷ ks) =
    let e : j + suc i ≡ suc j + i = omega arith in
    rw e (go (is_held k) (unheld_fewer (suc j) i ks))
  where
    go : (b : Bool) → length (unheld_from (suc j + i) (drop i ks)) ≤ length (unheld_from (suc j) ks)
        → length (unheld_from (suc j + i) (drop i ks)) ≤ length (cond b (unheld_from (suc j) ks) (j ∷ unheld_from (suc j) ks))
    go true h = h
    go false h = omega arith

pub unheld_part : (i : ℕ) (xs : List ℕ) → length (unheld_from i (drop i xs)) ≤ length (unheld_from 0 xs)
unheld_part i xs = let e : 0 + i ≡ i = omega arith in rw e at (unheld_fewer 0 i xs)

-- ---- the missing list, from all data marks or from none

pub missing_none : (n : ℕ) (marks : List ℕ) → n ≤ held_count marks → missing n marks ≡ unheld_from 0 (take 0 marks)
unfolding missing unheld_from
missing_none n marks h = rw (le-leb _ _ h)

pub missing-all : (n : ℕ) (marks : List ℕ) → held_count marks < n → missing n marks ≡ unheld_from 0 (take n marks)
unfolding missing
missing-all n marks h = rw (lt-leb _ _ h)

-- ---- listing them from the last to the first

-- what stands in the output where the marks from i on are listed in its places from k on, before what is left as it was
pub record Listing (marks : List ℕ) (count : ℕ) (out₀ out : List ℕ) (k i : ℕ) : Type 0 where
  pub within : i ≤ length marks
  pub long : length out ≡ length out₀
  pub placed : k + length (unheld_from i (drop i marks)) ≡ count
  pub after : drop k out ≡ unheld_from i (drop i marks) ++ drop count out₀

pub list_start : (marks : List ℕ) (count : ℕ) (out : List ℕ) → Listing marks count out out count (length marks)
list_start marks count out = record {
  within = omega arith;
  long = refl;
  placed = rw unheld_none (omega arith);
  after = rw unheld_none refl;
}

module _ (marks : List ℕ) (count : ℕ) (out₀ out : List ℕ) (k i : ℕ) (h : 0 < i) (l : Listing marks count out₀ out k i) where
  pub list_skip : get_or marks (i - 1) 0 ≡ 1 → Listing marks count out₀ out k (i - 1)
  list_skip e =
      let u = unheld_same marks i h l.within e in
      record { within = omega (arith, l.within); long = l.long; placed = rw u l.placed; after = rw u l.after }

  module _ (e : get_or marks (i - 1) 0 ≡ 1 → ⊥) (all : count ≡ length (unheld_from 0 marks)) where
    -- there is room before those listed already
    pub list_room : 0 < k
    list_room =
        omega (arith, l.placed, unheld_part (i - 1) marks, ap length (unheld_more marks i h l.within e))

    pub list_turn : count ≤ length out₀ → Listing marks count out₀ (set out (k - 1) (i - 1)) (k - 1) (i - 1)
    list_turn room =
        let u = unheld_more marks i h l.within e in
        let p = list_room in
        let lo = l.long in
        let pl = l.placed in
        let f : k - 1 + 1 ≡ k = omega arith in
        record {
          within = omega (arith, l.within);
          long = length-set out (k - 1) (i - 1) ∙ l.long;
          placed = rw u (omega arith);
          after = put_laws.drop-set out (k - 1) (i - 1) (omega arith) ∙ (rw (f, u) (ap (λ (r : List ℕ). (i - 1) ∷ r) l.after));
        }

pub list_end : (marks : List ℕ) (count : ℕ) (out₀ out : List ℕ) (k i : ℕ) → i ≤ 0 → count ≡ length (unheld_from 0 marks)
    → Listing marks count out₀ out k i → out ≡ put out₀ 0 (unheld_from 0 marks)
list_end marks count out₀ out k zero h all l =
    let z : k ≡ 0 = omega (arith, l.placed) in
    (rw (z, all) at l.after)
list_end marks count out₀ out k (suc i) h all l = absurd (omega arith)

-- ---- 71 and 52

-- a part of the data marks, after a test that found nothing wrong
pub among_right : (h : Head) (marks : List ℕ) (wrong : Bool) (among : ℕ) → wrong ≡ marks_wrong h.size h.n h.m h.s marks → wrong ≡ false
    → among ≤ h.n → (among ≤ length marks) × (among ≤ 1024) × (length (take among marks) ≡ among)
among_right h marks wrong among e f l =
    let r = right_marks h.size h.n h.m h.s marks (sym e ∙ f) in
    let i : among ≤ length marks = omega (arith, r.marks_long) in
    (i, omega (arith, r.shape.n_most), length-take-le among marks i)

module _ (h : Head) (marks out : List ℕ) where
  pub list_wrong : marks_wrong h.size h.n h.m h.s marks ≡ true
      → ◌≡◌ {A = Answered (Result ℕ Reason)} (record { answer = Err Lent; output = out }) (list_missing h marks out)
  unfolding list_missing
  list_wrong e = rw e

  module _ (e : marks_wrong h.size h.n h.m h.s marks ≡ false) (among count : ℕ) (listed : missing h.n marks ≡ unheld_from 0 (take among marks))
      (counted : count ≡ length (unheld_from 0 (take among marks))) where
    pub list_short : length out < count
        → ◌≡◌ {A = Answered (Result ℕ Reason)} (record { answer = Err OutputShort; output = out }) (list_missing h marks out)
    unfolding list_missing
    list_short l = rw (e, listed, ← counted, lt-ltb _ _ l)

    pub list_good : (after : List ℕ) → count ≤ length out → after ≡ put out 0 (unheld_from 0 (take among marks))
        → ◌≡◌ {A = Answered (Result ℕ Reason)} (record { answer = Ok count; output = after }) (list_missing h marks out)
    unfolding list_missing
    list_good after l f = rw (e, listed, f, ← counted, le-ltb _ _ l)

-- the count by subtraction
pub unheld_left : (among : ℕ) (marks : List ℕ) (held : ℕ) → among ≤ length marks → held ≡ held_count (take among marks)
    → (held ≤ among) × (among - held ≡ length (unheld_from 0 (take among marks)))
unheld_left among marks held h e =
    let l : length (take among marks) ≡ among = length-take-le among marks h in
    let c = unheld_count 0 (take among marks) in
    (omega arith, omega arith)
