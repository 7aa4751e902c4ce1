-- MissingExact of specs/note/NoteTheorems.antt: which indices the missing list has, and that it rises. Assumes nothing.
use Prim.Native.Nat.{ℕ, zero, suc, ◌+◌, ◌<◌, ◌≤◌}
use mathlib.Core.Path.{◌≡◌, refl, sym, ap, ◌∙◌}
use mathlib.Core.Bool.{Bool, true, false, cond, not, ◌&&◌}
use mathlib.Core.Logic.{⊎_elim}
use mathlib.Core.List.{List, [], ◌∷◌}
use native.Mathlib.Omega.{arith}
use borrow.Author.Tests.{eq-eqb, ne_eqb, lt-ltb, le-ltb, le-leb}
use lib.Dec.{ltb}
use lib.ListN.{length, get_or, take}
use lib.Seq.{length-take-le, get_or-take}
use Rattle.little.proofs.Laws.{test_laws}
use Rattle.little.specs.Runs.{any, among, rising_from}
use Rattle.sfc.specs.session.Marks.{is_held, held_count}
use Rattle.sfc.specs.note.Missing.{unheld_from, missing}
use Rattle.sfc.specs.note.NoteTheorems.{MissingExact}
use Rattle.sfc.proofs.note.MissingLaws.{missing_none, missing-all}

-- of the marks from j on, none before j is listed
before : (i j : ℕ) (ks : List ℕ) → i < j → among i (unheld_from j ks) ≡ false
unfolding any unheld_from
before i j [] h = refl
before i j (k ∷ ks) h = go (is_held k) (before i (suc j) ks (omega arith))
  where
    go : (b : Bool) → among i (unheld_from (suc j) ks) ≡ false → among i (cond b (unheld_from (suc j) ks) (j ∷ unheld_from (suc j) ks)) ≡ false
    go true f = f
    go false f = rw (ne_eqb i j (λ e. omega arith), f)

-- the one at place d is listed exactly if it is there and does not say held
listed : (j d : ℕ) (ks : List ℕ) → among (j + d) (unheld_from j ks) ≡ (ltb d (length ks) && not (is_held (get_or ks d 0)))
unfolding any unheld_from
listed j d [] = rw (le-ltb d 0 (omega arith)) refl
listed j zero (k ∷ ks) =
    let e : j + 0 ≡ j = omega arith in
    rw (e, lt-ltb 0 (suc (length ks)) (omega arith)) (go (is_held k))
  where
    go : (b : Bool) → among j (cond b (unheld_from (suc j) ks) (j ∷ unheld_from (suc j) ks)) ≡ not b
    go true = before j (suc j) ks (omega arith)
    go false = rw (eq-eqb j j refl)
listed j (suc d) (k ∷ ks) =
    let e : j + suc d ≡ suc j + d = omega arith in
    rw e (go (is_held k) ∙ listed (suc j) d ks ∙ ap (λ (b : Bool). b && not (is_held (get_or ks d 0))) (sym (test_laws.ltb_suc d (length ks))))
  where
    go : (b : Bool) → among (suc j + d) (cond b (unheld_from (suc j) ks) (j ∷ unheld_from (suc j) ks)) ≡ among (suc j + d) (unheld_from (suc j) ks)
    go true = refl
    go false = rw (ne_eqb (suc j + d) j (λ e. omega arith))

none : (i : ℕ) → among i (unheld_from 0 []) ≡ false
unfolding any unheld_from
none i = refl

exact : (n : ℕ) (marks : List ℕ) → n ≤ length marks → (i : ℕ)
    → among i (missing n marks) ≡ (ltb (held_count marks) n && (ltb i n && not (is_held (get_or marks i 0))))
exact n marks h i =
    ⊎_elim
    (λ (p : held_count marks < n).
    let z : 0 + i ≡ i = omega arith in
    let l : length (take n marks) ≡ n = length-take-le n marks h in
    rw (missing-all n marks p, lt-ltb _ _ p)
    ((rw (z, l) at (listed 0 i (take n marks)))
    ∙ ⊎_elim (λ (q : i < n). ap (λ (x : ℕ). ltb i n && not (is_held x)) (get_or-take n marks i 0 q))
    (λ (q : n ≤ i). rw (le-ltb i n q)) (test_laws.below_or i n)))
    (λ (p : n ≤ held_count marks). rw (missing_none n marks p, le-ltb _ _ p) (none i))
    (test_laws.below_or (held_count marks) n)

rising_from_lem : (least j : ℕ) (ks : List ℕ) → least ≤ j → rising_from least (unheld_from j ks) ≡ true
unfolding rising_from unheld_from
rising_from_lem least j [] h = refl
rising_from_lem least j (k ∷ ks) h = go (is_held k) (rising_from_lem least (suc j) ks (omega arith)) (rising_from_lem (suc j) (suc j) ks (omega arith))
  where
    go : (b : Bool) → rising_from least (unheld_from (suc j) ks) ≡ true → rising_from (suc j) (unheld_from (suc j) ks) ≡ true
        → rising_from least (cond b (unheld_from (suc j) ks) (j ∷ unheld_from (suc j) ks)) ≡ true
    go true f g = f
    go false f g = rw (le-leb least j h) g

pub missing_rises : (n : ℕ) (marks : List ℕ) → rising_from 0 (missing n marks) ≡ true
missing_rises n marks =
    ⊎_elim (λ (p : held_count marks < n). rw (missing-all n marks p) (rising_from_lem 0 0 (take n marks) (omega arith)))
    (λ (p : n ≤ held_count marks). rw (missing_none n marks p) (rising_from_lem 0 0 [] (omega arith)))
    (test_laws.below_or (held_count marks) n)

pub missing_exact : MissingExact
missing_exact = record { exact = exact; rising = missing_rises }
