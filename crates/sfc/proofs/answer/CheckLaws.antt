-- Lists of checks, one after the other: what a refusal and a good verdict of the first part say of the whole, and what an
-- answer tells of them. Assumes nothing.
use Prim.Native.Nat.{ℕ, zero, suc}
use mathlib.Core.Path.{◌≡◌, refl, sym, ap, ◌∙◌, subst}
use mathlib.Core.Bool.{Bool, true, false, cond, not, ◌&&◌, true≢false, false≢true}
use mathlib.Core.List.{List, [], ◌∷◌, ◌++◌}
use native.Mathlib.Omega.{arith}
use borrow.Author.Tests.{eqb-false, not-true}
use lib.Dec.{eqb}
use lib.ListN.{get_or, take, drop}
use Rattle.little.proofs.Laws.{test_laws}
use Rattle.sfc.specs.answer.Numbers.{Check, checked, verdict, passes, Passed, number_of, reason_of, Checked}
use Rattle.sfc.specs.declared.answer.reason.Reason.{Reason}
use Rattle.std.specs.Prelude.{Ok, Err, Result, IsErrAnd}

refused_not_good : {A : Type 0} (r : Reason) → ◌≡◌ {A = Checked} (Err r) (Ok tt) → A
refused_not_good r e = absurd (let z : ◌≡◌ {A = ℕ} 0 1 = cc in omega arith)

refused_one : (r s : Reason) → ◌≡◌ {A = Checked} (Err r) (Err s) → r ≡ s
refused_one r s e = cc

-- ---- one check, as the code tries it: v is what `refuse_if` answers, and x what leaves the function by the `?` after it

-- what leaves by a `?` is the same refusal
pub passed_on : {A : Type 0} (x : Result A Reason) (r : Reason) → IsErrAnd x (λ (y : Reason). y ≡ r) → x ≡ Err r
passed_on (Ok a) r e = absurd e
passed_on (Err y) r e = ap Err e

-- where the check refuses, its test holds, and the reason is its own
pub refuses : {A : Type 0} {test : Bool} {why r : Reason} {v : Checked} {x : Result A Reason} → v ≡ cond test (Err why) (Ok tt) → v ≡ Err r
    → IsErrAnd x (λ (y : Reason). y ≡ r) → (test ≡ true) × (x ≡ Err why)
refuses {test = true} {why} {r} {v} {x} e f g = (refl, passed_on x r g ∙ ap Err (refused_one r why (sym f ∙ e)))
refuses {test = false} {why} {r} {v} {x} e f g = refused_not_good r (sym f ∙ e)

-- where it lets through, its test fails
pub let_by : {test : Bool} {u : Unit {0}} {v : Checked} (why : Reason) → v ≡ cond test (Err why) (Ok tt) → v ≡ Ok u → test ≡ false
let_by {test = true} {u} {v} why e f = refused_not_good why (sym e ∙ f)
let_by {test = false} {u} {v} why e f = refl

module _ {A : Type 0} (refuse : Reason → A) where
  -- a good part is passed over
  pub good_then : (cs ds : List Check) (good : A) → verdict cs ≡ Ok tt → checked (cs ++ ds) refuse good ≡ checked ds refuse good
  good_then [] ds good e = refl
  good_then ((true, k) ∷ cs) ds good e = refused_not_good (reason_of k) e
  good_then ((false, k) ∷ cs) ds good e = good_then cs ds good e

  -- a part that refuses decides
  pub refused_then : (cs ds : List Check) (good : A) (r : Reason) → verdict cs ≡ Err r → checked (cs ++ ds) refuse good ≡ refuse r
  refused_then [] ds good r e = refused_not_good r (sym e)
  refused_then ((true, k) ∷ cs) ds good r e = ap refuse (refused_one (reason_of k) r e)
  refused_then ((false, k) ∷ cs) ds good r e = refused_then cs ds good r e

  -- the same of a whole list
  pub good_all : (cs : List Check) (good : A) → verdict cs ≡ Ok tt → checked cs refuse good ≡ good
  good_all [] good e = refl
  good_all ((true, k) ∷ cs) good e = refused_not_good (reason_of k) e
  good_all ((false, k) ∷ cs) good e = good_all cs good e

  pub refused_all : (cs : List Check) (good : A) (r : Reason) → verdict cs ≡ Err r → checked cs refuse good ≡ refuse r
  refused_all [] good r e = refused_not_good r (sym e)
  refused_all ((true, k) ∷ cs) good r e = ap refuse (refused_one (reason_of k) r e)
  refused_all ((false, k) ∷ cs) good r e = refused_all cs good r e

-- ---- the same for a function that goes on only where the part before was good

pub stop : (cs ds : List Check) (v : Checked) (r : Reason) → v ≡ verdict cs → v ≡ Err r → v ≡ verdict (cs ++ ds)
stop cs ds v r e f = f ∙ sym (refused_then Err cs ds (Ok tt) r (sym e ∙ f))

pub go_on : (cs ds : List Check) (v w : Checked) → v ≡ verdict cs → v ≡ Ok tt → w ≡ verdict ds → w ≡ verdict (cs ++ ds)
go_on cs ds v w e f g = g ∙ sym (good_then Err cs ds (Ok tt) (sym e ∙ f))

-- each test of a good list is false
pub passed : (cs : List Check) → verdict cs ≡ Ok tt → Passed cs
passed [] e = tt
passed ((true, k) ∷ cs) e = refused_not_good (reason_of k) e
passed ((false, k) ∷ cs) e = (refl, passed cs e)

-- the front of a good list is good
pub front_good : (cs ds : List Check) → verdict (cs ++ ds) ≡ Ok tt → verdict cs ≡ Ok tt
front_good [] ds e = refl
front_good ((true, k) ∷ cs) ds e = refused_not_good (reason_of k) e
front_good ((false, k) ∷ cs) ds e = front_good cs ds e

pub front-passed : (cs ds : List Check) → Passed (cs ++ ds) → Passed cs
front-passed [] ds p = tt
front-passed (c ∷ cs) ds p = (p.0, front-passed cs ds p.1)

pub all-passed : (cs : List Check) → Passed cs → verdict cs ≡ Ok tt
all-passed [] p = refl
all-passed ((true, k) ∷ cs) p = absurd (true≢false p.0)
all-passed ((false, k) ∷ cs) p = all-passed cs p.1

-- ---- a list of checks passes exactly if its verdict is good

pub passes_good : (cs : List Check) → passes cs ≡ true → verdict cs ≡ Ok tt
passes_good [] e = refl
passes_good ((true, k) ∷ cs) e = absurd (false≢true e)
passes_good ((false, k) ∷ cs) e = passes_good cs e

pub good_passes : (cs : List Check) → verdict cs ≡ Ok tt → passes cs ≡ true
good_passes [] e = refl
good_passes ((true, k) ∷ cs) e = refused_not_good (reason_of k) e
good_passes ((false, k) ∷ cs) e = good_passes cs e

pub wrong_fails : (cs : List Check) (r : Reason) → verdict cs ≡ Err r → passes cs ≡ false
wrong_fails [] r e = refused_not_good r (sym e)
wrong_fails ((true, k) ∷ cs) r e = refl
wrong_fails ((false, k) ∷ cs) r e = wrong_fails cs r e

-- ---- which check refused, told by its number

-- a fact of each number, where its own test holds and those before it do not
abbrev pub EachHeld : (ℕ → Type 0) → List Check → Type 0
EachHeld P [] = Unit {0}
EachHeld P (c ∷ cs) = (c.0 ≡ true → P (number_of (reason_of c.1))) × (c.0 ≡ false → EachHeld P cs)

pub number-held : (P : ℕ → Type 0) (cs : List Check) (r : Reason) → EachHeld P cs → verdict cs ≡ Err r → P (number_of r)
number-held P [] r o e = refused_not_good r (sym e)
number-held P ((true, k) ∷ cs) r o e = subst (λ (q : Reason). P (number_of q)) (refused_one (reason_of k) r e) (o.0 refl)
number-held P ((false, k) ∷ cs) r o e = number-held P cs r (o.1 refl) e

-- whether no number of a list is k: a computed test, since the numbers of a list are literals
abbrev pub without : ℕ → List Check → Bool
without k [] = true
without k (c ∷ cs) = not (eqb (number_of (reason_of c.1)) k) && without k cs

other-number : (k j : ℕ) → number_of (reason_of k) ≡ k → not (eqb (number_of (reason_of j)) k) ≡ true → reason_of j ≡ reason_of k → ⊥
other-number k j t n e = eqb-false (number_of (reason_of j)) k (not-true (eqb (number_of (reason_of j)) k) n) (ap number_of e ∙ t)

not_by : (k : ℕ) (cs : List Check) → number_of (reason_of k) ≡ k → without k cs ≡ true → verdict cs ≡ Err (reason_of k) → ⊥
not_by k [] t w e = refused_not_good (reason_of k) (sym e)
not_by k ((true, j) ∷ cs) t w e = other-number k j t (test_laws.and_both _ (without k cs) w).0 (refused_one (reason_of j) (reason_of k) e)
not_by k ((false, j) ∷ cs) t w e = not_by k cs t (test_laws.and_both (not (eqb (number_of (reason_of j)) k)) (without k cs) w).1 e

-- a number that stands once in a list, as the i-th: its test holds, and none before it
pub blamed : (k i : ℕ) (cs : List Check) → number_of (reason_of k) ≡ k → without k (take i cs) ≡ true → without k (drop (suc i) cs) ≡ true
    → verdict cs ≡ Err (reason_of k) → Passed (take i cs) × ((get_or cs i (false, 0)).0 ≡ true)
blamed k i [] t w v e = refused_not_good (reason_of k) (sym e)
blamed k zero ((true, j) ∷ cs) t w v e = (tt, refl)
blamed k zero ((false, j) ∷ cs) t w v e = absurd (not_by k cs t v e)
blamed k (suc i) ((true, j) ∷ cs) t w v e = absurd (other-number k j t (test_laws.and_both _ (without k (take i cs)) w).0 (refused_one (reason_of j) (reason_of k) e))
blamed k (suc i) ((false, j) ∷ cs) t w v e =
    let b = blamed k i cs t (test_laws.and_both (not (eqb (number_of (reason_of j)) k)) (without k (take i cs)) w).1 v e in
    ((refl, b.0), b.1)

-- ---- what an answer tells of the checks that it came from, whatever form it has

-- an answer that is no refusal was let through by every check
pub let_through : {A : Type 0} (refuse : Reason → A) (cs : List Check) (good v : A) → ((r : Reason) → refuse r ≡ v → ⊥) → checked cs refuse good ≡ v
    → Passed cs × (good ≡ v)
let_through refuse [] good v n e = (tt, e)
let_through refuse ((true, k) ∷ cs) good v n e = absurd (n (reason_of k) e)
let_through refuse ((false, k) ∷ cs) good v n e = let p = let_through refuse cs good v n e in ((refl, p.0), p.1)

-- `seen` reads the verdict out of an answer
module _ {A : Type 0} (seen : A → Checked) (refuse : Reason → A) (good : A) (f : (r : Reason) → seen (refuse r) ≡ Err r) (g : seen good ≡ Ok tt) where
  seen_of : (cs : List Check) → seen (checked cs refuse good) ≡ verdict cs
  seen_of [] = g
  seen_of ((true, k) ∷ cs) = f (reason_of k)
  seen_of ((false, k) ∷ cs) = seen_of cs

  pub tells : (cs : List Check) (v : Checked) → seen (checked cs refuse good) ≡ v → verdict cs ≡ v
  tells cs v e = sym (seen_of cs) ∙ e
