-- The tallies are the counts over the history (SessionTheorems, TalliesCount). Assumes nothing.
use Prim.Native.Nat.{ℕ, ◌+◌, ◌-◌, ◌≤◌}
use native.Mathlib.Omega.{arith}
use native.Mathlib.Decide.{ℕ_discrete}
use mathlib.Core.Path.{◌≡◌, refl, ◌∙◌, ap, subst}
use mathlib.Core.Logic.{◌≢◌}
use mathlib.Core.Bool.{Bool, true, false, cond, ◌||◌}
use mathlib.Core.List.{List, [], ◌∷◌}
use lib.Dec.{eqb, lit≤}
use lib.ListN.{length, get_or, set, length-set, get_or-replicate}
use lib.Seq.{get_or-set_same, get_or-set_other}
use borrow.Author.Tests.{eqb-true, eqb-false, eq-eqb, ne_eqb}
use Rattle.little.proofs.Laws.{test_laws}
use Rattle.little.specs.Runs.{zeros}
use Rattle.sfc.specs.answer.Numbers.{Check, checked, number_of, reason_of}
use Rattle.sfc.specs.format.Chunk.{index_of}
use Rattle.sfc.specs.session.Tallies.{tally_of, counted, counted_refusal}
use Rattle.sfc.specs.session.Session.{Session, blank, mark, offer_checks, welcomed, verdict_of, after}
use Rattle.sfc.specs.session.History.{after_all, verdicts}
use Rattle.sfc.specs.session.SessionTheorems.{is_fresh, is_repeat, is_refusal, count, TalliesCount}
use Rattle.sfc.specs.declared.format.header.Head.{Head}
use Rattle.sfc.specs.declared.answer.reason.Reason.{Reason}
use Rattle.sfc.specs.declared.session.tallies.Tallies.{Tallies}
use Rattle.sfc.specs.declared.session.offer.Verdict.{Verdict}
use Rattle.sfc.specs.declared.session.offer.Verdict.TheVariants.{Fresh, Repeat, Refused}
use Rattle.sfc.proofs.session.HistoryLaws.{after_tallies}
use Rattle.sfc.proofs.session.OfferLaws.{never_refused}

-- ---- which numbers an offer can get

abbrev AllNumbers : (ℕ → Type 0) → List Check → Type 0
AllNumbers P [] = Unit {0}
AllNumbers P (c ∷ cs) = P (number_of (reason_of c.1)) × AllNumbers P cs

refused_number : (P : ℕ → Type 0) (cs : List Check) (good : Verdict) (r : Reason) → ((q : Reason) → good ≡ Refused q → ⊥) → AllNumbers P cs
    → checked cs Refused good ≡ Refused r → P (number_of r)
refused_number P [] good r n o e = absurd (n r e)
refused_number P ((true, k) ∷ cs) good r n o e = let f : reason_of k ≡ r = cc in subst (λ (q : Reason). P (number_of q)) f o.0
refused_number P ((false, k) ∷ cs) good r n o e = refused_number P cs good r n o.1 e

abbrev Offered : ℕ → Type 0
Offered k = k ≢ 71 → k ≢ 43 → (30 ≤ k) × (k ≤ 42)

numbers : (h : Head) (x : Session) (c : List ℕ) (r : Reason) → verdict_of h x c ≡ Refused r → Offered (number_of r)
unfolding verdict_of
numbers h x c r e =
    refused_number Offered (offer_checks h x c) (welcomed h x c) r (never_refused h x c (eqb (mark x (index_of c)) 0))
    ((λ a b. absurd (a refl)), ((λ a b. absurd (b refl)), ((λ a b. (lit≤ tt, lit≤ tt)), ((λ a b. (lit≤ tt, lit≤ tt)), ((λ a b. (lit≤ tt, lit≤ tt)), ((λ a b. (lit≤ tt, lit≤ tt)), ((λ a b. (lit≤ tt, lit≤ tt)), ((λ a b. (lit≤ tt, lit≤ tt)), ((λ a b. (lit≤ tt, lit≤ tt)), ((λ a b. (lit≤ tt, lit≤ tt)), ((λ a b. (lit≤ tt, lit≤ tt)), ((λ a b. (lit≤ tt, lit≤ tt)), ((λ a b. (lit≤ tt, lit≤ tt)), ((λ a b. (lit≤ tt, lit≤ tt)), ((λ a b. (lit≤ tt, lit≤ tt)), ((λ a b. (lit≤ tt, lit≤ tt)), tt))))))))))))))))
    e

-- ---- a number that each offer raises by one if its verdict is of a kind

counting : (f : Tallies → ℕ) (is : Verdict → Bool) (I : Tallies → Type 0)
    → ((h : Head) (x : Session) (c : List ℕ) → I x.tallies → (f (counted x.tallies (verdict_of h x c)) ≡ f x.tallies + cond (is (verdict_of h x c)) 1 0) × I (counted x.tallies (verdict_of h x c)))
    → (h : Head) (x : Session) (cs : List (List ℕ)) → I x.tallies → f (after_all h x cs).tallies ≡ f x.tallies + count is (verdicts h x cs)
unfolding after_all verdicts count
counting f is I s h x [] i = omega arith
counting f is I s h x (c ∷ cs) i =
    let e : (after h x c).tallies ≡ counted x.tallies (verdict_of h x c) = after_tallies h x c in
    let p : (f (counted x.tallies (verdict_of h x c)) ≡ f x.tallies + cond (is (verdict_of h x c)) 1 0) × I (counted x.tallies (verdict_of h x c)) = s h x c i in
    let j : I (after h x c).tallies = rw e p.1 in
    omega (arith, counting f is I s h (after h x c) cs j, ap f e, p.0)

-- ---- fresh and repeat

refusal_keeps : (f : Tallies → ℕ) → ((t : Tallies) (l : List ℕ) → f (record { fresh = t.fresh; repeat = t.repeat; refused = l }) ≡ f t) → (t : Tallies) (k : ℕ) → f (counted_refusal t k) ≡ f t
unfolding counted_refusal
refusal_keeps f g t k = go (eqb k 71 || eqb k 43)
  where
    go : (b : Bool) → f (cond b t (record { fresh = t.fresh; repeat = t.repeat; refused = set t.refused (k - 30) (tally_of t k + 1) })) ≡ f t
    go true = refl
    go false = g t _

pub fresh_step : (t : Tallies) (v : Verdict) → (counted t v).fresh ≡ t.fresh + cond (is_fresh v) 1 0
unfolding counted
fresh_step t (Fresh i p) = refl
fresh_step t (Repeat i p) = omega arith
fresh_step t (Refused r) = refusal_keeps (λ (t : Tallies). t.fresh) (λ t l. refl) t (number_of r) ∙ omega arith

repeat_step : (t : Tallies) (v : Verdict) → (counted t v).repeat ≡ t.repeat + cond (is_repeat v) 1 0
unfolding counted
repeat_step t (Fresh i p) = omega arith
repeat_step t (Repeat i p) = refl
repeat_step t (Refused r) = refusal_keeps (λ (t : Tallies). t.repeat) (λ t l. refl) t (number_of r) ∙ omega arith

-- ---- refusals

refused_one : (t : Tallies) (n k : ℕ) → 30 ≤ k → k ≤ 42 → Offered n → length t.refused ≡ 13
    → (tally_of (counted_refusal t n) k ≡ tally_of t k + cond (eqb n k) 1 0) × (length (counted_refusal t n).refused ≡ 13)
unfolding counted_refusal
refused_one t n k a b o l = go (eqb n 71 || eqb n 43) refl
  where
    go : (c : Bool) → (eqb n 71 || eqb n 43) ≡ c
        → (tally_of (cond c t (record { fresh = t.fresh; repeat = t.repeat; refused = set t.refused (n - 30) (tally_of t n + 1) })) k ≡ tally_of t k + cond (eqb n k) 1 0)
        × (length (cond c t (record { fresh = t.fresh; repeat = t.repeat; refused = set t.refused (n - 30) (tally_of t n + 1) })).refused ≡ 13)
    go true e = (rw (ne_eqb n k (λ f. away f (eqb n 71) refl e)) (omega arith), l)
      where
        away : n ≡ k → (d : Bool) → eqb n 71 ≡ d → (eqb n 71 || eqb n 43) ≡ true → ⊥
        away f true g e = omega (arith, eqb-true n 71 g)
        away f false g e = omega (arith, eqb-true n 43 (rw g at e))
    go false e =
        let s = test_laws.or-false (eqb n 71) (eqb n 43) e in
        let r : (30 ≤ n) × (n ≤ 42) = o (eqb-false n 71 s.0) (eqb-false n 43 s.1) in
        (at_k r (ℕ_discrete n k), length-set t.refused (n - 30) (tally_of t n + 1) ∙ l)
      where
        at_k : (30 ≤ n) × (n ≤ 42) → Dec (n ≡ k) → get_or (set t.refused (n - 30) (tally_of t n + 1)) (k - 30) 0 ≡ tally_of t k + cond (eqb n k) 1 0
        at_k r (yes f) = rw (eq-eqb n k f, ← f) (get_or-set_same t.refused (n - 30) (tally_of t n + 1) 0 (omega arith))
        at_k r (no f) = rw (ne_eqb n k f) (get_or-set_other t.refused (n - 30) (k - 30) (tally_of t n + 1) 0 (λ g. f (omega arith)) ∙ omega arith)

pub refused_step : (t : Tallies) (v : Verdict) (k : ℕ) → 30 ≤ k → k ≤ 42 → ((r : Reason) → v ≡ Refused r → Offered (number_of r)) → length t.refused ≡ 13
    → (tally_of (counted t v) k ≡ tally_of t k + cond (is_refusal k v) 1 0) × (length (counted t v).refused ≡ 13)
unfolding counted
refused_step t (Fresh i p) k a b o l = (omega arith, l)
refused_step t (Repeat i p) k a b o l = (omega arith, l)
refused_step t (Refused r) k a b o l = refused_one t (number_of r) k a b (o r refl) l

pub tallies_count : TalliesCount
tallies_count = record {
  fresh = λ h cs. counting (λ (t : Tallies). t.fresh) is_fresh (λ t. Unit {0}) (λ h x c i. (fresh_step x.tallies (verdict_of h x c), tt)) h (blank h) cs tt ∙ omega arith;
  repeat = λ h cs. counting (λ (t : Tallies). t.repeat) is_repeat (λ t. Unit {0}) (λ h x c i. (repeat_step x.tallies (verdict_of h x c), tt)) h (blank h) cs tt ∙ omega arith;
  refused = λ h cs k a b. counting (λ (t : Tallies). tally_of t k) (is_refusal k) (λ t. length t.refused ≡ 13) (λ h x c l. refused_step x.tallies (verdict_of h x c) k a b (numbers h x c) l) h (blank h) cs refl
      ∙ zero-plus k a b (count (is_refusal k) (verdicts h (blank h) cs));
  numbers = numbers;
}
  where
    zero-plus : (k : ℕ) → 30 ≤ k → k ≤ 42 → (m : ℕ) → get_or (zeros 13) (k - 30) 0 + m ≡ m
    zero-plus k a b m = omega (arith, get_or-replicate {A = ℕ} 13 (k - 30) 0 0 (omega arith))
