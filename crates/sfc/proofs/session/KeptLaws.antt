-- What is kept beside a session: a verdict's part in it, and that the session inside goes its own way. Assumes nothing.
use Prim.Native.Nat.{ℕ, ◌*◌, ◌/◌, ◌≤◌}
use mathlib.Core.Path.{◌≡◌, refl, sym, ap, ◌∙◌}
use mathlib.Core.Bool.{Bool, true, false, cond, not}
use mathlib.Core.List.{List, [], ◌∷◌}
use native.Mathlib.Omega.{arith}
use borrow.Author.Tests.{eq-eqb, ne_eqb, le-ltb, ltb-false, eqb-true, not-false}
use lib.Dec.{eqb, ltb}
use lib.ListN.{length, length-replicate}
use Rattle.little.specs.Runs.{zeros}
use Rattle.little.proofs.Laws.{test_laws}
use Rattle.sfc.specs.answer.Numbers.{number_of}
use Rattle.sfc.specs.format.Spot.{spot_for}
use Rattle.sfc.specs.inner.Steps.{Judged, judged}
use Rattle.sfc.specs.session.Lent.{rebuilding_wrong}
use Rattle.sfc.specs.session.Tallies.{counted, counted_refusal}
use Rattle.sfc.specs.session.Session.{Session, verdict_of, settled, after_verdict, after, spot_of}
use Rattle.sfc.specs.session.History.{after_all}
use Rattle.sfc.specs.session.Offer.{Logged, logged, beside_wrong, offer_verdict, restarts, scratch_after, finished_after, logged_by, logged_after, logged_all, offered_of, offered}
use Rattle.sfc.specs.give.TurnTheorems.{Anew, AsBefore, OwnOffer, Restart}
use Rattle.sfc.specs.declared.format.header.Head.{Head}
use Rattle.sfc.specs.declared.answer.reason.Reason.TheVariants.{Lent as LentWrong}
use Rattle.sfc.specs.declared.session.offer.Verdict.{Verdict}
use Rattle.sfc.specs.declared.session.offer.Verdict.TheVariants.{Fresh, Repeat, Refused}
use Rattle.sfc.specs.declared.answer.places.BytePlace.{BytePlace}
use Rattle.std.specs.Prelude.{Option, None}

-- ---- 71, of what is kept beside

pub record RightBeside (m s : ℕ) (scratch : List ℕ) (f : ℕ) : Type 0 where
  pub long : length scratch ≡ m * s
  pub most : f ≤ s / 2

pub right_beside : (m s : ℕ) (scratch : List ℕ) (f : ℕ) → rebuilding_wrong m s scratch f ≡ false → RightBeside m s scratch f
unfolding rebuilding_wrong
right_beside m s scratch f e =
    let t = test_laws.or-false (not (eqb (length scratch) (m * s))) (ltb (s / 2) f) e in
    record { long = eqb-true (length scratch) (m * s) (not-false (eqb (length scratch) (m * s)) t.0); most = ltb-false (s / 2) f t.1 }

pub beside_right : (m s : ℕ) (scratch : List ℕ) (f : ℕ) → RightBeside m s scratch f → rebuilding_wrong m s scratch f ≡ false
unfolding rebuilding_wrong
beside_right m s scratch f r = rw (eq-eqb (length scratch) (m * s) r.long, le-ltb (s / 2) f r.most)

-- ---- by the verdict

module _ (h : Head) (y : Logged) (c : List ℕ) where
  pub by_verdict : (v : Verdict) → offer_verdict h y c ≡ v → logged_after h y c ≡ logged_by h y c v
  unfolding logged_after
  by_verdict v e = ap (logged_by h y c) e

  pub anew : (v : Verdict) → offer_verdict h y c ≡ v → restarts v ≡ true → Anew y (logged_after h y c)
  anew v e f = record {
    scratch = ap (λ (z : Logged). z.scratch) (by_verdict v e) ∙ ap (λ (b : Bool). cond b (zeros (length y.scratch)) y.scratch) f;
    finished = ap (λ (z : Logged). z.finished) (by_verdict v e) ∙ ap (λ (b : Bool). cond b 0 y.finished) f;
  }

  pub goes_on : (v : Verdict) → offer_verdict h y c ≡ v → restarts v ≡ false → AsBefore y (logged_after h y c)
  goes_on v e f = record {
    scratch = ap (λ (z : Logged). z.scratch) (by_verdict v e) ∙ ap (λ (b : Bool). cond b (zeros (length y.scratch)) y.scratch) f;
    finished = ap (λ (z : Logged). z.finished) (by_verdict v e) ∙ ap (λ (b : Bool). cond b 0 y.finished) f;
  }

  -- what follows from a verdict is lent as rightly as what was there
  beside-after : (v : Verdict) → RightBeside h.m h.s y.scratch y.finished
      → RightBeside h.m h.s (scratch_after y.scratch v) (finished_after y.finished v)
  beside-after v r = go (restarts v)
    where
      go : (b : Bool) → RightBeside h.m h.s (cond b (zeros (length y.scratch)) y.scratch) (cond b 0 y.finished)
      go true = record { long = length-replicate (length y.scratch) 0 ∙ r.long; most = omega arith }
      go false = r

  pub own-verdict : beside_wrong h y ≡ false → offer_verdict h y c ≡ verdict_of h y.session c
  unfolding offer_verdict
  own-verdict e = rw e

  pub own_offer : beside_wrong h y ≡ false → OwnOffer h y c
  unfolding logged_after after
  own_offer e = record {
    verdict = own-verdict e;
    session = ap (after_verdict h y.session c) (own-verdict e);
    beside = beside_right h.m h.s _ _ (beside-after (offer_verdict h y c) (right_beside h.m h.s y.scratch y.finished e));
  }

pub restart : Restart
unfolding restarts
restart = record {
  fresh = λ h y c i p e. anew h y c (Fresh i p) e refl;
  barring = λ h y c r e f. anew h y c (Refused r) e (eq-eqb (number_of r) 41 f);
  repeat = λ h y c i p e. goes_on h y c (Repeat i p) e refl;
  refused = λ h y c r e f. goes_on h y c (Refused r) e (ne_eqb (number_of r) 41 f);
}

-- ---- many offers

pub own_offers : (h : Head) (y : Logged) (cs : List (List ℕ)) → beside_wrong h y ≡ false
    → ((logged_all h y cs).session ≡ after_all h y.session cs) × (beside_wrong h (logged_all h y cs) ≡ false)
unfolding logged_all after_all
own_offers h y [] e = (refl, e)
own_offers h y (c ∷ cs) e =
    let o = own_offer h y c e in
    let r = own_offers h (logged_after h y c) cs o.beside in
    (r.0 ∙ ap (λ (x : Session). after_all h x cs) o.session, r.1)

-- ---- an offer as the code finds it

-- 71 for what is kept beside changes nothing
pub offered-beside : (h : Head) (y : Logged) (c : List ℕ) → beside_wrong h y ≡ true → offered_of y (Refused LentWrong) None ≡ offered h y c
unfolding offered logged_after offer_verdict settled counted counted_refusal restarts spot_of spot_for
offered-beside h y c e = rw e

-- else the session's verdict first, then its place, and what follows for the rebuild
module _ (h : Head) (y : Logged) (c : List ℕ) (right : beside_wrong h y ≡ false) (j : Judged) (e : j ≡ judged h y.session c) where
  pub verdict-judged : j.verdict ≡ verdict_of h y.session c
  unfolding judged
  verdict-judged = ap (λ (z : Judged). z.verdict) e

  same-verdict : j.verdict ≡ offer_verdict h y c
  same-verdict = verdict-judged ∙ sym (own-verdict h y c right)

  same-session : j.session ≡ (logged_after h y c).session
  unfolding judged
  same-session = ap (λ (z : Judged). z.session) e ∙ sym (own_offer h y c right).session

  pub offered-judged : (p : Option BytePlace) (scratch : List ℕ) (f : ℕ) → p ≡ spot_of h c j.verdict → scratch ≡ scratch_after y.scratch j.verdict
      → f ≡ finished_after y.finished j.verdict → offered_of (logged j.session scratch f) j.verdict p ≡ offered h y c
  unfolding offered logged_after
  offered-judged p scratch f ep es ef =
      λ i. offered_of (logged (same-session i) ((es ∙ ap (scratch_after y.scratch) same-verdict) i) ((ef ∙ ap (finished_after y.finished) same-verdict) i))
      (same-verdict i) ((ep ∙ ap (spot_of h c) same-verdict) i)
