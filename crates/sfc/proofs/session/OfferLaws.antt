-- What one offer changes (SessionTheorems, OneOffer). Assumes nothing.
use Prim.Native.Nat.{ℕ, ◌+◌, ◌*◌}
use mathlib.Core.Path.{◌≡◌, refl, sym, ap, ◌∙◌, subst}
use mathlib.Core.Logic.{◌≢◌}
use mathlib.Core.Bool.{Bool, true, false, cond, not, ◌&&◌}
use mathlib.Core.List.{List, [], ◌∷◌, ◌++◌}
use native.Mathlib.Omega.{arith}
use borrow.Author.Tests.{eqb-true, eqb-false, eq-eqb, ne_eqb, not-false, not-true}
use lib.Dec.{eqb}
use lib.ListN.{length, set, length-set, length-replicate}
use lib.Seq.{get_or-set_same, get_or-set_other}
use Rattle.little.specs.Parts.{put_block}
use Rattle.little.proofs.Laws.{part_laws, block_laws, test_laws, same_laws}
use Rattle.little.specs.Runs.{zeros, same}
use Rattle.sfc.specs.answer.Numbers.{Check, checked, number_of, reason_of, Passed}
use Rattle.sfc.specs.format.Chunk.{index_of, payload_length, payload_of, chunk_checks}
use Rattle.sfc.specs.answer.Places.{number, place}
use Rattle.sfc.specs.session.Tallies.{tally_full}
use Rattle.sfc.specs.session.Session.{Session, mark, block_of, session_wrong, mark_checks, offer_checks, welcomed, verdict_of, with_block, settled, tallied, after}
use Rattle.sfc.specs.session.History.{after_all}
use Rattle.sfc.specs.inner.Steps.{Welcome}
use Rattle.sfc.specs.session.SessionTheorems.{ChangesOne, SameKept, OneOffer}
use Rattle.sfc.specs.declared.format.header.Head.{Head}
use Rattle.sfc.specs.declared.answer.reason.Reason.{Reason}
use Rattle.sfc.specs.declared.answer.places.BlockNumber.{BlockNumber}
use Rattle.sfc.specs.declared.answer.places.BytePlace.{BytePlace}
use Rattle.sfc.specs.declared.session.offer.Verdict.{Verdict}
use Rattle.sfc.specs.declared.session.offer.Verdict.TheVariants.{Fresh, Repeat, Refused}
use Rattle.sfc.proofs.answer.CheckLaws.{all-passed, front_good, let_through}
use Rattle.sfc.proofs.session.SessionLaws.{Facts, facts, after_by, full_refused, judged-session}
use Rattle.sfc.proofs.session.MarkLaws.{fit_at}
use Rattle.sfc.proofs.session.BlockSteps.{Kept}
use Rattle.sfc.proofs.session.HistoryLaws.{kept_of, kept_wrong, keep_right, kept-after}

-- ---- what a verdict says of the checks

apart : {A : Type 0} (r : Reason) (i : BlockNumber) (p : BytePlace) → ◌≡◌ {A = Verdict} (Refused r) (Fresh i p) → A
apart r i p e = absurd (let z : ◌≡◌ {A = ℕ} 0 1 = cc in omega arith)

apart' : {A : Type 0} (r : Reason) (i : BlockNumber) (p : BytePlace) → ◌≡◌ {A = Verdict} (Refused r) (Repeat i p) → A
apart' r i p e = absurd (let z : ◌≡◌ {A = ℕ} 0 1 = cc in omega arith)

passed_right : (cs ds : List Check) → Passed (cs ++ ds) → Passed ds
passed_right [] ds p = p
passed_right (c ∷ cs) ds p = passed_right cs ds p.1

-- a refusal by a number that only the last check has passed all the others
abbrev Others : ℕ → List Check → Type 0
Others n [] = Unit {0}
Others n (c ∷ cs) = (number_of (reason_of c.1) ≢ n) × Others n cs

last_refuses : (cs : List Check) (t : Bool) (k : ℕ) (good : Verdict) (r : Reason) → ((q : Reason) → good ≡ Refused q → ⊥) → Others (number_of r) cs
    → checked (cs ++ ((t, k) ∷ [])) Refused good ≡ Refused r → Passed cs × (t ≡ true)
last_refuses [] true k good r n o e = (tt, refl)
last_refuses [] false k good r n o e = absurd (n r e)
last_refuses ((true, j) ∷ cs) t k good r n o e = let f : reason_of j ≡ r = cc in absurd (o.0 (ap number_of f))
last_refuses ((false, j) ∷ cs) t k good r n o e = let p = last_refuses cs t k good r n o.1 e in ((refl, p.0), p.1)

module _ (h : Head) (x : Session) (c : List ℕ) where
  -- ---- another block and mark at the chunk's index

  changes : Facts h x c → (b : List ℕ) (k : ℕ) (v : Verdict) → length b ≡ h.s → after h x c ≡ tallied (with_block h x (index_of c) b k) v
      → ChangesOne h x (after h x c) (index_of c) b k
  changes f b k v l e =
      let s = f.right.store_long in
      let es : (after h x c).store ≡ put_block h.s x.store (index_of c) b = ap (λ (y : Session). y.store) e in
      let em : (after h x c).marks ≡ set x.marks (index_of c) k = ap (λ (y : Session). y.marks) e in
      record {
        inside = f.inside;
        new_mark = ap (λ (y : Session). mark y (index_of c)) e ∙ get_or-set_same x.marks (index_of c) k 0 (omega (arith, f.inside, f.right.marks_long));
        new_block = ap (λ (y : Session). block_of h y (index_of c)) e ∙ block_laws.block-put h.s (h.n + h.m) x.store s (index_of c) f.inside b l;
        other-marks = λ j d. ap (λ (y : Session). mark y j) e ∙ get_or-set_other x.marks (index_of c) j k 0 d;
        other-blocks = λ j q d. ap (λ (y : Session). block_of h y j) e ∙ block_laws.block-put-other h.s (h.n + h.m) x.store s (index_of c) f.inside b l j q (λ z. d (sym z));
        store_length = ap length es ∙ block_laws.length-put_block h.s (h.n + h.m) x.store s (index_of c) f.inside b l ∙ sym s;
        marks-length = ap length em ∙ length-set x.marks (index_of c) k;
      }

  unchanged : (v : Verdict) → after h x c ≡ tallied x v → SameKept x (after h x c)
  unchanged v e = record { store = ap (λ (y : Session). y.store) e; marks = ap (λ (y : Session). y.marks) e }

  -- ---- the verdicts

  open_passed : Passed (offer_checks h x c) → Welcome h x c
  open_passed p = record { lent = p.0; room = p.1.0; whole = front_good (chunk_checks h c) (mark_checks h x c) (all-passed (chunk_checks h c ++ mark_checks h x c) p.1.1) }

  mark-passed : Passed (offer_checks h x c) → Passed (mark_checks h x c)
  mark-passed p = passed_right (chunk_checks h c) (mark_checks h x c) p.1.1

  long : Facts h x c → length (payload_of c) ≡ h.s
  long f = part_laws.length_part c 48 (payload_length c) (omega (arith, f.there)) ∙ f.long

  is_fresh_lem : (b : Bool) (i p : ℕ) → cond b (Fresh (number (index_of c)) (place (index_of c * h.s))) (Repeat (number (index_of c)) (place (index_of c * h.s))) ≡ Fresh (number i) (place p)
      → (b ≡ true) × (i ≡ index_of c) × (p ≡ index_of c * h.s)
  is_fresh_lem true i p e =
      let n : number (index_of c) ≡ number i = cc in
      let q : place (index_of c * h.s) ≡ place p = cc in
      (refl, sym (ap (λ (y : BlockNumber). y.0) n), sym (ap (λ (y : BytePlace). y.0) q))
  is_fresh_lem false i p e = absurd (let z : ◌≡◌ {A = ℕ} 0 1 = cc in omega arith)

  is_repeat_lem : (b : Bool) (i p : ℕ) → cond b (Fresh (number (index_of c)) (place (index_of c * h.s))) (Repeat (number (index_of c)) (place (index_of c * h.s))) ≡ Repeat (number i) (place p)
      → (b ≡ false) × (i ≡ index_of c) × (p ≡ index_of c * h.s)
  is_repeat_lem true i p e = absurd (let z : ◌≡◌ {A = ℕ} 0 1 = cc in omega arith)
  is_repeat_lem false i p e =
      let n : number (index_of c) ≡ number i = cc in
      let q : place (index_of c * h.s) ≡ place p = cc in
      (refl, sym (ap (λ (y : BlockNumber). y.0) n), sym (ap (λ (y : BytePlace). y.0) q))

  pub never_refused : (b : Bool) (q : Reason) → cond b (Fresh (number (index_of c)) (place (index_of c * h.s))) (Repeat (number (index_of c)) (place (index_of c * h.s))) ≡ Refused q → ⊥
  never_refused true q e = apart q _ _ (sym e)
  never_refused false q e = apart' q _ _ (sym e)

  fresh_changes_one : (i p : ℕ) → verdict_of h x c ≡ Fresh (number i) (place p)
      → (i ≡ index_of c) × (p ≡ i * h.s) × (mark x i ≡ 0) × ChangesOne h x (after h x c) i (payload_of c) 1
  unfolding verdict_of settled
  fresh_changes_one i p e =
      let t = let_through Refused (offer_checks h x c) (welcomed h x c) (Fresh (number i) (place p)) (λ r. apart r _ _) e in
      let f = facts h x c (open_passed t.0) in
      let q = is_fresh_lem (eqb (mark x (index_of c)) 0) i p t.1 in
      let one = changes f (payload_of c) 1 (Fresh (number i) (place p)) (long f) (after_by h x c (Fresh (number i) (place p)) e) in (
        q.1,
        q.2 ∙ ap (λ (j : ℕ). j * h.s) (sym q.1),
        ap (mark x) q.1 ∙ eqb-true (mark x (index_of c)) 0 q.0,
        subst (λ (j : ℕ). ChangesOne h x (after h x c) j (payload_of c) 1) (sym q.1) one,
      )

  repeat_changes_nothing : (i p : ℕ) → verdict_of h x c ≡ Repeat (number i) (place p)
      → (i ≡ index_of c) × (p ≡ i * h.s) × (mark x i ≡ 1) × (block_of h x i ≡ payload_of c) × SameKept x (after h x c)
  unfolding verdict_of settled
  repeat_changes_nothing i p e =
      let t = let_through Refused (offer_checks h x c) (welcomed h x c) (Repeat (number i) (place p)) (λ r. apart' r _ _) e in
      let f = facts h x c (open_passed t.0) in
      let q = is_repeat_lem (eqb (mark x (index_of c)) 0) i p t.1 in
      let k = mark-passed t.0 in
      let m3 = fit_at x.marks (index_of c) f.right.fit in
      let m0 = eqb-false (mark x (index_of c)) 0 q.0 in
      let m2 = eqb-false (mark x (index_of c)) 2 k.0 in
      let m1 : mark x (index_of c) ≡ 1 = omega (arith, m0, m2) in
      let d : not (same (block_of h x (index_of c)) (payload_of c)) ≡ false = rw (eq-eqb (mark x (index_of c)) 1 m1) at k.1.0 in
      let s : same (block_of h x (index_of c)) (payload_of c) ≡ true = not-false (same (block_of h x (index_of c)) (payload_of c)) d in (
        q.1,
        q.2 ∙ ap (λ (j : ℕ). j * h.s) (sym q.1),
        ap (mark x) q.1 ∙ m1,
        ap (block_of h x) q.1 ∙ same_laws.same-eq (block_of h x (index_of c)) (payload_of c) s,
        unchanged (Repeat (number i) (place p)) (after_by h x c (Repeat (number i) (place p)) e),
      )

  refused_changes_nothing : (r : Reason) → verdict_of h x c ≡ Refused r → number_of r ≢ 41 → SameKept x (after h x c)
  unfolding settled
  refused_changes_nothing r e d = unchanged (Refused r) (rw (ne_eqb (number_of r) 41 d) at (after_by h x c (Refused r) e))

  before41 : List Check
  before41 = (session_wrong h x, 71) ∷ (tally_full x.tallies, 43) ∷ (chunk_checks h c ++ ((eqb (mark x (index_of c)) 2, 42) ∷ []))

  barring_changes_one : (r : Reason) → verdict_of h x c ≡ Refused r → number_of r ≡ 41
      → (mark x (index_of c) ≡ 1) × (block_of h x (index_of c) ≢ payload_of c) × ChangesOne h x (after h x c) (index_of c) (zeros h.s) 2
  unfolding verdict_of settled before41
  barring_changes_one r e k =
      let o : (n : ℕ) → (n ≡ 41 → ⊥) → n ≢ number_of r = λ n f g. f (g ∙ k) in
      let t = eqb (mark x (index_of c)) 1 && not (same (block_of h x (index_of c)) (payload_of c)) in
      let p = last_refuses before41 t 41 (welcomed h x c) r (never_refused (eqb (mark x (index_of c)) 0))
      (o 71 (λ z. omega arith), (o 43 (λ z. omega arith), (o 30 (λ z. omega arith), (o 31 (λ z. omega arith), (o 32 (λ z. omega arith), (o 30 (λ z. omega arith), (o 33 (λ z. omega arith), (o 34 (λ z. omega arith), (o 35 (λ z. omega arith), (o 36 (λ z. omega arith), (o 37 (λ z. omega arith), (o 38 (λ z. omega arith), (o 39 (λ z. omega arith), (o 40 (λ z. omega arith), (o 42 (λ z. omega arith), tt))))))))))))))) e in
      let w : Welcome h x c = record { lent = p.0.0; room = p.0.1.0; whole = front_good (chunk_checks h c) ((eqb (mark x (index_of c)) 2, 42) ∷ []) (all-passed (chunk_checks h c ++ ((eqb (mark x (index_of c)) 2, 42) ∷ [])) p.0.1.1) } in
      let f = facts h x c w in
      let a = test_laws.and_both (eqb (mark x (index_of c)) 1) (not (same (block_of h x (index_of c)) (payload_of c))) p.1 in (
        eqb-true (mark x (index_of c)) 1 a.0,
        (λ q. same_laws.same_apart (block_of h x (index_of c)) (payload_of c) (not-true (same (block_of h x (index_of c)) (payload_of c)) a.1) q),
        changes f (zeros h.s) 2 (Refused r) (length-replicate {A = ℕ} h.s 0) (rw (eq-eqb (number_of r) 41 k) at (after_by h x c (Refused r) e)),
      )

  lent_stays : session_wrong h x ≡ false → session_wrong h (after h x c) ≡ false
  lent_stays e = go (tally_full x.tallies) refl
    where
      go : (t : Bool) → tally_full x.tallies ≡ t → session_wrong h (after h x c) ≡ false
      go true f = subst (λ (y : Session). session_wrong h y ≡ false) (ap (λ o. o.session) (full_refused h x c e f) ∙ judged-session h x c) e
      go false f = ap (λ (k : Kept). kept_wrong h k) (kept-after h x c f) ∙ keep_right h (kept_of x) c e

pub one_offer : OneOffer
one_offer = record {
  fresh_changes_one = fresh_changes_one;
  repeat_changes_nothing = repeat_changes_nothing;
  refused_changes_nothing = refused_changes_nothing;
  barring_changes_one = barring_changes_one;
  lent_stays = lent_stays;
}

-- what is lent rightly stays so over many offers
pub stays_lent : (h : Head) (x : Session) (cs : List (List ℕ)) → session_wrong h x ≡ false → session_wrong h (after_all h x cs) ≡ false
unfolding after_all
stays_lent h x [] e = e
stays_lent h x (c ∷ cs) e = stays_lent h (after h x c) cs (one_offer.lent_stays h x c e)
