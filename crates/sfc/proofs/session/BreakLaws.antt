-- What a refusal of a chunk, by itself or in an offer, tells of it by the number alone: how far its length was read, and that the
-- place which goes with the number fits. Assumes nothing.
use Prim.Native.Nat.{ℕ, ◌*◌, ◌<◌, ◌≤◌}
use mathlib.Core.Path.{◌≡◌, refl, sym, ap, ◌∙◌}
use mathlib.Core.Bool.{Bool, true, false, cond}
use mathlib.Core.List.{List, ◌∷◌, ◌++◌}
use native.Mathlib.Omega.{arith}
use borrow.Author.Tests.{ltb-true, ltb-false, leb-true, leb-false}
use lib.Dec.{eqb, ltb, leb, lit≤}
use lib.ListN.{length}
use Rattle.little.proofs.Laws.{test_laws}
use Rattle.sfc.specs.answer.Numbers.{verdict, number_of, reason_of, Checked}
use Rattle.sfc.specs.answer.Places.{number, place, broken, whole_at}
use Rattle.sfc.specs.answer.Said.{chunk_spot}
use Rattle.sfc.specs.format.Chunk.{index_of, payload_length, chunk_length, seal_checks, head_checks, chunk_checks, alone_checks}
use Rattle.sfc.specs.format.Spot.{spot_for, refused_chunk, check_chunk}
use Rattle.sfc.specs.inner.Spots.{SpotFits, Fitting}
use Rattle.sfc.specs.session.Lent.{shape_wrong, marks_wrong, lent_wrong}
use Rattle.sfc.specs.session.Tallies.{tally_full}
use Rattle.sfc.specs.session.Session.{Session, mark, session_wrong, mark_checks, offer_checks, welcomed, verdict_of, spot_of}
use Rattle.sfc.specs.session.Offer.{Logged, beside_wrong, all_checks, offer_verdict, offered}
use Rattle.sfc.specs.declared.format.header.Head.{Head}
use Rattle.sfc.specs.declared.answer.reason.Reason.{Reason}
use Rattle.sfc.specs.declared.session.offer.Verdict.{Verdict}
use Rattle.sfc.specs.declared.session.offer.Verdict.TheVariants.{Fresh, Repeat, Refused}
use Rattle.sfc.proofs.answer.CheckLaws.{EachHeld, number-held, good_then, refused_then, refused_all, tells}
use Rattle.sfc.proofs.session.MarkLaws.{right_shape}
use Rattle.sfc.proofs.session.SessionLaws.{number_in}
use Rattle.sfc.specs.declared.format.chunk.BrokenChunk.{BrokenChunk}
use Rattle.sfc.specs.declared.answer.places.BytePlace.{BytePlace}
use Rattle.sfc.specs.declared.format.chunk.WholeChunk.{WholeChunk}
use Rattle.std.specs.Prelude.{Option, Result, Ok, Err}

-- ---- the checks behind a refusal

abbrev chunk_seen : Result WholeChunk BrokenChunk → Checked
chunk_seen (Ok w) = Ok tt
chunk_seen (Err b) = Err b.reason

-- the chunk's check: 71 or one of its own, and the place of its number
pub check_refused : (h : Head) (c : List ℕ) (r : Reason) (p : Option BytePlace) → check_chunk h c ≡ Err (broken r p)
    → (verdict (alone_checks h c) ≡ Err r) × (p ≡ spot_for h c (number_of r))
unfolding check_chunk
check_refused h c r p e =
    let good : Result WholeChunk BrokenChunk = Ok (whole_at (number (index_of c)) (place 48)) in
    let t = tells chunk_seen (refused_chunk h c) good (λ q. refl) refl (alone_checks h c) (Err r) (ap chunk_seen e) in
    (t, sym (ap chunk_spot e) ∙ ap chunk_spot (refused_all (refused_chunk h c) (alone_checks h c) good r t))

abbrev offer_seen : Verdict → Checked
offer_seen (Fresh i p) = Ok tt
offer_seen (Repeat i p) = Ok tt
offer_seen (Refused r) = Err r

module _ (h : Head) (x : Session) (c : List ℕ) where
  pub offer_refused : (r : Reason) → verdict_of h x c ≡ Refused r → verdict (offer_checks h x c) ≡ Err r
  unfolding verdict_of
  offer_refused r e = tells offer_seen Refused (welcomed h x c) (λ q. refl) (welcome (eqb (mark x (index_of c)) 0)) (offer_checks h x c) (Err r) (ap offer_seen e)
    where
      welcome : (b : Bool) → offer_seen (cond b (Fresh (number (index_of c)) (place (index_of c * h.s))) (Repeat (number (index_of c)) (place (index_of c * h.s)))) ≡ Ok tt
      welcome true = refl
      welcome false = refl

-- an offer to all that is kept: one check more
module _ (h : Head) (y : Logged) (c : List ℕ) where
  pub kept_refused : (r : Reason) → offer_verdict h y c ≡ Refused r → verdict (all_checks h y c) ≡ Err r
  unfolding offer_verdict
  kept_refused r e = go (beside_wrong h y) e
    where
      go : (b : Bool) → cond b (Refused (reason_of 71)) (verdict_of h y.session c) ≡ Refused r → verdict ((b, 71) ∷ offer_checks h y.session c) ≡ Err r
      go true f = ap offer_seen f
      go false f = offer_refused h y.session c r f

  pub offer_spot : (v : Verdict) → offer_verdict h y c ≡ v → (offered h y c).spot ≡ spot_of h c v
  unfolding offered
  offer_spot v e = ap (spot_of h c) e

-- ---- a refusal by 30 to 40 is one of the chunk's own checks

wrong-one : (r s : Reason) → ◌≡◌ {A = Checked} (Err r) (Err s) → r ≡ s
wrong-one r s e = cc

-- the four numbers pass 71, and the chunk's own checks refuse
pub record Own (h : Head) (c : List ℕ) (r : Reason) : Type 0 where
  pub shape : shape_wrong h.size h.n h.m h.s ≡ false
  pub refuses : verdict (chunk_checks h c) ≡ Err r

pub own_check : (h : Head) (c : List ℕ) (r : Reason) → verdict (alone_checks h c) ≡ Err r → number_of r ≤ 40 → Own h c r
own_check h c r e low = go (shape_wrong h.size h.n h.m h.s) refl e
  where
    go : (b : Bool) → shape_wrong h.size h.n h.m h.s ≡ b → verdict ((b, 71) ∷ chunk_checks h c) ≡ Err r → Own h c r
    go true f g = absurd (let n : 71 ≡ number_of r = ap number_of (wrong-one (reason_of 71) r g) in omega (arith, n, low))
    go false f g = record { shape = f; refuses = g }

module _ (h : Head) (x : Session) (c : List ℕ) (r : Reason) (low : number_of r ≤ 40) where
  -- a list whose second part has higher numbers only
  own-part : (v : Checked) → verdict (chunk_checks h c) ≡ v → verdict (chunk_checks h c ++ mark_checks h x c) ≡ Err r → verdict (chunk_checks h c) ≡ Err r
  own-part (Ok tt) f g =
      absurd (let n = number_in (λ (k : ℕ). 40 < k) (mark_checks h x c) r (lit≤ tt, (lit≤ tt, tt)) (sym (good_then Err (chunk_checks h c) (mark_checks h x c) (Ok tt) f) ∙ g) in omega (arith, n, low))
  own-part (Err q) f g = f ∙ sym (refused_then Err (chunk_checks h c) (mark_checks h x c) (Ok tt) q f) ∙ g

  shape_passed : session_wrong h x ≡ false → shape_wrong h.size h.n h.m h.s ≡ false
  unfolding lent_wrong marks_wrong
  shape_passed e = (test_laws.or-false _ _ (test_laws.or-false _ _ (test_laws.or-false _ _ e).0).0).0

  pub own_offer : verdict (offer_checks h x c) ≡ Err r → Own h c r
  own_offer e = go (session_wrong h x) (tally_full x.tallies) refl e
    where
      go : (a b : Bool) → session_wrong h x ≡ a → verdict ((a, 71) ∷ (b, 43) ∷ (chunk_checks h c ++ mark_checks h x c)) ≡ Err r → Own h c r
      go true b f g = absurd (let n : 71 ≡ number_of r = ap number_of (wrong-one (reason_of 71) r g) in omega (arith, n, low))
      go false true f g = absurd (let n : 43 ≡ number_of r = ap number_of (wrong-one (reason_of 43) r g) in omega (arith, n, low))
      go false false f g = record { shape = shape_passed f; refuses = own-part (verdict (chunk_checks h c)) refl g }

pub own-kept : (h : Head) (y : Logged) (c : List ℕ) (r : Reason) → number_of r ≤ 40 → verdict (all_checks h y c) ≡ Err r → Own h c r
own-kept h y c r low e = go (beside_wrong h y) e
  where
    go : (b : Bool) → verdict ((b, 71) ∷ offer_checks h y.session c) ≡ Err r → Own h c r
    go true g = absurd (let n : 71 ≡ number_of r = ap number_of (wrong-one (reason_of 71) r g) in omega (arith, n, low))
    go false g = own_offer h y.session c r low g

-- ---- how far the length was read

record Reached (c : List ℕ) (k : ℕ) : Type 0 where
  short : k ≡ 30 → length c ≤ 8276
  measured : 33 ≤ k → payload_length c ≤ 8192

module _ (h : Head) (c : List ℕ) (s_most : h.s ≤ 4096) where
  by_length : (k : ℕ) → (k ≡ 30 → length c ≤ 8276) → k < 33 → Reached c k
  by_length k short low = record { short = short; measured = λ l. absurd (omega (arith, l, low)) }

  within : ltb (2 * h.s) (payload_length c) ≡ false → payload_length c ≤ 2 * h.s
  within e = ltb-false (2 * h.s) (payload_length c) e

  -- past 32 the payload is no longer than two blocks
  past_length : (k : ℕ) → 33 ≤ k → payload_length c ≤ 2 * h.s → Reached c k
  past_length k high p = record { short = λ e. absurd (omega (arith, e, high)); measured = λ l. omega (arith, p, s_most) }

  -- the checks after those of the length
  late_reached : payload_length c ≤ 2 * h.s → EachHeld (Reached c) (seal_checks c ++ head_checks h c)
  late_reached p =
      (λ _. past_length 33 (lit≤ tt) p, λ _. (λ _. past_length 34 (lit≤ tt) p, λ _. (λ _. past_length 35 (lit≤ tt) p, λ _. (λ _. past_length 36 (lit≤ tt) p, λ _. (λ _. past_length 37 (lit≤ tt) p, λ _. (λ _. past_length 38 (lit≤ tt) p, λ _. (λ _. past_length 39 (lit≤ tt) p, λ _. (λ _. past_length 40 (lit≤ tt) p, λ _. tt))))))))

  each_reached : EachHeld (Reached c) (chunk_checks h c)
  each_reached =
      (λ e. by_length 30 (λ q. omega (arith, ltb-true (length c) 48 e)) (lit≤ tt), λ _. (λ _. by_length 31 (λ q. absurd (omega arith)) (lit≤ tt), λ _. (λ _. by_length 32 (λ q. absurd (omega arith)) (lit≤ tt), λ d. (λ e. by_length 30 (λ q. omega (arith, ltb-true (length c) (chunk_length c) e, within d, s_most)) (lit≤ tt), λ _. late_reached (within d)))))

pub own-fits : (h : Head) (c : List ℕ) (r : Reason) → Own h c r → SpotFits c (number_of r)
own-fits h c r o =
    let s = right_shape h.size h.n h.m h.s o.shape in
    let w = number-held (Reached c) (chunk_checks h c) r (each_reached h c s.s_most) o.refuses in
    record { short = w.short; measured = λ l u. w.measured l }

-- so the place of every verdict fits
pub offer_fits : (h : Head) (x : Session) (c : List ℕ) (v : Verdict) → v ≡ verdict_of h x c → Fitting c v
offer_fits h x c v e r f = go (leb (number_of r) 40) refl
  where
    go : (b : Bool) → leb (number_of r) 40 ≡ b → SpotFits c (number_of r)
    go true g = own-fits h c r (own_offer h x c r (leb-true (number_of r) 40 g) (offer_refused h x c r (sym e ∙ f)))
    go false g =
        let high : 40 < number_of r = leb-false (number_of r) 40 g in
        record { short = λ q. absurd (omega (arith, q, high)); measured = λ l u. absurd (omega (arith, u, high)) }
