-- What the refused lines say: the number and the place of each refusal, since in a listing no refusal lacks a place; and that there is
-- none where nothing is refused. Assumes nothing.
use Rattle.std.specs.Prelude.{Option, Some, None, Ok, Err}
use Prim.Native.Nat.{ℕ, ◌+◌, ◌*◌, ◌≤◌}
use mathlib.Core.Path.{◌≡◌, refl, sym, ap, ap₂, ◌∙◌}
use mathlib.Core.Logic.{inr, ⊎_elim}
use mathlib.Core.Bool.{Bool, true, false, cond}
use mathlib.Core.List.{List, [], ◌∷◌, ◌++◌, map, map-append, append_assoc, append-nil}
use native.Mathlib.Omega.{arith}
use lib.Dec.{eqb, lit≤}
use lib.ListN.{length, length-append, length-replicate, drop, take-append-drop}
use Rattle.little.specs.Runs.{zeros}
use Rattle.sfc.specs.answer.Numbers.{Check, number_of, Checked}
use Rattle.sfc.specs.answer.Places.{number, place}
use Rattle.sfc.specs.format.Chunk.{index_of, chunk_checks}
use Rattle.sfc.specs.session.Tallies.{total, tally_full}
use Rattle.sfc.specs.session.Session.{Session, mark, session_wrong, mark_checks, welcomed, verdict_of, after, spot_of}
use Rattle.sfc.specs.session.History.{after_all, verdicts}
use Rattle.sfc.specs.session.Offer.{Logged, logged, offered}
use Rattle.sfc.specs.session.SessionTheorems.{count}
use Rattle.sfc.specs.give.TurnTheorems.{OwnOffer}
use Rattle.sfc_walk.specs.Walk.{chunks_of, length_of_all}
use Rattle.sfc_walk.specs.WalkTheorems.{concat}
use Rattle.sfc_listing.specs.Listing.{broken_text, verdict_line, broke_at, refused_lines, stop_in, told_in}
use Rattle.sfc_listing.specs.ListingTheorems.{is_refused}
use Rattle.sfc_listing.specs.RefusedLines.{break_text, break_of, breaks_in}
use Rattle.sfc.specs.declared.format.header.Head.{Head}
use Rattle.sfc.specs.declared.answer.reason.Reason.{Reason}
use Rattle.sfc.specs.declared.answer.places.BytePlace.{BytePlace}
use Rattle.sfc.specs.declared.session.offer.Verdict.{Verdict}
use Rattle.sfc.specs.declared.session.offer.Verdict.TheVariants.{Fresh, Repeat, Refused}
use Rattle.sfc.proofs.Laws.{check_laws, offer_laws}
use Rattle.sfc.proofs.Theorems.{one_offer, place-table}
use Rattle.sfc_walk.proofs.WalkTheorems.{walk_theorems}
use Rattle.sfc_listing.proofs.TellLaws.{none_rebuilt}
use Rattle.sfc_listing.proofs.LastLine.{verdict_texts, refused_texts}

-- ---- no line where nothing is refused

one-taken : (at : ℕ) (v : Verdict) (s : Option BytePlace) → ◌≡◌ {A = ℕ} (cond (is_refused v) 1 0) 0 → verdict_line at v s ≡ []
unfolding verdict_line
one-taken at (Fresh i p) s e = refl
one-taken at (Repeat i p) s e = refl
one-taken at (Refused r) s e = absurd (omega arith)

pub none_told : (h : Head) (x : Session) (at : ℕ) (cs : List (List ℕ)) → count is_refused (verdicts h x cs) ≡ 0 → refused_lines h x at cs ≡ []
unfolding refused_lines verdicts count
none_told h x at [] e = refl
none_told h x at (c ∷ cs) e =
    ap₂ (λ (u v : List ℕ). u ++ v) (one-taken at (verdict_of h x c) (broke_at h x c) (omega arith)) (none_told h (after h x c) (at + length c) cs (omega arith))

-- the offers are the chunks alone where nothing is left after them
pub told-chunks : (h : Head) (b : List ℕ) → drop (length_of_all (chunks_of h b)) b ≡ [] → told_in h b ≡ chunks_of h b
unfolding told_in stop_in
told-chunks h b e = ap (λ (c : List ℕ). chunks_of h b ++ stop_in c) e ∙ append-nil (chunks_of h b)

-- ---- all bytes are offered

concat-append : (cs ds : List (List ℕ)) → concat (cs ++ ds) ≡ concat cs ++ concat ds
unfolding concat
concat-append [] ds = refl
concat-append (c ∷ cs) ds = ap (λ (l : List ℕ). c ++ l) (concat-append cs ds) ∙ sym (append_assoc c (concat cs) (concat ds))

stop_whole : (c : List ℕ) → concat (stop_in c) ≡ c
unfolding stop_in concat
stop_whole [] = refl
stop_whole (a ∷ c) = append-nil (a ∷ c)

pub told-joined : (h : Head) (b : List ℕ) → concat (told_in h b) ≡ b
unfolding told_in
told-joined h b =
    let k : ℕ = length_of_all (chunks_of h b) in
    concat-append (chunks_of h b) (stop_in (drop k b))
    ∙ ap₂ (λ (u v : List ℕ). u ++ v) (walk_theorems.chunks-joined h b) (stop_whole (drop k b))
    ∙ take-append-drop k b

-- ---- each refusal has its place

-- the verdict of an offer, as a list of checks has it
abbrev seen : Verdict → Checked
seen (Fresh i p) = (Ok tt)
seen (Repeat i p) = (Ok tt)
seen (Refused r) = Err r

module _ (h : Head) (x : Session) (c : List ℕ) (lent : session_wrong h x ≡ false) (room : tally_full x.tallies ≡ false) where
  -- past 71 and 43 a refusal has another number
  number_low : (r : Reason) → verdict_of h x c ≡ Refused r → number_of r ≤ 42
  number_low r e =
      let cs : List Check = chunk_checks h c ++ mark_checks h x c in
      let good : seen (welcomed h x c) ≡ Ok tt = welcome (eqb (mark x (index_of c)) 0) in
      let t = check_laws.tells seen Refused (welcomed h x c) (λ q. refl) good cs (Err r) (ap seen (sym (offer_laws.past_two h x c lent room) ∙ e)) in
      check_laws.number_in (λ (k : ℕ). k ≤ 42) cs r (lit≤ tt, (lit≤ tt, (lit≤ tt, (lit≤ tt, (lit≤ tt, (lit≤ tt, (lit≤ tt, (lit≤ tt, (lit≤ tt, (lit≤ tt, (lit≤ tt, (lit≤ tt, (lit≤ tt, (lit≤ tt, tt)))))))))))))) t
    where
      welcome : (b : Bool) → seen (cond b (Fresh (number (index_of c)) (place (index_of c * h.s))) (Repeat (number (index_of c)) (place (index_of c * h.s)))) ≡ Ok tt
      welcome true = refl
      welcome false = refl

  -- what the call answers with nothing rebuilt beside the session
  abbrev beside : Logged
  beside = logged x (zeros (h.m * h.s)) 0

  own : OwnOffer h beside c
  own = offer_laws.own_offer h beside c (none_rebuilt h (zeros (h.m * h.s)) (length-replicate {A = ℕ} (h.m * h.s) 0))

  is_verdict : (offered h beside c).verdict ≡ verdict_of h x c
  unfolding offered
  is_verdict = own.verdict

  is_spot : (offered h beside c).spot ≡ broke_at h x c
  unfolding offered
  is_spot = ap (spot_of h c) own.verdict

  -- so the offer says where
  pub has_place : (r : Reason) → verdict_of h x c ≡ Refused r → (p : BytePlace) × (broke_at h x c ≡ Some p)
  has_place r e = go (broke_at h x c) refl
    where
      go : (s : Option BytePlace) → broke_at h x c ≡ s → (p : BytePlace) × (broke_at h x c ≡ Some p)
      go (Some p) es = (p, es)
      go None es =
          let n = number_low r e in
          absurd (⊎_elim (λ k. omega arith) (λ k. omega arith) ((place-table.no_place h c r None (inr (beside, is_verdict ∙ e, is_spot ∙ es))).0 refl))

  placed : (at : ℕ) → verdict_texts at (verdict_of h x c) (broke_at h x c) ≡ map break_text (break_of at (verdict_of h x c) (broke_at h x c))
  unfolding verdict_texts break_of
  placed at = go (verdict_of h x c) refl
    where
      go : (v : Verdict) → verdict_of h x c ≡ v → verdict_texts at v (broke_at h x c) ≡ map break_text (break_of at v (broke_at h x c))
      go (Fresh i p) ev = refl
      go (Repeat i p) ev = refl
      go (Refused r) ev = rw (has_place r ev).1 refl

  pub one-text : (at : ℕ) (r : Reason) → verdict_of h x c ≡ Refused r → (p : BytePlace) → broke_at h x c ≡ Some p
      → verdict_texts at (verdict_of h x c) (broke_at h x c) ≡ broken_text (number_of r) (at + p.0) ∷ []
  unfolding verdict_texts
  one-text at r e p es = rw (es, e)

pub all_placed : (h : Head) (x : Session) (at : ℕ) (cs : List (List ℕ)) → session_wrong h x ≡ false → total x.tallies + length cs ≤ 4294967295
    → refused_texts h x at cs ≡ map break_text (breaks_in h x at cs)
unfolding refused_texts breaks_in after_all
all_placed h x at [] l s = refl
all_placed h x at (c ∷ cs) l s =
    ap₂ (λ (u v : List (List ℕ)). u ++ v) (placed h x c l (offer_laws.not_full x.tallies (omega arith)) at)
    (all_placed h (after h x c) (at + length c) cs (one_offer.lent_stays h x c l) (omega (arith, offer_laws.total-all h x (c ∷ []))))
    ∙ sym (map-append break_text (break_of at (verdict_of h x c) (broke_at h x c)) (breaks_in h (after h x c) (at + length c) cs))

-- the texts of offers and of others after them
pub texts_append : (h : Head) (x : Session) (at : ℕ) (cs ds : List (List ℕ))
    → refused_texts h x at (cs ++ ds) ≡ refused_texts h x at cs ++ refused_texts h (after_all h x cs) (at + length_of_all cs) ds
unfolding refused_texts after_all length_of_all
texts_append h x at [] ds = let z : at ≡ at + 0 = omega arith in ap (λ (k : ℕ). refused_texts h x k ds) z
texts_append h x at (c ∷ cs) ds =
    let z : at + length c + length_of_all cs ≡ at + (length c + length_of_all cs) = omega arith in
    let texts : List (List ℕ) = verdict_texts at (verdict_of h x c) (broke_at h x c) in
    ap (λ (l : List (List ℕ)). texts ++ l)
    (texts_append h (after h x c) (at + length c) cs ds
    ∙ ap (λ (k : ℕ). refused_texts h (after h x c) (at + length c) cs ++ refused_texts h (after_all h (after h x c) cs) k ds) z)
    ∙ sym (append_assoc texts (refused_texts h (after h x c) (at + length c) cs) (refused_texts h (after_all h (after h x c) cs) (at + (length c + length_of_all cs)) ds))

-- the offers that are told are no more than the bytes, and one
pub told-few : (h : Head) (b : List ℕ) → length (told_in h b) ≤ length b + 1
unfolding told_in stop_in
told-few h b =
    let left : List ℕ = drop (length_of_all (chunks_of h b)) b in
    omega (arith, length-append (chunks_of h b) (stop_in left), walk_theorems.chunks-few h b, stop_one left)
  where
    stop_one : (c : List ℕ) → length (stop_in c) ≤ 1
    stop_one [] = omega arith
    stop_one (a ∷ c) = omega arith
