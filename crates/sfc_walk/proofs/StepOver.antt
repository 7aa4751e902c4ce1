-- How the chunks of a walk are answered, and what comes after the last: a chunk that was measured is whole when it is cut out, and
-- so few are offered that no tally fills. Assumes nothing.
use Rattle.std.specs.Prelude.{Ok, Err}
use Prim.Native.Nat.{ℕ, zero, suc, ◌+◌, ◌*◌, ◌<◌, ◌≤◌}
use mathlib.Core.Path.{◌≡◌, refl, ap, ap₂, ◌∙◌}
use mathlib.Core.Bool.{Bool, true, false, cond, ◌&&◌, true≢false}
use mathlib.Core.List.{List, [], ◌∷◌, ◌++◌}
use native.Mathlib.Omega.{arith}
use borrow.Author.Tests.{le-ltb}
use lib.Dec.{eqb, leb, lit≤}
use lib.ListN.{length, get_or, take, drop}
use lib.Seq.{length-take-le}
use Rattle.little.proofs.Laws.{test_laws, part_laws, byte_laws}
use Rattle.sfc.specs.answer.Numbers.{Check, checked, verdict, passes, NumbersAre, reason_of, number_of}
use Rattle.sfc.specs.answer.Places.{number, place}
use Rattle.sfc.specs.format.Bytes.{stands_at}
use Rattle.sfc.specs.format.Chunk.{chunk_magic, index_of, payload_length, chunk_length, length_checks, seal_checks, head_checks, measure_checks}
use Rattle.sfc.specs.session.Lent.{shape_wrong, marks_wrong, lent_wrong}
use Rattle.sfc.specs.session.Tallies.{total, tally_full}
use Rattle.sfc.specs.session.Session.{Session, mark, session_wrong, mark_checks, welcomed, verdict_of, after}
use Rattle.sfc.specs.session.History.{after_all, verdicts}
use Rattle.sfc_walk.specs.Walk.{chunks_in, chunks_of, length_of_all}
use Rattle.sfc_walk.specs.WalkTheorems.{stepped_over, each}
use Rattle.sfc.specs.declared.format.header.Head.{Head}
use Rattle.sfc.specs.declared.answer.reason.Reason.{Reason}
use Rattle.sfc.specs.declared.session.offer.Verdict.{Verdict}
use Rattle.sfc.specs.declared.session.offer.Verdict.TheVariants.{Fresh, Repeat, Refused}
use Rattle.sfc.proofs.Laws.{check_laws, measure_laws, offer_laws}
use Rattle.sfc.proofs.Theorems.{one_offer}
use Rattle.sfc_walk.proofs.FoundLaws.{found}

-- ---- checks

-- what lies inside the front of some bytes
stands_front : (k : ℕ) (b : List ℕ) (at : ℕ) (ys : List ℕ) → at + length ys ≤ k → stands_at (take k b) at ys ≡ stands_at b at ys
unfolding stands_at
stands_front k b at [] i = refl
stands_front k b at (y ∷ ys) i =
    let z : 0 + at ≡ at = omega arith in
    let e : get_or (take k b) at 0 ≡ get_or b at 0 = part_laws.get_or-part b 0 k at (omega arith) ∙ ap (λ (j : ℕ). get_or b j 0) z in
    ap₂ (λ (x : ℕ) (r : Bool). eqb x y && r) e (stands_front k b (suc at) ys (omega arith))

-- an offer whose checks have the numbers 33 to 42
stepped_over_lem : (cs : List Check) (good : Verdict) → NumbersAre (λ (k : ℕ). (leb 33 k && leb k 42) ≡ true) cs → stepped_over good ≡ true → stepped_over (checked cs Refused good) ≡ true
stepped_over_lem [] good n g = g
stepped_over_lem ((true, k) ∷ cs) good n g = n.0
stepped_over_lem ((false, k) ∷ cs) good n g = stepped_over_lem cs good n.1 g

-- a list of checks that does not pass refuses
refuses : (cs : List Check) → passes cs ≡ false → (r : Reason) × (verdict cs ≡ Err r)
refuses [] e = absurd (true≢false e)
refuses ((true, k) ∷ cs) e = (reason_of k, refl)
refuses ((false, k) ∷ cs) e = refuses cs e

module _ (h : Head) where
  -- ---- a chunk that the walk cuts out

  module _ (b : List ℕ) (there : passes (measure_checks h b) ≡ true) where
    abbrev cut : List ℕ
    cut = take (chunk_length b) b

    cut_long : length cut ≡ chunk_length b
    cut_long = length-take-le (chunk_length b) b (measure_laws.front-there h b there)

    same_length : payload_length cut ≡ payload_length b
    same_length = byte_laws.le-part 4 b 0 (chunk_length b) 28 (omega arith)

    cut_good : verdict (length_checks h.s cut) ≡ Ok tt
    cut_good =
        let p = (check_laws.passed (measure_checks h b) (check_laws.passes_good (measure_checks h b) there)).1 in
        check_laws.all-passed (length_checks h.s cut) (
          le-ltb (length cut) 48 (omega (arith, cut_long)),
          (rw (stands_front (chunk_length b) b 0 chunk_magic (omega arith)) p.1.0, (rw same_length p.1.1.0, (le-ltb (length cut) (chunk_length cut) (omega (arith, cut_long, same_length)), tt))),
        )

  -- all chunks of a walk are such, and no more than it may find
  abbrev Whole : List (List ℕ) → Type 0
  Whole [] = Unit {0}
  Whole (c ∷ cs) = (verdict (length_checks h.s c) ≡ Ok tt) × Whole cs

  walk_whole : (most : ℕ) (b : List ℕ) → Whole (chunks_in most h b)
  unfolding chunks_in
  walk_whole zero b = tt
  walk_whole (suc most) b = go (passes (measure_checks h b)) refl (walk_whole most (drop (chunk_length b) b))
    where
      go : (t : Bool) → passes (measure_checks h b) ≡ t → Whole (chunks_in most h (drop (chunk_length b) b))
          → Whole (cond t (take (chunk_length b) b ∷ chunks_in most h (drop (chunk_length b) b)) [])
      go true e w = (cut_good b e, w)
      go false e w = tt

  pub walk_few : (most : ℕ) (b : List ℕ) → length (chunks_in most h b) ≤ most
  unfolding chunks_in
  walk_few zero b = omega arith
  walk_few (suc most) b = go (passes (measure_checks h b)) (walk_few most (drop (chunk_length b) b))
    where
      go : (t : Bool) → length (chunks_in most h (drop (chunk_length b) b)) ≤ most
          → length (cond t (take (chunk_length b) b ∷ chunks_in most h (drop (chunk_length b) b)) []) ≤ suc most
      go true l = omega arith
      go false l = omega arith

  -- ---- how an offer is answered, by what its length comes to

  module _ (x : Session) (c : List ℕ) (lent : session_wrong h x ≡ false) (room : tally_full x.tallies ≡ false) where
    abbrev others : List Check
    others = (seal_checks c ++ head_checks h c) ++ mark_checks h x c

    welcome : (b : Bool) → stepped_over (cond b (Fresh (number (index_of c)) (place (index_of c * h.s))) (Repeat (number (index_of c)) (place (index_of c * h.s)))) ≡ true
    welcome true = refl
    welcome false = refl

    whole-answered : verdict (length_checks h.s c) ≡ Ok tt → stepped_over (verdict_of h x c) ≡ true
    whole-answered g =
        ap stepped_over (offer_laws.past_two h x c lent room ∙ check_laws.good_then Refused (length_checks h.s c) others (welcomed h x c) g)
        ∙ stepped_over_lem others (welcomed h x c) (refl, (refl, (refl, (refl, (refl, (refl, (refl, (refl, (refl, (refl, tt)))))))))) (welcome (eqb (mark x (index_of c)) 0))

    length_refused : (r : Reason) → verdict (length_checks h.s c) ≡ Err r → (verdict_of h x c ≡ Refused r) × (30 ≤ number_of r) × (number_of r ≤ 32)
    length_refused r e =
        let n = check_laws.number_in (λ (k : ℕ). (30 ≤ k) × (k ≤ 32)) (length_checks h.s c) r
        ((lit≤ tt, lit≤ tt), ((lit≤ tt, lit≤ tt), ((lit≤ tt, lit≤ tt), ((lit≤ tt, lit≤ tt), tt)))) e in
        (offer_laws.past_two h x c lent room ∙ check_laws.refused_then Refused (length_checks h.s c) others (welcomed h x c) r e, n.0, n.1)

  all-answered : (x : Session) (cs : List (List ℕ)) → Whole cs → session_wrong h x ≡ false → total x.tallies + length cs ≤ 4294967295 → each stepped_over (verdicts h x cs) ≡ true
  unfolding verdicts each after_all
  all-answered x [] w e s = refl
  all-answered x (c ∷ cs) w e s =
      rw (whole-answered x c e (offer_laws.not_full x.tallies (omega arith)) w.0)
      (all-answered (after h x c) cs w.1 (one_offer.lent_stays h x c e) (omega (arith, offer_laws.total-all h x (c ∷ []))))

  -- ---- the walk over some bytes

  module _ (x : Session) (b : List ℕ) (lent : session_wrong h x ≡ false) (short : total x.tallies + length b < 4294967295) where
    pub walk_answered : each stepped_over (verdicts h x (chunks_of h b)) ≡ true
    walk_answered = all-answered x (chunks_of h b) (walk_whole (length b) b) lent (omega (arith, walk_few (length b) b))

    shape : shape_wrong h.size h.n h.m h.s ≡ false
    unfolding lent_wrong marks_wrong
    shape = (test_laws.or-false _ _ (test_laws.or-false _ _ (test_laws.or-false _ _ lent).0).0).0

    pub walk_ends : (r : Reason) × (verdict_of h (after_all h x (chunks_of h b)) (drop (length_of_all (chunks_of h b)) b) ≡ Refused r) × (30 ≤ number_of r) × (number_of r ≤ 32)
    walk_ends =
        let y : Session = after_all h x (chunks_of h b) in
        let left : List ℕ = drop (length_of_all (chunks_of h b)) b in
        let stop : passes (length_checks h.s left) ≡ false = rw shape at (found h (length b) b (omega arith)).stops in
        let w = refuses (length_checks h.s left) stop in
        let full = offer_laws.not_full y.tallies (omega (arith, offer_laws.total-all h x (chunks_of h b), walk_few (length b) b)) in
        let n = length_refused y left (offer_laws.stays_lent h x (chunks_of h b) lent) full w.0 w.1 in
        (w.0, n.0, n.1, n.2)
