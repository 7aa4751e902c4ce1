-- The theorems of the place where a chunk broke (specs/session/SpotTheorems.antt), from the table by number and from what a number
-- tells of the checks. Assumes nothing.
use Prim.Native.Nat.{ℕ, ◌+◌, ◌^◌, ◌<◌, ◌≤◌}
use mathlib.Core.Path.{◌≡◌, refl, sym, ap, ◌∙◌, subst}
use mathlib.Core.Logic.{◌⊎◌, inl, inr, ◌≢◌, ◌↔◌}
use mathlib.Core.Bool.{Bool, true, false, cond, not, ◌&&◌, ◌||◌}
use mathlib.Core.List.{List, [], ◌∷◌, ◌++◌}
use native.Mathlib.Omega.{arith}
use borrow.Author.Tests.{ltb-false, not-true}
use lib.Dec.{eqb, ltb, lit≤}
use lib.ListN.{length, get_or}
use Rattle.little.specs.Fields.{bytes_of}
use Rattle.little.specs.Runs.{zeros}
use Rattle.little.proofs.Laws.{little_laws}
use Rattle.sfc.specs.answer.Numbers.{Check, Passed, number_of, reason_of}
use Rattle.sfc.specs.answer.Places.{place}
use Rattle.sfc.specs.format.Bytes.{stands_at}
use Rattle.sfc.specs.format.Chunk.{chunk_magic, end_marker, index_of, payload_length, chunk_length, type_for, chunk_checks, alone_checks}
use Rattle.sfc.specs.format.Spot.{spot_at, agreeing, first_other, spot_for}
use Rattle.sfc.specs.session.Session.{mark_checks, spot_of}
use Rattle.sfc.specs.session.Offer.{Logged, all_checks, offered}
use Rattle.sfc.specs.session.SpotTheorems.{Gives, FirstWrong, PlaceTable, FirstWrongs}
use Rattle.sfc.specs.declared.format.header.Head.{Head}
use Rattle.sfc.specs.declared.answer.reason.Reason.{Reason}
use Rattle.sfc.specs.declared.answer.places.BlockNumber.{BlockNumber}
use Rattle.sfc.specs.declared.answer.places.BytePlace.{BytePlace}
use Rattle.sfc.specs.declared.session.offer.Verdict.TheVariants.{Fresh, Repeat, Refused}
use Rattle.sfc.proofs.answer.CheckLaws.{EachHeld, number-held, blamed}
use Rattle.sfc.proofs.format.SpotLaws.{agreeing_short, agreeing_inside, first-wrong, number_apart}
use Rattle.sfc.proofs.session.MarkLaws.{right_shape}
use Rattle.sfc.proofs.session.BreakLaws.{check_refused, kept_refused, offer_spot, Own, own_check, own-kept}
use Rattle.std.specs.Prelude.{Option, None}

at_one : (p q : ℕ) → spot_at p ≡ spot_at q → p ≡ q
at_one p q e = let b : place p ≡ place q = cc in ap (λ (x : BytePlace). x.0) b

nowhere_not : {A : Type 0} (p : ℕ) → spot_at p ≡ None → A
nowhere_not p e = absurd (let z : ◌≡◌ {A = ℕ} 0 1 = cc in omega arith)

-- a fact of each number in two lists, one after the other
each_then : (P : ℕ → Type 0) (cs ds : List Check) → EachHeld P cs → (Passed cs → EachHeld P ds) → EachHeld P (cs ++ ds)
each_then P [] ds o d = d tt
each_then P (c ∷ cs) ds o d = (o.0, λ e. each_then P cs ds (o.1 e) (λ w. d (e, w)))

-- ---- what a refusal gives, whichever call it is of

module _ (h : Head) (c : List ℕ) (r : Reason) (p : Option BytePlace) where
  -- the place is that of the number
  given_spot : Gives h c r p → p ≡ spot_for h c (number_of r)
  unfolding offered spot_of
  given_spot (inl e) = (check_refused h c r p e).1
  given_spot (inr (y, e, f)) = sym f ∙ offer_spot h y c (Refused r) e

  -- a fact of each number that either call gives is one of the number given
  given-number : (P : ℕ → Type 0) → EachHeld P (chunk_checks h c) → P 71 → P 43 → (Passed (chunk_checks h c) → P 42) → (Passed (chunk_checks h c) → P 41)
      → Gives h c r p → P (number_of r)
  unfolding offered
  given-number P own p71 p43 p42 p41 (inl e) = number-held P (alone_checks h c) r (λ _. p71, λ _. own) (check_refused h c r p e).0
  given-number P own p71 p43 p42 p41 (inr (y, e, f)) =
      number-held P (all_checks h y c) r
      (λ _. p71, λ _. (λ _. p71, λ _. (λ _. p43, λ _. each_then P (chunk_checks h c) (mark_checks h y.session c) own (λ w. (λ _. p42 w, λ _. (λ _. p41 w, λ _. tt))))))
      (kept_refused h y c r e)

  -- 30 to 40 come from the chunk's own checks
  given-own : number_of r ≤ 40 → Gives h c r p → Own h c r
  unfolding offered
  given-own low (inl e) = own_check h c r (check_refused h c r p e).0 low
  given-own low (inr (y, e, f)) = own-kept h y c r low (kept_refused h y c r e)

-- ---- the table

module _ (h : Head) (c : List ℕ) (p : Option BytePlace) where
  of_30 : Gives h c (reason_of 30) p → p ≡ spot_at (length c)
  unfolding spot_for
  of_30 g = given_spot h c (reason_of 30) p g

  of_31 : Gives h c (reason_of 31) p → p ≡ first_other c 0 chunk_magic
  unfolding spot_for
  of_31 g = given_spot h c (reason_of 31) p g

  of_32 : Gives h c (reason_of 32) p → p ≡ spot_at 28
  unfolding spot_for
  of_32 g = given_spot h c (reason_of 32) p g

  of_33 : Gives h c (reason_of 33) p → p ≡ spot_at (48 + payload_length c)
  unfolding spot_for
  of_33 g = given_spot h c (reason_of 33) p g

  of_34 : Gives h c (reason_of 34) p → p ≡ first_other c (80 + payload_length c) end_marker
  unfolding spot_for
  of_34 g = given_spot h c (reason_of 34) p g

  of_35 : Gives h c (reason_of 35) p → p ≡ first_other c 4 h.uuid
  unfolding spot_for
  of_35 g = given_spot h c (reason_of 35) p g

  of_36 : Gives h c (reason_of 36) p → p ≡ spot_at 20
  unfolding spot_for
  of_36 g = given_spot h c (reason_of 36) p g

  of_37 : Gives h c (reason_of 37) p → p ≡ first_other c 24 (bytes_of 4 (type_for h.n (index_of c)))
  unfolding spot_for
  of_37 g = given_spot h c (reason_of 37) p g

  of_38 : Gives h c (reason_of 38) p → p ≡ first_other c 34 (zeros 14)
  unfolding spot_for
  of_38 g = given_spot h c (reason_of 38) p g

  of_39 : Gives h c (reason_of 39) p → p ≡ first_other c 32 (h.compression ∷ h.erasure ∷ [])
  unfolding spot_for
  of_39 g = given_spot h c (reason_of 39) p g

  of_40 : Gives h c (reason_of 40) p → p ≡ first_other c 28 (bytes_of 4 h.s)
  unfolding spot_for
  of_40 g = given_spot h c (reason_of 40) p g

  of_41 : Gives h c (reason_of 41) p → p ≡ spot_at 20
  unfolding spot_for
  of_41 g = given_spot h c (reason_of 41) p g

  of_42 : Gives h c (reason_of 42) p → p ≡ spot_at 20
  unfolding spot_for
  of_42 g = given_spot h c (reason_of 42) p g

-- a place in a row of the table, or none
abbrev NoPlace : Head → List ℕ → ℕ → Type 0
NoPlace h c k = spot_for h c k ≡ None → (k ≡ 43) ⊎ (k ≡ 71)

no_place : (h : Head) (c : List ℕ) (r : Reason) (p : Option BytePlace) → Gives h c r p → (p ≡ None) ↔ ((number_of r ≡ 43) ⊎ (number_of r ≡ 71))
unfolding spot_for
no_place h c r p g = (
  λ e. given-number h c r p (NoPlace h c)
      (λ _. nowhere_not _, λ _. (λ _. nowhere_not _, λ _. (λ _. nowhere_not _, λ _. (λ _. nowhere_not _, λ _. (λ _. nowhere_not _, λ _. (λ _. nowhere_not _, λ _. (λ _. nowhere_not _, λ _. (λ _. nowhere_not _, λ _. (λ _. nowhere_not _, λ _. (λ _. nowhere_not _, λ _. (λ _. nowhere_not _, λ _. (λ _. nowhere_not _, λ _. tt))))))))))))
      (λ _. inr refl) (λ _. inl refl) (λ _. nowhere_not _) (λ _. nowhere_not _) g (sym (given_spot h c r p g) ∙ e),
  λ n. given_spot h c r p g ∙ back n,
)
  where
    back : (number_of r ≡ 43) ⊎ (number_of r ≡ 71) → spot_for h c (number_of r) ≡ None
    back (inl e) = ap (spot_for h c) e
    back (inr e) = ap (spot_for h c) e

taken : (h : Head) (y : Logged) (c : List ℕ) (i : BlockNumber) (p : BytePlace)
    → ((offered h y c).verdict ≡ Fresh i p) ⊎ ((offered h y c).verdict ≡ Repeat i p) → (offered h y c).spot ≡ None
unfolding offered spot_of
taken h y c i p (inl e) = ap (spot_of h c) e
taken h y c i p (inr e) = ap (spot_of h c) e

-- ---- the place lies inside

module _ (h : Head) (uuid_long : length h.uuid ≡ 16) (c : List ℕ) where
  -- where number k is given
  abbrev Within : ℕ → Type 0
  Within k = (q : ℕ) → k ≢ 30 → spot_for h c k ≡ spot_at q → (q < chunk_length c) × (q < length c)

  -- a place in the chunk's header
  in_header : (p q : ℕ) → p < 48 → 48 ≤ length c → spot_at p ≡ spot_at q → (q < chunk_length c) × (q < length c)
  in_header p q low there e = let f : p ≡ q = at_one p q e in (omega (arith, low, f), omega (arith, low, there, f))

  in_chunk : (p q : ℕ) → p < chunk_length c → chunk_length c ≤ length c → spot_at p ≡ spot_at q → (q < chunk_length c) × (q < length c)
  in_chunk p q low there e = let f : p ≡ q = at_one p q e in (omega (arith, low, f), omega (arith, low, there, f))

  header_there : ltb (length c) 48 ≡ false → 48 ≤ length c
  header_there e = ltb-false (length c) 48 e

  all_there : ltb (length c) (chunk_length c) ≡ false → chunk_length c ≤ length c
  all_there e = ltb-false (length c) (chunk_length c) e

  not_standing : (at : ℕ) (ys : List ℕ) → not (stands_at c at ys) ≡ true → agreeing c at ys < length ys
  not_standing at ys e = agreeing_inside c at ys (not-true (stands_at c at ys) e)

  each_inside : EachHeld Within (chunk_checks h c)
  unfolding spot_for
  each_inside = (
    λ _. λ q n e. absurd (n refl),
    λ a. (
      λ _. λ q n e. in_header _ q (omega (arith, agreeing_short c 0 chunk_magic)) (header_there a) e,
      λ _. (
        λ _. λ q n e. in_header 28 q (lit≤ tt) (header_there a) e,
        λ _. (
          λ _. λ q n e. absurd (n refl),
          λ b. (
            λ _. λ q n e. in_chunk (48 + payload_length c) q (omega arith) (all_there b) e,
            λ _. (
              λ t. λ q n e. in_chunk _ q (omega (arith, not_standing (80 + payload_length c) end_marker t)) (all_there b) e,
              λ _. (
                λ _. λ q n e. in_header _ q (omega (arith, uuid_long, agreeing_short c 4 h.uuid)) (header_there a) e,
                λ _. (
                  λ _. λ q n e. in_header 20 q (lit≤ tt) (header_there a) e,
                  λ _. (
                    λ _. λ q n e. in_header _ q (omega (arith, agreeing_short c 24 (bytes_of 4 (type_for h.n (index_of c))), (little_laws 4).long (type_for h.n (index_of c)))) (header_there a) e,
                    λ _. (
                      λ t. λ q n e. in_header _ q (omega (arith, not_standing 34 (zeros 14) t)) (header_there a) e,
                      λ _. (
                        λ _. λ q n e. in_header _ q (omega (arith, agreeing_short c 32 (h.compression ∷ h.erasure ∷ []))) (header_there a) e,
                        λ _.
                            (λ _. λ q n e. in_header _ q (omega (arith, agreeing_short c 28 (bytes_of 4 h.s), (little_laws 4).long h.s)) (header_there a) e, λ _. tt),
                      ),
                    ),
                  ),
                ),
              ),
            ),
          ),
        ),
      ),
    ),
  )

  place_inside : (r : Reason) (q : ℕ) → number_of r ≢ 30 → Gives h c r (spot_at q) → (q < chunk_length c) × (q < length c)
  unfolding spot_for
  place_inside r q n g =
      given-number h c r (spot_at q) Within each_inside (λ q n e. nowhere_not q (sym e)) (λ q n e. nowhere_not q (sym e))
      (λ w q n e. in_header 20 q (lit≤ tt) (header_there w.0) e) (λ w q n e. in_header 20 q (lit≤ tt) (header_there w.0) e)
      g q n (sym (given_spot h c r (spot_at q) g))

pub place-table : PlaceTable
place-table = record {
  of_30 = of_30;
  of_31 = of_31;
  of_32 = of_32;
  of_33 = of_33;
  of_34 = of_34;
  of_35 = of_35;
  of_36 = of_36;
  of_37 = of_37;
  of_38 = of_38;
  of_39 = of_39;
  of_40 = of_40;
  of_41 = of_41;
  of_42 = of_42;
  no_place = no_place;
  taken = taken;
  place_inside = place_inside;
}

-- ---- the first wrong byte

module _ (h : Head) (c : List ℕ) (p : Option BytePlace) where
  -- the test of number k, the i-th of the chunk's own, found the bytes wanted
  wrong-there : (at : ℕ) (ys : List ℕ) → p ≡ first_other c at ys → stands_at c at ys ≡ false → FirstWrong c at ys p
  wrong-there at ys e f = subst (FirstWrong c at ys) (sym e) (first-wrong c at ys f)

  magic : Gives h c (reason_of 31) p → FirstWrong c 0 chunk_magic p
  magic g = wrong-there 0 chunk_magic (of_31 h c p g) (not-true _ (blamed 31 1 (chunk_checks h c) refl refl refl (given-own h c (reason_of 31) p (lit≤ tt) g).refuses).1)

  end_marker_lem : Gives h c (reason_of 34) p → FirstWrong c (80 + payload_length c) end_marker p
  end_marker_lem g = wrong-there (80 + payload_length c) end_marker (of_34 h c p g) (not-true _ (blamed 34 5 (chunk_checks h c) refl refl refl (given-own h c (reason_of 34) p (lit≤ tt) g).refuses).1)

  uuid : Gives h c (reason_of 35) p → FirstWrong c 4 h.uuid p
  uuid g = wrong-there 4 h.uuid (of_35 h c p g) (not-true _ (blamed 35 6 (chunk_checks h c) refl refl refl (given-own h c (reason_of 35) p (lit≤ tt) g).refuses).1)

  type : Gives h c (reason_of 37) p → FirstWrong c 24 (bytes_of 4 (type_for h.n (index_of c))) p
  type g =
      wrong-there 24 (bytes_of 4 (type_for h.n (index_of c))) (of_37 h c p g)
      (number_apart 4 c 24 (type_for h.n (index_of c)) (type_small (ltb (index_of c) h.n)) (blamed 37 8 (chunk_checks h c) refl refl refl (given-own h c (reason_of 37) p (lit≤ tt) g).refuses).1)
    where
      type_small : (b : Bool) → cond b 1 2 < 256 ^ 4
      type_small true = lit≤ tt
      type_small false = lit≤ tt

  reserved : Gives h c (reason_of 38) p → FirstWrong c 34 (zeros 14) p
  reserved g = wrong-there 34 (zeros 14) (of_38 h c p g) (not-true _ (blamed 38 9 (chunk_checks h c) refl refl refl (given-own h c (reason_of 38) p (lit≤ tt) g).refuses).1)

  identifiers : Gives h c (reason_of 39) p → FirstWrong c 32 (h.compression ∷ h.erasure ∷ []) p
  unfolding stands_at
  identifiers g =
      wrong-there 32 (h.compression ∷ h.erasure ∷ []) (of_39 h c p g)
      (go (eqb (get_or c 32 0) h.compression) (eqb (get_or c 33 0) h.erasure) (blamed 39 10 (chunk_checks h c) refl refl refl (given-own h c (reason_of 39) p (lit≤ tt) g).refuses).1)
    where
      go : (a b : Bool) → (not a || not b) ≡ true → (a && (b && true)) ≡ false
      go true true e = sym e
      go true false e = refl
      go false b e = refl

  payload-length : Gives h c (reason_of 40) p → FirstWrong c 28 (bytes_of 4 h.s) p
  payload-length g =
      let o = given-own h c (reason_of 40) p (lit≤ tt) g in
      wrong-there 28 (bytes_of 4 h.s) (of_40 h c p g)
      (number_apart 4 c 28 h.s (omega (arith, (right_shape h.size h.n h.m h.s o.shape).s_most)) (blamed 40 11 (chunk_checks h c) refl refl refl o.refuses).1)

just_one : (c : List ℕ) (at : ℕ) (wanted : List ℕ) (p q : Option BytePlace) → FirstWrong c at wanted p → FirstWrong c at wanted q → p ≡ q
just_one c at wanted p q f g = f.here ∙ ap (λ (k : ℕ). spot_at (at + k)) same ∙ sym g.here
  where
    same : f.which ≡ g.which
    same = least f.which g.which (λ l. f.other (g.before f.which l)) (λ l. g.other (f.before g.which l))
      where
        least : (a b : ℕ) → (a < b → ⊥) → (b < a → ⊥) → a ≡ b
        least a b m n = omega (arith, m, n)

pub first_wrongs : FirstWrongs
first_wrongs = record {
  magic = magic;
  end_marker_lem = end_marker_lem;
  uuid = uuid;
  type = type;
  reserved = reserved;
  identifiers = identifiers;
  payload-length = payload-length;
  just_one = just_one;
}
