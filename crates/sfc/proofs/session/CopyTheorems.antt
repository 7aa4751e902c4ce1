-- A chunk that passes 30 to 40 is told by index and payload, so that a repeat is a byte-identical copy (specs/session/CopyTheorems).
-- Assumes nothing.
use Prim.Native.Nat.{ℕ, suc, ◌+◌, ◌*◌, ◌≤◌, ◌<◌}
use mathlib.Core.Path.{◌≡◌, refl, sym, ap, ap₂, ◌∙◌}
use mathlib.Core.Logic.{◌≢◌, ◌⊎◌, inl, inr, ⊎_elim}
use mathlib.Core.Bool.{Bool, true, false, not}
use mathlib.Core.List.{List, [], ◌∷◌, ◌++◌}
use native.Mathlib.Decide.{ℕ_discrete}
use native.Mathlib.Omega.{arith}
use borrow.Author.Tests.{ltb-false, eqb-true, not-false}
use lib.Dec.{eqb}
use lib.ListN.{length, get_or, take}
use lib.Seq.{drop-cons, take-add}
use Rattle.little.specs.Fields.{Bytes, le, bytes_of}
use Rattle.little.specs.Parts.{part}
use Rattle.little.specs.Runs.{zeros, same}
use Rattle.little.proofs.Laws.{little_laws, part_laws, same_laws, test_laws}
use Rattle.blake3.specs.Tree.{hash}
use Rattle.blake3.proofs.Laws.{hash_laws}
use Rattle.sfc.specs.answer.Numbers.{passes, number_of, Passed}
use Rattle.sfc.specs.answer.Places.{number, place}
use Rattle.sfc.specs.format.Bytes.{stands_at}
use Rattle.sfc.specs.format.Chunk.{chunk_magic, end_marker, index_of, type_of, payload_length, payload_of, chunk_length, type_for, chunk_checks}
use Rattle.sfc.specs.session.Tallies.{tally_full}
use Rattle.sfc.specs.session.Session.{Session, mark, block_of, session_wrong, mark_checks, offer_checks, welcomed, verdict_of, after}
use Rattle.sfc.specs.inner.Steps.{Welcome}
use Rattle.sfc.specs.session.History.{after_all}
use Rattle.sfc.specs.session.SessionTheorems.{ChangesOne, SameKept}
use Rattle.sfc.specs.session.CopyTheorems.{whole_chunk, chunk_under, Passing, TellsCopies, CopyTheorems}
use Rattle.sfc.specs.writing.Writer.{compression, erasure_for, chunk_header, sealed, chunk_bytes}
use Rattle.sfc.specs.declared.format.header.Head.{Head}
use Rattle.sfc.specs.declared.answer.reason.Reason.{Reason}
use Rattle.sfc.specs.declared.answer.reason.Reason.TheVariants.{Conflict}
use Rattle.sfc.specs.declared.answer.places.BlockNumber.{BlockNumber}
use Rattle.sfc.specs.declared.answer.places.BytePlace.{BytePlace}
use Rattle.sfc.specs.declared.session.offer.Verdict.{Verdict}
use Rattle.sfc.specs.declared.session.offer.Verdict.TheVariants.{Fresh, Repeat, Refused}
use Rattle.sfc.proofs.answer.CheckLaws.{passed, all-passed, front_good, passes_good, good_passes, let_through}
use Rattle.sfc.proofs.session.SessionLaws.{verdict_repeat, verdict_conflict}
use Rattle.sfc.proofs.session.OfferLaws.{one_offer, stays_lent}

-- ---- what stands at a place, and one piece after the other

stands_part : (c : List ℕ) (at : ℕ) (ys : List ℕ) → at + length ys ≤ length c → stands_at c at ys ≡ true → part c at (length ys) ≡ ys
unfolding stands_at
stands_part c at [] l e = refl
stands_part c at (y ∷ ys) l e =
    let a = test_laws.and_both (eqb (get_or c at 0) y) (stands_at c (suc at) ys) e in
    let i : at < length c = omega arith in
    rw (drop-cons c at 0 i) (ap₂ ◌∷◌ (eqb-true (get_or c at 0) y a.0) (stands_part c (suc at) ys (omega arith) a.1))

two_stand : (c : List ℕ) (at x y : ℕ) → get_or c at 0 ≡ x → get_or c (suc at) 0 ≡ y → at + 2 ≤ length c → part c at 2 ≡ x ∷ y ∷ []
two_stand c at x y e f l =
    let i : at < length c = omega arith in
    let j : suc at < length c = omega arith in
    rw (drop-cons c at 0 i, drop-cons c (suc at) 0 j, e, f)

grow : (c a b : List ℕ) (n k : ℕ) → take n c ≡ a → part c n k ≡ b → take (n + k) c ≡ a ++ b
grow c a b n k e f = take-add n k c ∙ ap₂ ◌++◌ e f

-- ---- a chunk that passes 30 to 40, from its first byte to its last

module _ (h : Head) (c : List ℕ) (u : length h.uuid ≡ 16) (g : Passing h c) where
  tests : Passed (chunk_checks h c)
  tests = passed (chunk_checks h c) (passes_good (chunk_checks h c) g.passed)

  there : 84 + payload_length c ≤ length c
  there = ltb-false (length c) (chunk_length c) tests.1.1.1.0

  long : payload_length c ≡ h.s
  long = eqb-true (payload_length c) h.s (not-false (eqb (payload_length c) h.s) tests.1.1.1.1.1.1.1.1.1.1.1.0)

  text_at : (at : ℕ) (ys : List ℕ) → at + length ys ≤ 84 + payload_length c → not (stands_at c at ys) ≡ false → part c at (length ys) ≡ ys
  text_at at ys l e = stands_part c at ys (omega (arith, there)) (not-false (stands_at c at ys) e)

  upto_20 : take 20 c ≡ chunk_magic ++ h.uuid
  upto_20 =
      let m : take 4 c ≡ chunk_magic = text_at 0 chunk_magic (omega arith) tests.1.0 in
      grow c chunk_magic h.uuid 4 16 m (ap (λ (n : ℕ). part c 4 n) (sym u) ∙ text_at 4 h.uuid (omega arith) tests.1.1.1.1.1.1.0)

  upto_32 : take 32 c ≡ chunk_magic ++ h.uuid ++ bytes_of 4 (index_of c) ++ bytes_of 4 (type_for h.n (index_of c)) ++ bytes_of 4 h.s
  upto_32 =
      let field : (at : ℕ) → at + 4 ≤ 84 → bytes_of 4 (le c at 4) ≡ part c at 4 = λ at l. (little_laws 4).bytes_back c g.bytes at (omega (arith, there)) in
      let t : type_of c ≡ type_for h.n (index_of c) =
      eqb-true (type_of c) (type_for h.n (index_of c)) (not-false (eqb (type_of c) (type_for h.n (index_of c))) tests.1.1.1.1.1.1.1.1.0) in
      grow c _ (bytes_of 4 h.s) 28 4
      (grow c _ (bytes_of 4 (type_for h.n (index_of c))) 24 4
      (grow c _ (bytes_of 4 (index_of c)) 20 4 upto_20 (sym (field 20 (omega arith))))
      (sym (field 24 (omega arith)) ∙ ap (bytes_of 4) t))
      (sym (field 28 (omega arith)) ∙ ap (bytes_of 4) long)

  upto_48 : take 48 c ≡ chunk_magic ++ h.uuid ++ bytes_of 4 (index_of c) ++ bytes_of 4 (type_for h.n (index_of c)) ++ bytes_of 4 h.s ++ (h.compression ∷ h.erasure ∷ []) ++ zeros 14
  upto_48 =
      let o = test_laws.or-false (not (eqb (get_or c 32 0) h.compression)) (not (eqb (get_or c 33 0) h.erasure)) tests.1.1.1.1.1.1.1.1.1.1.0 in
      let a : get_or c 32 0 ≡ h.compression = eqb-true (get_or c 32 0) h.compression (not-false (eqb (get_or c 32 0) h.compression) o.0) in
      let b : get_or c 33 0 ≡ h.erasure = eqb-true (get_or c 33 0) h.erasure (not-false (eqb (get_or c 33 0) h.erasure) o.1) in
      grow c _ (zeros 14) 34 14
      (grow c _ (h.compression ∷ h.erasure ∷ []) 32 2 upto_32 (two_stand c 32 h.compression h.erasure a b (omega (arith, there))))
      (text_at 34 (zeros 14) (omega arith) tests.1.1.1.1.1.1.1.1.1.0)

  -- header and payload
  abbrev front : List ℕ
  front = chunk_magic ++ h.uuid ++ bytes_of 4 (index_of c) ++ bytes_of 4 (type_for h.n (index_of c)) ++ bytes_of 4 h.s ++ (h.compression ∷ h.erasure ∷ []) ++ zeros 14 ++ payload_of c

  upto-payload : take (48 + payload_length c) c ≡ front
  upto-payload = grow c _ (payload_of c) 48 (payload_length c) upto_48 refl

  upto-hash : take (80 + payload_length c) c ≡ front ++ hash front
  upto-hash =
      let l : 48 + payload_length c + length (hash front) ≤ 84 + payload_length c = omega (arith, hash_laws.length-hash front) in
      let e : not (stands_at c (48 + payload_length c) (hash front)) ≡ false =
      ap (λ (b : List ℕ). not (stands_at c (48 + payload_length c) (hash b))) (sym upto-payload) ∙ tests.1.1.1.1.0 in
      let s : part c (48 + payload_length c) 32 ≡ hash front =
      ap (λ (n : ℕ). part c (48 + payload_length c) n) (sym (hash_laws.length-hash front)) ∙ text_at (48 + payload_length c) (hash front) l e in
      let k : 48 + payload_length c + 32 ≡ 80 + payload_length c = omega arith in
      rw k at (grow c front (hash front) (48 + payload_length c) 32 upto-payload s)

  pub laid_down : whole_chunk c ≡ chunk_under h (index_of c) (payload_of c)
  unfolding chunk_under sealed
  laid_down =
      let s : part c (80 + payload_length c) 4 ≡ end_marker = text_at (80 + payload_length c) end_marker (omega arith) tests.1.1.1.1.1.0 in
      let k : 80 + payload_length c + 4 ≡ 84 + payload_length c = omega arith in
      rw k at (grow c (front ++ hash front) end_marker (80 + payload_length c) 4 upto-hash s)

  -- the payload lies in the chunk
  pub payload_in : payload_of c ≡ part (whole_chunk c) 48 h.s
  payload_in = ap (λ (n : ℕ). part c 48 n) long ∙ sym (part_laws.part-part c 0 (84 + payload_length c) 48 h.s (omega (arith, long)) (omega (arith, there)))

as_written : (h : Head) (i : ℕ) (payload : List ℕ) → h.compression ≡ compression → h.erasure ≡ erasure_for h.m
    → chunk_under h i payload ≡ chunk_bytes h.uuid h.n h.m h.s i payload
unfolding chunk_under chunk_bytes chunk_header
as_written h i payload e f =
    ap₂ (λ (a b : ℕ). sealed (chunk_magic ++ h.uuid ++ bytes_of 4 i ++ bytes_of 4 (type_for h.n i) ++ bytes_of 4 h.s ++ (a ∷ b ∷ []) ++ zeros 14 ++ payload)) e f

-- ---- two chunks of one index

module _ (h : Head) (c d : List ℕ) (u : length h.uuid ≡ 16) (g : Passing h c) (k : Passing h d) (i : index_of c ≡ index_of d) where
  same_bytes : payload_of c ≡ payload_of d → whole_chunk c ≡ whole_chunk d
  same_bytes e = laid_down h c u g ∙ ap₂ (chunk_under h) i e ∙ sym (laid_down h d u k)

  same-payload : whole_chunk c ≡ whole_chunk d → payload_of c ≡ payload_of d
  same-payload e = payload_in h c u g ∙ ap (λ (l : List ℕ). part l 48 h.s) e ∙ sym (payload_in h d u k)

-- ---- a session that holds c, and an offer of d

no_fresh : (r : Reason) (i : BlockNumber) (p : BytePlace) → ◌≡◌ {A = Verdict} (Refused r) (Fresh i p) → ⊥
no_fresh r i p e = let z : ◌≡◌ {A = ℕ} 0 1 = cc in omega arith

no_repeat : (r : Reason) (i : BlockNumber) (p : BytePlace) → ◌≡◌ {A = Verdict} (Refused r) (Repeat i p) → ⊥
no_repeat r i p e = let z : ◌≡◌ {A = ℕ} 0 1 = cc in omega arith

module _ (h : Head) (y : Session) (i p : ℕ) (c d : List ℕ) (u : length h.uuid ≡ 16) (g : Passing h c) (k : Passing h d) (ic : index_of c ≡ i) (id : index_of d ≡ i)
    (ep : p ≡ i * h.s) (w : Welcome h y d) (m : mark y i ≡ 1) (b : block_of h y i ≡ payload_of c) where
  held : mark y (index_of d) ≡ 1
  held = ap (mark y) id ∙ m

  kept : block_of h y (index_of d) ≡ payload_of c
  kept = ap (block_of h y) id ∙ b

  copy_repeats : payload_of c ≡ payload_of d → verdict_of h y d ≡ Repeat (number i) (place p)
  copy_repeats e =
      let s : same (block_of h y (index_of d)) (payload_of d) ≡ true = ap (λ (l : List ℕ). same l (payload_of d)) (kept ∙ e) ∙ same_laws.same_refl (payload_of d) in
      verdict_repeat h y d w held s ∙ ap₂ (λ (j q : ℕ). Repeat (number j) (place q)) id (ap (λ (j : ℕ). j * h.s) id ∙ sym ep)

  other_conflicts : payload_of c ≢ payload_of d → verdict_of h y d ≡ Refused Conflict
  other_conflicts n = verdict_conflict h y d w held (same_laws.same_differ (block_of h y (index_of d)) (payload_of d) (λ e. n (sym kept ∙ e)))

  tells_copies : TellsCopies h y i p c d
  tells_copies = go (same (payload_of c) (payload_of d)) refl
    where
      ij : index_of c ≡ index_of d
      ij = ic ∙ sym id

      go : (t : Bool) → same (payload_of c) (payload_of d) ≡ t → TellsCopies h y i p c d
      go true s =
          let e = same_laws.same-eq (payload_of c) (payload_of d) s in
          let q : whole_chunk d ≡ whole_chunk c = sym (same_bytes h c d u g k ij e) in
          record {
            a_repeat = ((λ v. q), (λ z. copy_repeats e));
            a_conflict = ((λ v. absurd (no_repeat Conflict _ _ (sym v ∙ copy_repeats e))), (λ n. absurd (n q)));
          }
      go false s =
          let n : payload_of c ≢ payload_of d = same_laws.same_apart (payload_of c) (payload_of d) s in
          let a : whole_chunk d ≢ whole_chunk c = λ z. n (same-payload h c d u g k ij (sym z)) in
          record {
            a_repeat = ((λ v. absurd (no_repeat Conflict _ _ (sym (other_conflicts n) ∙ v))), (λ z. absurd (a z)));
            a_conflict = ((λ v. a), (λ z. other_conflicts n));
          }

-- ---- what stays held

-- the block is held with its payload, or barred
abbrev HeldOrBarred : Head → Session → ℕ → List ℕ → Type 0
HeldOrBarred h y i b = ((mark y i ≡ 1) × (block_of h y i ≡ b)) ⊎ (mark y i ≡ 2)

module _ (h : Head) (i : ℕ) (inside : i < h.n + h.m) (b : List ℕ) where
  same_stays : (y z : Session) → SameKept y z → HeldOrBarred h y i b → HeldOrBarred h z i b
  same_stays y z s a =
      ⊎_elim (λ q. inl (ap (λ (l : List ℕ). get_or l i 0) s.marks ∙ q.0, ap (λ (l : List ℕ). part l (i * h.s) h.s) s.store ∙ q.1))
      (λ q. inr (ap (λ (l : List ℕ). get_or l i 0) s.marks ∙ q)) a

  other_stays : (y z : Session) (j : ℕ) (l : List ℕ) (k : ℕ) → ChangesOne h y z j l k → i ≢ j → HeldOrBarred h y i b → HeldOrBarred h z i b
  other_stays y z j l k o n a =
      ⊎_elim (λ q. inl (o.other-marks i n ∙ q.0, o.other-blocks i inside n ∙ q.1)) (λ q. inr (o.other-marks i n ∙ q)) a

  stays : (y : Session) (d : List ℕ) → HeldOrBarred h y i b → HeldOrBarred h (after h y d) i b
  stays y d a = go (verdict_of h y d) refl
    where
      go : (v : Verdict) → verdict_of h y d ≡ v → HeldOrBarred h (after h y d) i b
      go (Fresh j p) e =
          let t = one_offer.fresh_changes_one h y d j.0 p.0 e in
          other_stays y (after h y d) j.0 (payload_of d) 1 t.3
          (λ z. ⊎_elim (λ q. omega (arith, q.0, t.2, ap (mark y) z)) (λ q. omega (arith, q, t.2, ap (mark y) z)) a) a
      go (Repeat j p) e = same_stays y (after h y d) (one_offer.repeat_changes_nothing h y d j.0 p.0 e).4 a
      go (Refused r) e = by_number (ℕ_discrete (number_of r) 41)
        where
          at_index : ChangesOne h y (after h y d) (index_of d) (zeros h.s) 2 → Dec (i ≡ index_of d) → HeldOrBarred h (after h y d) i b
          at_index o (yes z) = inr (ap (mark (after h y d)) z ∙ o.new_mark)
          at_index o (no n) = other_stays y (after h y d) (index_of d) (zeros h.s) 2 o n a

          by_number : Dec (number_of r ≡ 41) → HeldOrBarred h (after h y d) i b
          by_number (yes q) = at_index (one_offer.barring_changes_one h y d r e q).2 (ℕ_discrete i (index_of d))
          by_number (no n) = same_stays y (after h y d) (one_offer.refused_changes_nothing h y d r e n) a

  all_stay : (y : Session) (ds : List (List ℕ)) → HeldOrBarred h y i b → HeldOrBarred h (after_all h y ds) i b
  unfolding after_all
  all_stay y [] a = a
  all_stay y (d ∷ ds) a = all_stay (after h y d) ds (stays y d a)

-- ---- after a fresh chunk

-- what was fresh passed 71 and 30 to 40
fresh-passed : (h : Head) (x : Session) (i p : ℕ) (c : List ℕ) → verdict_of h x c ≡ Fresh (number i) (place p) → (session_wrong h x ≡ false) × (passes (chunk_checks h c) ≡ true)
unfolding verdict_of
fresh-passed h x i p c e =
    let t = let_through Refused (offer_checks h x c) (welcomed h x c) (Fresh (number i) (place p)) (λ r. no_fresh r _ _) e in (
      t.0.0,
      good_passes (chunk_checks h c) (front_good (chunk_checks h c) (mark_checks h x c) (all-passed (chunk_checks h c ++ mark_checks h x c) t.0.1.1)),
    )

module _ (h : Head) (x : Session) (i p : ℕ) (c d : List ℕ) (u : length h.uuid ≡ 16) (b : Bytes c) (e : verdict_of h x c ≡ Fresh (number i) (place p)) where
  while_held : (between : List (List ℕ)) → mark (after_all h (after h x c) between) i ≡ 1 → Passing h d → index_of d ≡ i
      → tally_full (after_all h (after h x c) between).tallies ≡ false → TellsCopies h (after_all h (after h x c) between) i p c d
  while_held between m k j f =
      let t = one_offer.fresh_changes_one h x c i p e in
      let q = fresh-passed h x i p c e in
      let w : Welcome h (after_all h (after h x c) between) d =
      record { lent = stays_lent h (after h x c) between (one_offer.lent_stays h x c q.0); room = f; whole = passes_good (chunk_checks h d) k.passed } in
      ⊎_elim
      (λ (a : (mark (after_all h (after h x c) between) i ≡ 1) × (block_of h (after_all h (after h x c) between) i ≡ payload_of c)).
      tells_copies h (after_all h (after h x c) between) i p c d u (record { bytes = b; passed = q.1 }) k (sym t.0) j t.1 w m a.1)
      (λ (a : mark (after_all h (after h x c) between) i ≡ 2). absurd (omega arith))
      (all_stay h i t.3.inside (payload_of c) (after h x c) between (inl (t.3.new_mark, t.3.new_block)))

  repeat_exactly : Passing h d → index_of d ≡ i → tally_full (after h x c).tallies ≡ false → TellsCopies h (after h x c) i p c d
  unfolding after_all
  repeat_exactly k j f = while_held [] (one_offer.fresh_changes_one h x c i p e).3.new_mark k j f

pub copy_theorems : CopyTheorems
copy_theorems = record {
  canonical = laid_down;
  as_written = as_written;
  same_exactly = λ h c d u g k i. (same-payload h c d u g k i, same_bytes h c d u g k i);
  repeat_exactly = repeat_exactly;
  while_held = while_held;
}
