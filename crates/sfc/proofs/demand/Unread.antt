-- What lies inside the front of a list is the same with anything after it; so each test of a whole chunk is, and of a header
-- (proofs/format/HeaderParts.antt). Assumes nothing.
use Prim.Native.Nat.{ℕ, ◌+◌, ◌≤◌}
use mathlib.Core.Path.{◌≡◌, refl, sym, ap, ◌∙◌}
use mathlib.Core.Logic.{◌≢◌}
use mathlib.Core.Bool.{Bool, true, false, true≢false}
use mathlib.Core.List.{List, [], ◌∷◌, ◌++◌}
use native.Mathlib.Omega.{arith}
use borrow.Author.Tests.{le-ltb, ne_eqb}
use lib.Dec.{ltb}
use lib.ListN.{length, take, length-append, get_or-append}
use lib.Seq.{take-append-le}
use Rattle.little.specs.Parts.{part}
use Rattle.little.specs.Fields.{bytes_of}
use Rattle.little.proofs.Laws.{part_laws, little_laws}
use Rattle.blake3.specs.Tree.{hash}
use Rattle.blake3.proofs.Laws.{hash_laws}
use Rattle.little.specs.Runs.{zeros}
use Rattle.sfc.specs.answer.Numbers.{Check, checked, verdict, number_of, Checked}
use Rattle.sfc.specs.session.Lent.{shape_wrong, rebuilding_wrong}
use Rattle.sfc.specs.format.Chunk.{chunk_magic, end_marker, index_of, type_of, payload_length, payload_of, chunk_length, type_for, chunk_checks, alone_checks}
use Rattle.sfc.specs.format.Spot.{spot_for, refused_chunk, check_chunk}
use Rattle.sfc.specs.answer.Places.{number, place, whole_at, broken}
use Rattle.sfc.specs.session.Tallies.{tally_full}
use Rattle.sfc.specs.session.Session.{Session, session_wrong, mark_checks, welcomed, verdict_of, settled, after, spot_of}
use Rattle.sfc.specs.session.Offer.{logged, offer_verdict, logged_after, offered}
use Rattle.sfc.specs.demand.Unread.{Unread}
use Rattle.sfc.proofs.answer.CheckLaws.{EachHeld, number-held, good_all, refused_all}
use Rattle.sfc.proofs.format.PlaceLaws.{le-front, stands_front}
use Rattle.sfc.proofs.format.SpotLaws.{agreeing-front}
use Rattle.sfc.proofs.session.BreakLaws.{Own, own_check, own_offer, offer_refused}
use Rattle.sfc.proofs.session.KeptLaws.{offered-beside}
use Rattle.sfc.proofs.format.HeaderParts.{read_seen}
use Rattle.sfc.specs.declared.answer.places.BytePlace.{BytePlace}
use Rattle.sfc.specs.declared.format.header.Head.{Head}
use Rattle.sfc.specs.declared.answer.reason.Reason.{Reason}
use Rattle.sfc.specs.declared.session.offer.Verdict.{Verdict}
use Rattle.sfc.specs.declared.session.offer.Verdict.TheVariants.{Fresh, Repeat, Refused}
use Rattle.sfc.specs.declared.format.chunk.BrokenChunk.{BrokenChunk}
use Rattle.sfc.specs.declared.format.chunk.WholeChunk.{WholeChunk}
use Rattle.std.specs.Prelude.{Result, Ok, Err, Option}

-- ---- what lies inside c, with any bytes after c

module _ (c rest : List ℕ) where
  -- a test that asks for no more bytes than c has
  long_front : (k : ℕ) → k ≤ length c → ltb (length (c ++ rest)) k ≡ ltb (length c) k
  long_front k i = le-ltb (length (c ++ rest)) k (omega (arith, length-append c rest)) ∙ sym (le-ltb (length c) k i)

-- ---- a whole chunk

module _ (c rest : List ℕ) (whole : chunk_length c ≤ length c) where
  same_index : index_of (c ++ rest) ≡ index_of c
  same_index = le-front c rest 20 4 (omega arith)

  same_type : type_of (c ++ rest) ≡ type_of c
  same_type = le-front c rest 24 4 (omega arith)

  same_length : payload_length (c ++ rest) ≡ payload_length c
  same_length = le-front c rest 28 4 (omega arith)

  same-payload : payload_of (c ++ rest) ≡ payload_of c
  same-payload = ap (λ (n : ℕ). part (c ++ rest) 48 n) same_length ∙ part_laws.part-append-left c rest 48 (payload_length c) (omega arith)

  module _ (h : Head) (uuid_long : length h.uuid ≡ 16) where
    same_checks : chunk_checks h (c ++ rest) ≡ chunk_checks h c
    same_checks =
        rw (
          same_length,
          same_index,
          same_type,
          long_front c rest 48 (omega arith),
          long_front c rest (chunk_length c) whole,
          take-append-le (48 + payload_length c) c rest (omega arith),
          stands_front c rest 0 chunk_magic (omega arith),
          stands_front c rest (48 + payload_length c) (hash (take (48 + payload_length c) c)) (omega (arith, hash_laws.length-hash (take (48 + payload_length c) c))),
          stands_front c rest (80 + payload_length c) end_marker (omega arith),
          stands_front c rest 4 h.uuid (omega arith),
          stands_front c rest 34 (zeros 14) (omega arith),
          get_or-append c rest 0 32 (omega arith),
          get_or-append c rest 0 33 (omega arith),
        )

    same_alone : alone_checks h (c ++ rest) ≡ alone_checks h c
    same_alone = ap (λ (cs : List Check). (shape_wrong h.size h.n h.m h.s, 71) ∷ cs) same_checks

    -- the place of each number but 30's, which a chunk that is all there does not get
    same_spot : (k : ℕ) → k ≢ 30 → spot_for h (c ++ rest) k ≡ spot_for h c k
    unfolding spot_for
    same_spot k n =
        rw (
          ne_eqb k 30 n,
          same_length,
          same_index,
          agreeing-front c rest 0 chunk_magic (omega arith),
          agreeing-front c rest (80 + payload_length c) end_marker (omega arith),
          agreeing-front c rest 4 h.uuid (omega arith),
          agreeing-front c rest 24 (bytes_of 4 (type_for h.n (index_of c))) (omega (arith, (little_laws 4).long (type_for h.n (index_of c)))),
          agreeing-front c rest 34 (zeros 14) (omega arith),
          agreeing-front c rest 32 (h.compression ∷ h.erasure ∷ []) (omega arith),
          agreeing-front c rest 28 (bytes_of 4 h.s) (omega (arith, (little_laws 4).long h.s)),
        )

    never_30 : EachHeld (λ (k : ℕ). k ≢ 30) (chunk_checks h c)
    never_30 =
        (λ e. absurd (true≢false (sym e ∙ le-ltb (length c) 48 (omega arith))), λ _. (λ e q. omega arith, λ _. (λ e q. omega arith, λ _. (λ e. absurd (true≢false (sym e ∙ le-ltb (length c) (chunk_length c) whole)), λ _. (λ e q. omega arith, λ _. (λ e q. omega arith, λ _. (λ e q. omega arith, λ _. (λ e q. omega arith, λ _. (λ e q. omega arith, λ _. (λ e q. omega arith, λ _. (λ e q. omega arith, λ _. (λ e q. omega arith, λ _. tt))))))))))))

    same_place : (r : Reason) → (number_of r ≤ 40 → Own h c r) → spot_for h (c ++ rest) (number_of r) ≡ spot_for h c (number_of r)
    same_place r own = same_spot (number_of r) (λ q. number-held (λ (k : ℕ). k ≢ 30) (chunk_checks h c) r never_30 (own (omega (arith, q))).refuses q)

    abbrev answer : List ℕ → List Check → Result WholeChunk BrokenChunk
    answer b cs = checked cs (refused_chunk h b) (Ok (whole_at (number (index_of b)) (place 48)))

    same-checked : check_chunk h (c ++ rest) ≡ check_chunk h c
    unfolding check_chunk
    same-checked = go (verdict (alone_checks h c)) refl
      where
        go : (v : Checked) → verdict (alone_checks h c) ≡ v → answer (c ++ rest) (alone_checks h (c ++ rest)) ≡ answer c (alone_checks h c)
        go (Ok u) e =
            ap (answer (c ++ rest)) same_alone ∙ good_all (refused_chunk h (c ++ rest)) (alone_checks h c) (Ok (whole_at (number (index_of (c ++ rest))) (place 48))) e
            ∙ ap (λ (i : ℕ). Ok (whole_at (number i) (place 48))) same_index ∙ sym (good_all (refused_chunk h c) (alone_checks h c) (Ok (whole_at (number (index_of c)) (place 48))) e)
        go (Err r) e =
            ap (answer (c ++ rest)) same_alone ∙ refused_all (refused_chunk h (c ++ rest)) (alone_checks h c) (Ok (whole_at (number (index_of (c ++ rest))) (place 48))) r e
            ∙ ap (λ (s : Option BytePlace). Err (broken r s)) (same_place r (own_check h c r e)) ∙ sym (refused_all (refused_chunk h c) (alone_checks h c) (Ok (whole_at (number (index_of c)) (place 48))) r e)

    module _ (x : Session) where
      same-verdict : verdict_of h x (c ++ rest) ≡ verdict_of h x c
      unfolding verdict_of
      same-verdict =
          ap (λ (cs : List Check). checked ((session_wrong h x, 71) ∷ (tally_full x.tallies, 43) ∷ (cs ++ mark_checks h x (c ++ rest))) Refused (welcomed h x (c ++ rest)))
          same_checks
          ∙ rw (same_index, same-payload)

      same-settled : (v : Verdict) → settled h x (c ++ rest) v ≡ settled h x c v
      unfolding settled
      same-settled (Fresh i p) = rw (same_index, same-payload)
      same-settled (Repeat i p) = refl
      same-settled (Refused r) = rw same_index

      same_after : after h x (c ++ rest) ≡ after h x c
      unfolding after
      same_after = rw (same-verdict, same-settled (verdict_of h x c))

      same_broken : (v : Verdict) → verdict_of h x c ≡ v → spot_of h (c ++ rest) v ≡ spot_of h c v
      unfolding spot_of
      same_broken (Fresh i p) e = refl
      same_broken (Repeat i p) e = refl
      same_broken (Refused r) e = same_place r (λ low. own_offer h x c r low (offer_refused h x c r e))

      same-offered : (scratch : List ℕ) (f : ℕ) → offered h (logged x scratch f) (c ++ rest) ≡ offered h (logged x scratch f) c
      unfolding offered logged_after offer_verdict
      same-offered scratch f = go (rebuilding_wrong h.m h.s scratch f) refl
        where
          go : (b : Bool) → rebuilding_wrong h.m h.s scratch f ≡ b → offered h (logged x scratch f) (c ++ rest) ≡ offered h (logged x scratch f) c
          go true e = sym (offered-beside h (logged x scratch f) (c ++ rest) e) ∙ offered-beside h (logged x scratch f) c e
          go false e = rw (e, same-verdict, same-settled (verdict_of h x c), same_broken (verdict_of h x c) refl)

pub unread : Unread
unread =
    record {
      after-chunk = λ h u c rest w.
          (ap verdict (same_checks c rest w h u), same-payload c rest w, same_index c rest w, same-checked c rest w h u);
      after_offer = λ h u x c rest w.
          (same-verdict c rest w h u x, same_after c rest w h u x, same-offered c rest w h u x);
      between = λ a mid mid' t al tl. read_seen a t al tl mid ∙ sym (read_seen a t al tl mid');
    }
