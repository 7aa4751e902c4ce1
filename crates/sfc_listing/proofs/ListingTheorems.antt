-- The theorems of the listing (specs/ListingTheorems): its session is that of an accepted header, short of 43, and its last line
-- is what a release says. Assumes nothing.
use Prim.Native.Nat.{ℕ, ◌+◌, ◌-◌, ◌*◌, ◌≤◌}
use mathlib.Core.Path.{◌≡◌, refl, sym, ap, ◌∙◌}
use mathlib.Core.Logic.{◌↔◌}
use mathlib.Core.Bool.{true, false}
use mathlib.Core.List.{List, ◌++◌, append_assoc}
use native.Mathlib.Omega.{arith}
use borrow.Author.Tests.{eq-eqb}
use lib.ListN.{length, take, drop, take-append-drop}
use lib.Seq.{drop-drop}
use Rattle.little.specs.Parts.{part}
use Rattle.sfc.specs.answer.Numbers.{number_of}
use Rattle.sfc.specs.answer.Places.{place}
use Rattle.std.specs.Prelude.{Ok}
use Rattle.sfc.specs.format.Header.{length_field, region_of, trailer_of, read_header}
use Rattle.sfc.specs.session.Lent.{Lent, shape_wrong, rebuild_wrong}
use Rattle.sfc.specs.session.Tallies.{sum}
use Rattle.sfc.specs.session.Session.{blank, verdict_of}
use Rattle.sfc.specs.session.History.{after_all, verdicts}
use Rattle.sfc.specs.session.SessionTheorems.{count}
use Rattle.sfc.specs.note.Missing.{missing}
use Rattle.sfc.specs.note.Ranges.{ranges}
use Rattle.sfc_walk.specs.WalkTheorems.{stepped_over, each}
use Rattle.sfc_listing.specs.Listing.{between, session_in, last_word, listing_of}
use Rattle.sfc_listing.specs.ListingTheorems.{head_in, session_of_file, Accepted, offers_in, after_offers, answers_in, is_refused, RoomIn, handed_out, lines_of, last_line, ListingTheorems}
use Rattle.sfc.specs.declared.answer.reason.Reason.{Reason}
use Rattle.sfc.specs.declared.session.offer.Verdict.TheVariants.{Refused}
use Rattle.sfc.proofs.Laws.{lent_laws}
use Rattle.sfc_walk.proofs.WalkTheorems.{walk_theorems}
use Rattle.sfc_listing.proofs.FileLaws.{good_read, trailer-after}
use Rattle.sfc_listing.proofs.FitLaws.{header_good, session_right, few_bytes, is_session}
use Rattle.sfc_listing.proofs.LastLine.{Exactly, session-count, session_last, word_exactly}

session_of_offers : (f : List ℕ) → session_of_file f ≡ after_all (head_in f) (blank (head_in f)) (offers_in f)
unfolding session_in
session_of_offers f = refl

-- what something is equal to exactly if Z holds, its equal is too
carried : {A Z : Type 0} {u v w : A} → u ≡ v → (v ≡ w) ↔ Z → (u ≡ w) ↔ Z
carried p i = (λ e. i.0 (sym p ∙ e), λ z. p ∙ i.1 z)

-- a part, and all from its end on
joined : (f : List ℕ) (at n end : ℕ) → at + n ≡ end → part f at n ++ drop end f ≡ drop at f
joined f at n end e = ap (λ (r : List ℕ). part f at n ++ r) (sym (drop-drop n at f ∙ ap (λ (j : ℕ). drop j f) e)) ∙ take-append-drop n (drop at f)

module _ (f : List ℕ) (a : Accepted f) where
  read : read_header f ≡ Ok (head_in f)
  read = good_read f (header_good f a)

  -- ---- what it is made of

  file_parts : take 8 f ++ region_of f ++ between f ++ trailer_of f ≡ f
  unfolding between
  file_parts =
      let H : ℕ = length_field f in
      let e : 8 + (H + 4) ≡ H + 12 = omega arith in
      let k : H + 12 + (length f - 64 - (H + 12)) ≡ length f - 64 = omega (arith, trailer-after (head_in f) f read) in
      append_assoc (take 8 f ++ region_of f) (between f) (trailer_of f)
      ∙ ap (λ (r : List ℕ). take 8 f ++ region_of f ++ r) (joined f (H + 12) _ _ k)
      ∙ append_assoc (take 8 f) (region_of f) (drop (H + 12) f)
      ∙ ap (λ (r : List ℕ). take 8 f ++ r) (joined f 8 _ _ e)
      ∙ take-append-drop 8 f

  -- ---- its offers

  shape : shape_wrong (head_in f).size (head_in f).n (head_in f).m (head_in f).s ≡ false
  shape = lent_laws.accepted_shape f (head_in f) read

  offers_answered : each stepped_over (verdicts (head_in f) (blank (head_in f)) (offers_in f)) ≡ true
  unfolding sum
  offers_answered = walk_theorems.chunks-answered (head_in f) (blank (head_in f)) (between f) (lent_laws.blank_right (head_in f) shape) (omega (arith, few_bytes f a))

  offers_end : (r : Reason) × (verdict_of (head_in f) (session_of_file f) (after_offers f) ≡ Refused r) × (30 ≤ number_of r) × (number_of r ≤ 32)
  unfolding sum session_in
  offers_end = walk_theorems.end-answered (head_in f) (blank (head_in f)) (between f) (lent_laws.blank_right (head_in f) shape) (omega (arith, few_bytes f a))

  -- ---- its lines

  line-count : length (lines_of (listing_of f)) ≡ 4 + count is_refused (answers_in f) + length (ranges (missing (head_in f).n (session_of_file f).marks))
  unfolding session_in
  line-count = ap (λ (t : List ℕ). length (lines_of t)) (is_session f a) ∙ session-count (head_in f) (length_field f + 12) (between f)

  last_is : last_line (listing_of f) ≡ last_word (head_in f) (session_of_file f)
  unfolding session_in
  last_is = ap (λ (t : List ℕ). last_line t) (is_session f a) ∙ session_last (head_in f) (length_field f + 12) (between f)

  module _ (l : Lent) (room : RoomIn f l) where
    right : rebuild_wrong (head_in f) (session_of_file f).store (session_of_file f).marks l ≡ false
    unfolding rebuild_wrong
    right =
        rw (
          session_right f (header_good f a),
          eq-eqb (length l.scratch) ((head_in f).m * (head_in f).s) room.scratch_long,
          eq-eqb (length l.numbers) 1024 room.numbers_long,
        )

    said : Exactly (last_word (head_in f) (session_of_file f)) (handed_out f l) (place (head_in f).size)
    said = word_exactly (head_in f) (session_of_file f) l right room.output_long

pub listing_theorems : ListingTheorems
listing_theorems = record {
  file_parts = file_parts;
  session_of_offers = session_of_offers;
  offers_answered = offers_answered;
  offers_end = offers_end;
  line-count = line-count;
  last_line_complete = λ f a l r. carried (last_is f a) (said f a l r).whole;
  last_line-hash_differs = λ f a l r. carried (last_is f a) (said f a l r).differs;
  last_line_incomplete = λ f a l r. carried (last_is f a) (said f a l r).incomplete;
}
