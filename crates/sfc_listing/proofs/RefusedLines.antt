-- The theorems of the refused lines (specs/RefusedLines), from the lines of a text and what each says. Assumes nothing.
use Rattle.std.specs.Prelude.{Some}
use Prim.Native.Nat.{ℕ, suc, ◌+◌}
use mathlib.Core.Path.{◌≡◌, sym, ap, ap₂, ◌∙◌}
use mathlib.Core.Bool.{false}
use mathlib.Core.List.{List, [], ◌∷◌, ◌++◌, map, append_assoc, append-nil}
use native.Mathlib.Omega.{arith}
use lib.ListN.{length, get_or, take, drop, length-append, length-map}
use lib.Seq.{take_at, get_or_at}
use Rattle.sfc.specs.answer.Numbers.{number_of}
use Rattle.sfc.specs.format.Header.{length_field}
use Rattle.sfc.specs.session.Tallies.{sum, tally_full}
use Rattle.sfc.specs.session.Session.{Session, blank, session_wrong, verdict_of, after}
use Rattle.sfc.specs.session.History.{after_all, verdicts}
use Rattle.sfc.specs.session.SessionTheorems.{count}
use Rattle.sfc_walk.specs.Walk.{length_of_all}
use Rattle.sfc_listing.specs.Listing.{between, session_in, broken_text, broke_at, refused_lines, told_in, head_text, end_text, session_text, listing_of}
use Rattle.sfc_listing.specs.ListingTheorems.{head_in, session_of_file, Accepted, offers_in, after_offers, answers_in, is_refused, lines_of}
use Rattle.sfc_listing.specs.RefusedLines.{break_text, breaks_of, RefusedLines}
use Rattle.sfc.specs.declared.format.header.Head.{Head}
use Rattle.sfc.specs.declared.answer.reason.Reason.{Reason}
use Rattle.sfc.specs.declared.answer.places.BytePlace.{BytePlace}
use Rattle.sfc.specs.declared.session.offer.Verdict.TheVariants.{Refused}
use Rattle.sfc.proofs.Laws.{lent_laws, offer_laws}
use Rattle.sfc_listing.proofs.FileLaws.{good_read}
use Rattle.sfc_listing.proofs.FitLaws.{header_good, few_bytes, is_session}
use Rattle.sfc_listing.proofs.LastLine.{refused_texts, texts_count, session_lines}
use Rattle.sfc_listing.proofs.BreakLaws.{none_told, told-chunks, told-joined, has_place, one-text, all_placed, texts_append, told-few}

-- the text after n others
text_at : (ls first : List (List ℕ)) (w : List ℕ) (more rest : List (List ℕ)) (n : ℕ) → ls ≡ first ++ (w ∷ more) → length first ≡ n → get_or (ls ++ rest) n [] ≡ w
text_at ls first w more rest n e l =
    ap (λ (k : List (List ℕ)). get_or (k ++ rest) n []) e
    ∙ ap (λ (k : List (List ℕ)). get_or k n []) (append_assoc first (w ∷ more) rest)
    ∙ get_or_at first w (more ++ rest) [] n l

module _ (f : List ℕ) (a : Accepted f) where
  blank_right : session_wrong (head_in f) (blank (head_in f)) ≡ false
  blank_right = lent_laws.blank_right (head_in f) (lent_laws.accepted_shape f (head_in f) (good_read f (header_good f a)))

  told : refused_texts (head_in f) (blank (head_in f)) (length_field f + 12) (told_in (head_in f) (between f)) ≡ map break_text (breaks_of f)
  unfolding sum
  told =
      all_placed (head_in f) (blank (head_in f)) (length_field f + 12) (told_in (head_in f) (between f))
      blank_right (omega (arith, told-few (head_in f) (between f), few_bytes f a))

  all_told : length (breaks_of f) ≡ count is_refused (answers_in f)
  all_told =
      sym (length-map (breaks_of f) break_text) ∙ sym (ap length told)
      ∙ texts_count (head_in f) (blank (head_in f)) (length_field f + 12) (told_in (head_in f) (between f))

  lines_exact : take (length (breaks_of f)) (drop 2 (lines_of (listing_of f))) ≡ map break_text (breaks_of f)
  lines_exact =
      let e = ap lines_of (is_session f a) ∙ session_lines (head_in f) (length_field f + 12) (between f) in
      ap (λ (ls : List (List ℕ)). take (length (breaks_of f)) (drop 2 ls)) e
      ∙ take_at _ _ (length (breaks_of f)) (ap length told ∙ length-map (breaks_of f) break_text) ∙ told

  module _ (cs ds : List (List ℕ)) (c : List ℕ) (r : Reason) (et : told_in (head_in f) (between f) ≡ cs ++ (c ∷ ds)) where
    abbrev before : Session
    before = after_all (head_in f) (blank (head_in f)) cs

    abbrev own : ℕ
    own = length_field f + 12 + length_of_all cs

    few-before : tally_full before.tallies ≡ false
    unfolding sum
    few-before =
        offer_laws.not_full before.tallies
        (omega (arith, offer_laws.total-all (head_in f) (blank (head_in f)) cs, ap length et, length-append cs (c ∷ ds), told-few (head_in f) (between f), few_bytes f a))

    -- the lines, cut where the offer's own is
    lines_cut : (p : BytePlace) → verdict_of (head_in f) before c ≡ Refused r → broke_at (head_in f) before c ≡ Some p
        → get_or (lines_of (listing_of f)) (2 + count is_refused (verdicts (head_in f) (blank (head_in f)) cs)) [] ≡ broken_text (number_of r) (own + p.0)
    unfolding refused_texts
    lines_cut p ev ep =
        let h : Head = head_in f in
        let first : List (List ℕ) = refused_texts h (blank h) (length_field f + 12) cs in
        let t : refused_texts h (blank h) (length_field f + 12) (told_in h (between f)) ≡ first ++ (broken_text (number_of r) (own + p.0) ∷ refused_texts h (after h before c) (own + length c) ds)
        = ap (refused_texts h (blank h) (length_field f + 12)) et ∙ texts_append h (blank h) (length_field f + 12) cs (c ∷ ds)
        ∙ ap (λ (l : List (List ℕ)). first ++ (l ++ refused_texts h (after h before c) (own + length c) ds)) (one-text h before c (offer_laws.stays_lent h (blank h) cs blank_right) few-before own r ev p ep) in
        let k : 2 + count is_refused (verdicts h (blank h) cs) ≡ suc (suc (count is_refused (verdicts h (blank h) cs))) = omega arith in
        ap₂ (λ (ls : List (List ℕ)) (n : ℕ). get_or ls n []) (ap lines_of (is_session f a) ∙ session_lines h (length_field f + 12) (between f)) k
        ∙ text_at _ first _ _ _ _ t (texts_count h (blank h) (length_field f + 12) cs)

    each-told : verdict_of (head_in f) before c ≡ Refused r
        → (p : BytePlace) × (broke_at (head_in f) before c ≡ Some p)
        × (get_or (lines_of (listing_of f)) (2 + count is_refused (verdicts (head_in f) (blank (head_in f)) cs)) [] ≡ broken_text (number_of r) (own + p.0))
    each-told ev =
        let q = has_place (head_in f) before c (offer_laws.stays_lent (head_in f) (blank (head_in f)) cs blank_right) few-before r ev in
        (q.0, q.1, lines_cut q.0 ev q.1)

  none_refused : count is_refused (verdicts (head_in f) (blank (head_in f)) (offers_in f)) ≡ 0 → after_offers f ≡ []
      → listing_of f ≡ head_text (head_in f).uuid (head_in f).n (head_in f).m (head_in f).size (head_in f).s ++ end_text (head_in f) (session_of_file f)
  unfolding session_text session_in
  none_refused n e =
      let first : List ℕ = head_text (head_in f).uuid (head_in f).n (head_in f).m (head_in f).size (head_in f).s in
      let none : refused_lines (head_in f) (blank (head_in f)) (length_field f + 12) (told_in (head_in f) (between f)) ≡ []
      = ap (refused_lines (head_in f) (blank (head_in f)) (length_field f + 12)) (told-chunks (head_in f) (between f) e) ∙ none_told (head_in f) (blank (head_in f)) (length_field f + 12) (offers_in f) n in
      is_session f a ∙ ap (λ (l : List ℕ). first ++ l ++ end_text (head_in f) (session_of_file f)) none ∙ ap (λ (l : List ℕ). l ++ end_text (head_in f) (session_of_file f)) (append-nil first)

pub refused_lines_lem : RefusedLines
refused_lines_lem = record {
  offers_joined = λ f. told-joined (head_in f) (between f);
  lines_exact = lines_exact;
  all_told = all_told;
  each-told = each-told;
  none_refused = none_refused;
}
