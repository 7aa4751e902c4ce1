-- Demand 1 for the listing, proved (specs/Demand1). Assumes nothing.
use Rattle.std.specs.Prelude.{Result, Ok, Err}
use Prim.Native.Nat.{ℕ, ◌+◌, ◌≤◌}
use mathlib.Core.Path.{◌≡◌, refl, sym, ap, ◌∙◌}
use mathlib.Core.Bool.{true, false}
use mathlib.Core.List.{List, [], ◌∷◌}
use native.Mathlib.Omega.{arith}
use borrow.Author.Tests.{ltb-false}
use lib.Dec.{lit≤}
use lib.ListN.{length}
use Rattle.little.specs.Parts.{put}
use Rattle.little.specs.Runs.{any}
use Rattle.little.specs.Said.{says}
use Rattle.sfc.specs.answer.Said.{said_by_number, written_said}
use Rattle.sfc.specs.answer.Numbers.{Check, checked, verdict, reason_of, number_of, Checked}
use Rattle.sfc.specs.demand.Demand1.{Leaves, Ends}
use Rattle.sfc.specs.format.Header.{length_field, region_of, head_of}
use Rattle.sfc.specs.give.HandOut.{content_checks}
use Rattle.sfc.specs.session.Session.{Session}
use Rattle.sfc.specs.declared.format.header.Head.{Head}
use Rattle.sfc.specs.declared.answer.reason.Reason.{Reason}
use Rattle.sfc_listing.specs.Text.{text}
use Rattle.sfc_listing.specs.Listing.{between, refused_word, last_word, session_text, program_checks, refused_text, listing_of, Desk, cleared, listing_checks, listed}
use Rattle.sfc_listing.specs.Demand1.{ListingDemand}
use Rattle.sfc.proofs.Laws.{check_laws}
use Rattle.sfc_listing.proofs.FitLaws.{refused_long, listing_fits}

-- the verdict in an answer
abbrev written_seen : Result ℕ Reason → Checked
written_seen (Ok k) = (Ok tt)
written_seen (Err r) = Err r

module _ (f : List ℕ) (d : Desk) (out : List ℕ) where
  told : (v : Checked) → written_seen (listed f d out).answer ≡ v → verdict (listing_checks d out) ≡ v
  unfolding listed
  told v e = check_laws.tells written_seen Err (Ok (length (listing_of f))) (λ q. refl) refl (listing_checks d out) v e

  listing_says : written_said (listed f d out).answer ≡ said_by_number (listing_checks d out) (says "bytes" (length (listing_of f) ∷ []))
  unfolding listed
  listing_says = check_laws.by_number written_said Err (Ok (length (listing_of f))) (λ r. refl) (listing_checks d out) refl

  listing_refused : (r : Reason) → (listed f d out).answer ≡ Err r → Leaves r (71 ∷ 52 ∷ []) out (listed f d out).output × ((listed f d out).desk ≡ d)
  unfolding listed any
  listing_refused r e =
      let t = told (Err r) (ap written_seen e) in
      (check_laws.leaves (listing_checks d out) r (71 ∷ 52 ∷ []) out (put out 0 (listing_of f)) (refl, (refl, tt)) t, check_laws.refused_all (λ (q : Reason). d) (listing_checks d out) (cleared d) r t)

  listing_ends : (k : ℕ) → (listed f d out).answer ≡ Ok k → Ends k out (listed f d out).output × ((listed f d out).desk ≡ cleared d)
  unfolding listed
  listing_ends k e =
      let cs : List Check = listing_checks d out in
      let t = told (Ok tt) (ap written_seen e) in
      let g : ◌≡◌ {A = Result ℕ Reason} (Ok (length (listing_of f))) (Ok k) = sym (check_laws.good_all Err cs _ t) ∙ e in
      let q : length (listing_of f) ≡ k = cc in
      (check_laws.ends cs out (listing_of f) k t q (omega (arith, listing_fits f, ltb-false (length out) 65536 (check_laws.passed cs t).1.0)), check_laws.good_all (λ (r : Reason). d) cs (cleared d) t)

file_refused : (f : List ℕ) (r : Reason) → verdict (program_checks (head_of (region_of f)) f) ≡ Err r
    → (listing_of f ≡ refused_text (number_of r)) × (10 ≤ number_of r) × (number_of r ≤ 23)
unfolding listing_of
file_refused f r e =
    let h : Head = head_of (region_of f) in
    let n = check_laws.number_in (λ (k : ℕ). (10 ≤ k) × (k ≤ 23)) (program_checks h f) r
    ((lit≤ tt, lit≤ tt), ((lit≤ tt, lit≤ tt), ((lit≤ tt, lit≤ tt), ((lit≤ tt, lit≤ tt), ((lit≤ tt, lit≤ tt), ((lit≤ tt, lit≤ tt), ((lit≤ tt, lit≤ tt), ((lit≤ tt, lit≤ tt), ((lit≤ tt, lit≤ tt), ((lit≤ tt, lit≤ tt), ((lit≤ tt, lit≤ tt), ((lit≤ tt, lit≤ tt), ((lit≤ tt, lit≤ tt), ((lit≤ tt, lit≤ tt), ((lit≤ tt, lit≤ tt), ((lit≤ tt, lit≤ tt), ((lit≤ tt, lit≤ tt), tt))))))))))))))))) e in
    (check_laws.refused_all (λ (q : Reason). refused_text (number_of q)) (program_checks h f) (session_text h (length_field f + 12) (between f)) r e, n.0, n.1)

-- the words differ, so the last one tells how the checks ended
decided_good : (cs : List Check) → checked cs refused_word (text "complete") ≡ text "complete" → verdict cs ≡ Ok tt
unfolding text
decided_good [] e = refl
decided_good ((true, k) ∷ cs) e = absurd (omega (arith, refused_long (reason_of k), ap length e))
decided_good ((false, k) ∷ cs) e = decided_good cs e

complete_only : (h : Head) (x : Session) → last_word h x ≡ text "complete" → verdict (content_checks h x.store x.marks) ≡ Ok tt
unfolding last_word
complete_only h x e = decided_good (content_checks h x.store x.marks) e

pub listing_demand : ListingDemand
listing_demand = record {
  listing_says = listing_says;
  listing_refused = listing_refused;
  listing_ends = listing_ends;
  listing_fits = listing_fits;
  file_refused = file_refused;
  complete_only = complete_only;
}
