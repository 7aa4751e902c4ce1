-- The refused lines of a listing (document 02, [4]): which there are, in which order, what each says, and when there is none.
-- Statements, proved in proofs/RefusedLines.antt, of any accepted file.
use Rattle.std.specs.Prelude.{ℕ, ◌+◌, ◌≡◌, List, [], ◌∷◌, ◌++◌, map, length, get_or, take, drop, Option, Some, None}
use Rattle.sfc.specs.answer.Numbers.{number_of}
use Rattle.sfc.specs.format.Header.{length_field}
use Rattle.sfc.specs.session.Session.{Session, blank, verdict_of, after}
use Rattle.sfc.specs.session.History.{after_all, verdicts}
use Rattle.sfc.specs.session.SessionTheorems.{count}
use Rattle.sfc_walk.specs.Walk.{length_of_all}
use Rattle.sfc_walk.specs.WalkTheorems.{concat}
use Rattle.sfc_listing.specs.Listing.{between, broken_text, broke_at, told_in, head_text, end_text, listing_of}
use Rattle.sfc_listing.specs.ListingTheorems.{head_in, session_of_file, Accepted, offers_in, after_offers}
use Rattle.sfc_listing.specs.ListingTheorems.{answers_in, is_refused, lines_of}
use Rattle.sfc.specs.declared.format.header.Head.{Head}
use Rattle.sfc.specs.declared.answer.reason.Reason.{Reason}
use Rattle.sfc.specs.declared.answer.places.BytePlace.{BytePlace}
use Rattle.sfc.specs.declared.session.offer.Verdict.{Verdict}
use Rattle.sfc.specs.declared.session.offer.Verdict.TheVariants.{Fresh, Repeat, Refused}

-- a refused chunk: the number, and the place in the file of the byte where it broke
pub record Break : Type 0 where
  pub number : ℕ
  pub place : ℕ

abbrev pub break_text : Break → List ℕ
break_text b = broken_text b.number b.place

-- that of an offer, if it has one: the chunk's own place `at` and the place in it together
unfoldable pub break_of : ℕ → Verdict → Option BytePlace → List Break
break_of at (Fresh i p) s = []
break_of at (Repeat i p) s = []
break_of at (Refused r) None = []
break_of at (Refused r) (Some p) = record { number = number_of r; place = at + p.0 } ∷ []

-- those of offers that stand one after the other in the file, in the order met
unfoldable pub breaks_in : Head → Session → ℕ → List (List ℕ) → List Break
breaks_in h x at [] = []
breaks_in h x at (c ∷ cs) = break_of at (verdict_of h x c) (broke_at h x c) ++ breaks_in h (after h x c) (at + length c) cs

-- and of a file: a blank session, and the first chunk after the region
abbrev pub breaks_of : List ℕ → List Break
breaks_of f = breaks_in (head_in f) (blank (head_in f)) (length_field f + 12) (told_in (head_in f) (between f))

pub record RefusedLines : Type 0 where
  -- The offers are all bytes between region and trailer, cut where each chunk ends: none is passed over.
  pub offers_joined : (f : List ℕ) → concat (told_in (head_in f) (between f)) ≡ between f
  -- The lines from the third on are the refusals, in the order met, each with its number and its place in the file,
  pub lines_exact : (f : List ℕ) → Accepted f
      → take (length (breaks_of f)) (drop 2 (lines_of (listing_of f))) ≡ map break_text (breaks_of f)
  -- and none is left out: there are as many as offers that are refused.
  pub all_told : (f : List ℕ) → Accepted f → length (breaks_of f) ≡ count is_refused (answers_in f)
  -- The same of one offer: where c is refused after the offers cs, the offer says where in c, and the line comes after two and one
  -- for each refusal before it. With no line more than `line-count` says, these are all.
  pub each-told : (f : List ℕ) → Accepted f → (cs ds : List (List ℕ)) (c : List ℕ) (r : Reason)
      → told_in (head_in f) (between f) ≡ cs ++ (c ∷ ds) → verdict_of (head_in f) (after_all (head_in f) (blank (head_in f)) cs) c ≡ Refused r
      → (p : BytePlace) × (broke_at (head_in f) (after_all (head_in f) (blank (head_in f)) cs) c ≡ Some p)
      × (get_or (lines_of (listing_of f)) (2 + count is_refused (verdicts (head_in f) (blank (head_in f)) cs)) []
      ≡ broken_text (number_of r) (length_field f + 12 + length_of_all cs + p.0))
  -- Where each chunk is fresh or a repeat, and the trailer comes right after the last, the listing has no such line.
  pub none_refused : (f : List ℕ) → Accepted f → count is_refused (verdicts (head_in f) (blank (head_in f)) (offers_in f)) ≡ 0
      → after_offers f ≡ []
      → listing_of f
      ≡ head_text (head_in f).uuid (head_in f).n (head_in f).m (head_in f).size (head_in f).s ++ end_text (head_in f) (session_of_file f)
