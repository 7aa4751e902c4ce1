-- No listing is longer than the room that it is given: every line at its longest, a refused line for each 84 bytes of the file, and at
-- most 512 missing ranges. Assumes nothing.
use Rattle.std.specs.Prelude.{Option, Some, None, Ok}
use Prim.Native.Nat.{ℕ, zero, suc, ◌+◌, ◌*◌, ◌/◌, ◌%◌, ◌≤◌}
use mathlib.Core.Path.{◌≡◌, refl, ap}
use mathlib.Core.Bool.{Bool, true, false, cond}
use mathlib.Core.List.{List, [], ◌∷◌, ◌++◌}
use native.Mathlib.Omega.{arith}
use borrow.Author.Tests.{ltb-false}
use lib.Dec.{ltb, eqb}
use lib.ListN.{length, take, drop, length-append, length-take, length-drop}
use lib.Seq.{length-take-le}
use Rattle.little.specs.Parts.{part}
use Rattle.little.proofs.Laws.{test_laws, part_laws}
use Rattle.sfc.specs.answer.Numbers.{Check, checked, verdict, passes, reason_of, number_of}
use Rattle.sfc.specs.format.Header.{length_field, region_of, head_of, header_checks}
use Rattle.sfc.specs.format.Chunk.{chunk_length, measure_checks}
use Rattle.sfc.specs.session.Marks.{held_count, barred_count}
use Rattle.sfc.specs.session.Lent.{marks_wrong, lent_wrong}
use Rattle.sfc.specs.session.Session.{Session, blank, session_wrong, verdict_of, after}
use Rattle.sfc.specs.session.History.{after_all}
use Rattle.sfc.specs.note.Missing.{missing}
use Rattle.sfc.specs.note.Ranges.{Range, ranges}
use Rattle.sfc.specs.give.HandOut.{content_checks}
use Rattle.sfc_walk.specs.Walk.{chunks_in, chunks_of, length_of_all}
use Rattle.sfc_listing.specs.Text.{text, digits, decimal, hex, line}
use Rattle.sfc_listing.specs.Listing.{between, session_after, session_in, refused_text, refusal_line, verdict_line, broke_at, refused_line, refused_lines, stop_in, told_in, uuid_line, shape_line, counts_line, head_text, missing_line, missing_lines, refused_word, last_word, end_text, session_text, program_checks, listing_of}
use Rattle.sfc.specs.declared.format.header.Head.{Head}
use Rattle.sfc.specs.declared.answer.reason.Reason.{Reason}
use Rattle.sfc.specs.declared.session.offer.Verdict.{Verdict}
use Rattle.sfc.specs.declared.session.offer.Verdict.TheVariants.{Fresh, Repeat, Refused}
use Rattle.sfc.proofs.Laws.{check_laws, lent_laws, measure_laws, offer_laws}
use Rattle.sfc.proofs.Theorems.{ranges-few}
use Rattle.sfc_walk.proofs.WalkTheorems.{walk_theorems}
use Rattle.sfc_listing.proofs.FileLaws.{width_from, good_read}
use Rattle.sfc_listing.proofs.TellLaws.{lines_append}
use Rattle.sfc.specs.declared.answer.places.BytePlace.{BytePlace}

-- ---- pieces, and one after the other

both : (xs ys : List ℕ) (a b : ℕ) → length xs ≤ a → length ys ≤ b → length (xs ++ ys) ≤ a + b
both xs ys a b h k = omega (arith, length-append xs ys)

either : (b : Bool) (xs ys : List ℕ) (k : ℕ) → length xs ≤ k → length ys ≤ k → length (cond b xs ys) ≤ k
either true xs ys k h g = h
either false xs ys k h g = g

-- a text that checks decide
decided : (cs : List Check) (refused : Reason → List ℕ) (good : List ℕ) (k : ℕ) → ((r : Reason) → length (refused r) ≤ k) → (verdict cs ≡ Ok tt → length good ≤ k)
    → length (checked cs refused good) ≤ k
decided [] refused good k h g = g refl
decided ((true, n) ∷ cs) refused good k h g = h (reason_of n)
decided ((false, n) ∷ cs) refused good k h g = decided cs refused good k h g

digits_short : (k v : ℕ) → length (digits k v) ≤ k
unfolding digits
digits_short zero v = omega arith
digits_short (suc k) v =
    either (ltb v 10) ((48 + v) ∷ []) (digits k (v / 10) ++ ((48 + v % 10) ∷ [])) (suc k) (omega arith)
    (omega (arith, length-append (digits k (v / 10)) ((48 + v % 10) ∷ []), digits_short k (v / 10)))

hex_long : (b : List ℕ) → length (hex b) ≡ 2 * length b
unfolding hex
hex_long [] = refl
hex_long (x ∷ b) = omega (arith, hex_long b)

-- a word and its value, and the same after other text
named : (word : List ℕ) (v a : ℕ) → length word ≡ a → length (word ++ decimal v) ≤ a + 20
named word v a e = both word (decimal v) a 20 (omega arith) (digits_short 20 v)

and_named : (front word : List ℕ) (v a b : ℕ) → length front ≤ a → length word ≡ b → length (front ++ word ++ decimal v) ≤ a + b + 20
and_named front word v a b h e = both (front ++ word) (decimal v) (a + b) 20 (both front word a b h (omega arith)) (digits_short 20 v)

ended : (t : List ℕ) (k : ℕ) → length t ≤ k → length (line t) ≤ k + 1
ended t k h = both t (10 ∷ []) k 1 h (omega arith)

-- ---- the lines

uuid_short : (uuid : List ℕ) → length uuid ≤ 16 → length (uuid_line uuid) ≤ 42
unfolding text
uuid_short uuid h = ended (text "sfc uuid=" ++ hex uuid) 41 (both (text "sfc uuid=") (hex uuid) 9 32 (omega arith) (omega (arith, hex_long uuid)))

shape_short : (n m size s : ℕ) → length (shape_line n m size s) ≤ 111
unfolding text
shape_short n m size s =
    let shown₁ : List ℕ = text "blocks=" ++ decimal n in
    let shown₂ : List ℕ = shown₁ ++ text " recovery=" ++ decimal m in
    let shown₃ : List ℕ = shown₂ ++ text " size=" ++ decimal size in
    ended (shown₃ ++ text " block=" ++ decimal s) 110
    (and_named shown₃ (text " block=") s 83 7
    (and_named shown₂ (text " size=") size 57 6 (and_named shown₁ (text " recovery=") m 27 10 (named (text "blocks=") n 7 refl) refl) refl) refl)

counts_short : (held barred : ℕ) → length (counts_line held barred) ≤ 54
unfolding text
counts_short held barred =
    let shown : List ℕ = text "held=" ++ decimal held in
    ended (shown ++ text " barred=" ++ decimal barred) 53 (and_named shown (text " barred=") barred 25 8 (named (text "held=") held 5 refl) refl)

missing_short : (rs : List Range) → length (missing_lines rs) ≤ 50 * length rs
unfolding missing_lines text
missing_short [] = omega arith
missing_short (r ∷ rs) =
    let first : List ℕ = text "missing " ++ decimal r.first in
    let one : length (missing_line r) ≤ 50 =
    ended (first ++ text "-" ++ decimal r.last) 49 (and_named first (text "-") r.last 28 1 (named (text "missing ") r.first 8 refl) refl) in
    omega (arith, length-append (missing_line r) (missing_lines rs), missing_short rs)

refused_short : (number : ℕ) → length (refused_text number) ≤ 29
unfolding refused_text text
refused_short number = ended (text "refused " ++ decimal number) 28 (named (text "refused ") number 8 refl)

-- ---- the refused lines

refusal_short : (at : ℕ) (r : Reason) (s : Option BytePlace) → length (refusal_line at r s) ≤ 50
unfolding refusal_line text
refusal_short at r (Some p) =
    let shown : List ℕ = text "refused " ++ decimal (number_of r) in
    ended (shown ++ text " " ++ decimal (at + p.0)) 49 (and_named shown (text " ") (at + p.0) 28 1 (named (text "refused ") (number_of r) 8 refl) refl)
refusal_short at r None = omega (arith, refused_short (number_of r))

verdict_short : (at : ℕ) (v : Verdict) (s : Option BytePlace) → length (verdict_line at v s) ≤ 50
unfolding verdict_line
verdict_short at (Fresh i p) s = omega arith
verdict_short at (Repeat i p) s = omega arith
verdict_short at (Refused r) s = refusal_short at r s

module _ (h : Head) where
  -- a chunk has 84 bytes at least
  chunks_short : (most : ℕ) (x : Session) (at : ℕ) (b : List ℕ) → 84 * length (refused_lines h x at (chunks_in most h b)) ≤ 50 * length_of_all (chunks_in most h b)
  unfolding chunks_in refused_lines length_of_all
  chunks_short zero x at b = omega arith
  chunks_short (suc most) x at b =
      let c : List ℕ = take (chunk_length b) b in
      go (passes (measure_checks h b)) refl (chunks_short most (after h x c) (at + length c) (drop (chunk_length b) b))
    where
      go : (t : Bool) → passes (measure_checks h b) ≡ t
          → 84 * length (refused_lines h (after h x (take (chunk_length b) b)) (at + length (take (chunk_length b) b)) (chunks_in most h (drop (chunk_length b) b))) ≤ 50 * length_of_all (chunks_in most h (drop (chunk_length b) b))
          → 84 * length (refused_lines h x at (cond t (take (chunk_length b) b ∷ chunks_in most h (drop (chunk_length b) b)) [])) ≤ 50 * length_of_all (cond t (take (chunk_length b) b ∷ chunks_in most h (drop (chunk_length b) b)) [])
      go true e r =
          let c : List ℕ = take (chunk_length b) b in
          omega (arith, length-take-le (chunk_length b) b (measure_laws.front-there h b e), verdict_short at (verdict_of h x c) (broke_at h x c), length-append (refused_line h x at c) (refused_lines h (after h x (take (chunk_length b) b)) (at + length (take (chunk_length b) b)) (chunks_in most h (drop (chunk_length b) b))))
      go false e r = omega arith

  stop_short : (x : Session) (at : ℕ) (c : List ℕ) → length (refused_lines h x at (stop_in c)) ≤ 50
  unfolding stop_in refused_lines
  stop_short x at [] = omega arith
  stop_short x at (a ∷ c) = omega (arith, verdict_short at (verdict_of h x (a ∷ c)) (broke_at h x (a ∷ c)), length-append (refused_line h x at (a ∷ c)) [])

  told_short : (x : Session) (at : ℕ) (b : List ℕ) → length b ≤ 65536 → length (refused_lines h x at (told_in h b)) ≤ 39060
  unfolding told_in
  told_short x at b l =
      let cs : List (List ℕ) = chunks_of h b in
      let stop : List (List ℕ) = stop_in (drop (length_of_all cs) b) in
      omega (
        arith,
        ap length (lines_append h x at cs stop),
        length-append (refused_lines h x at cs) (refused_lines h (after_all h x cs) (at + length_of_all cs) stop),
        chunks_short (length b) x at b,
        walk_theorems.end_inside h b,
        stop_short (after_all h x cs) (at + length_of_all cs) (drop (length_of_all cs) b),
      )

-- longer than the word for no refusal
pub refused_long : (r : Reason) → (10 ≤ length (refused_word r)) × (length (refused_word r) ≤ 12)
unfolding refused_word text
refused_long r = go (eqb (number_of r) 51) refl
  where
    go : (b : Bool) → eqb (number_of r) 51 ≡ b → (10 ≤ length (refused_word r)) × (length (refused_word r) ≤ 12)
    go true e = rw e (omega arith, omega arith)
    go false e = rw e (omega arith, omega arith)

word_short : (h : Head) (x : Session) → length (last_word h x) ≤ 12
unfolding last_word text
word_short h x = decided (content_checks h x.store x.marks) refused_word (text "complete") 12 (λ r. (refused_long r).1) (λ e. omega arith)

-- ---- the whole

head_short : (uuid : List ℕ) (n m size s : ℕ) → length uuid ≤ 16 → length (head_text uuid n m size s) ≤ 153
unfolding head_text
head_short uuid n m size s u = both (uuid_line uuid) (shape_line n m size s) 42 111 (uuid_short uuid u) (shape_short n m size s)

module _ (h : Head) (x : Session) (right : session_wrong h x ≡ false) where
  abbrev rs : List Range
  rs = ranges (missing h.n x.marks)

  marks_right : marks_wrong h.size h.n h.m h.s x.marks ≡ false
  unfolding lent_wrong
  marks_right = (test_laws.or-false _ _ right).0

  few-ranges : length rs ≤ 512
  few-ranges = omega (arith, ranges-few.ranges-few h.n x.marks, (lent_laws.right_marks h.size h.n h.m h.s x.marks marks_right).shape.n_most)

  end_short : length (end_text h x) ≤ 25667
  unfolding end_text
  end_short =
      let counts : List ℕ = counts_line (held_count x.marks) (barred_count x.marks) in
      both (counts ++ missing_lines rs) (line (last_word h x)) 25654 13
      (both counts (missing_lines rs) 54 25600 (counts_short (held_count x.marks) (barred_count x.marks)) (omega (arith, missing_short rs, few-ranges)))
      (ended (last_word h x) 12 (word_short h x))

session_short : (h : Head) (at : ℕ) (b : List ℕ) → length h.uuid ≤ 16 → length b ≤ 65536 → session_wrong h (session_after h b) ≡ false
    → length (session_text h at b) ≤ 64880
unfolding session_text
session_short h at b u l right =
    let first : List ℕ = head_text h.uuid h.n h.m h.size h.s in
    let told : List ℕ = refused_lines h (blank h) at (told_in h b) in
    both (first ++ told) (end_text h (session_after h b)) 39213 25667
    (both first told 153 39060 (head_short h.uuid h.n h.m h.size h.s u) (told_short h (blank h) at b l)) (end_short h (session_after h b) right)

part_short : (xs : List ℕ) (at n : ℕ) → length (part xs at n) ≤ length xs
part_short xs at n = omega (arith, length-take n (drop at xs), length-drop at xs)

module _ (f : List ℕ) where
  abbrev head : Head
  head = head_of (region_of f)

  pub header_good : verdict (program_checks head f) ≡ Ok tt → verdict (header_checks f) ≡ Ok tt
  header_good e =
      let limit : List Check = (ltb 32768 ((head.n + head.m) * head.s), 15) ∷ [] in
      check_laws.front_good (header_checks f) limit (check_laws.all-passed (header_checks f ++ limit) (check_laws.passed (program_checks head f) e).1)

  pub session_right : verdict (header_checks f) ≡ Ok tt → session_wrong head (session_in head f) ≡ false
  unfolding session_in
  session_right g = offer_laws.stays_lent head (blank head) (chunks_of head (between f)) (lent_laws.blank_right head (lent_laws.accepted_shape f head (good_read f g)))

  in_file : length (between f) ≤ length f
  unfolding between
  in_file = part_short f (length_field f + 12) (width_from f (length_field f))

  pub few_bytes : verdict (program_checks head f) ≡ Ok tt → length (between f) ≤ 65536
  few_bytes e = omega (arith, ltb-false 65536 (length f) (check_laws.passed (program_checks head f) e).0, in_file)

  pub is_session : verdict (program_checks head f) ≡ Ok tt → listing_of f ≡ session_text head (length_field f + 12) (between f)
  unfolding listing_of
  is_session = check_laws.good_all (λ (r : Reason). refused_text (number_of r)) (program_checks head f) (session_text head (length_field f + 12) (between f))

  listing_short : verdict (program_checks head f) ≡ Ok tt → length (session_text head (length_field f + 12) (between f)) ≤ 65536
  unfolding session_in
  listing_short e = omega (arith, session_short head (length_field f + 12) (between f) (part_laws.length_cut (region_of f) 4 16) (few_bytes e) (session_right (header_good e)))

  pub listing_fits : length (listing_of f) ≤ 65536
  unfolding listing_of
  listing_fits =
      decided (program_checks head f) (λ (r : Reason). refused_text (number_of r)) (session_text head (length_field f + 12) (between f)) 65536
      (λ r. omega (arith, refused_short (number_of r))) listing_short
