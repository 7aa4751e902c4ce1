-- The lines of a listing, none of which has a line feed inside, and what the last one says of turn and release. Assumes nothing.
use Rattle.std.specs.Prelude.{Option, Result, Some, None, Ok, Err}
use Prim.Native.Nat.{ℕ, zero, suc, ◌+◌, ◌/◌, ◌%◌, ◌≤◌}
use mathlib.Core.Path.{◌≡◌, refl, sym, ap, ◌∙◌}
use mathlib.Core.Logic.{◌↔◌}
use mathlib.Core.Bool.{Bool, true, false, cond}
use mathlib.Core.List.{List, [], ◌∷◌, ◌++◌, append_assoc, append-nil}
use native.Mathlib.Omega.{arith}
use borrow.Author.Tests.{ne_eqb}
use lib.Dec.{ltb, eqb}
use lib.ListN.{length, length-append}
use Rattle.little.specs.Runs.{any}
use Rattle.little.proofs.Laws.{test_laws}
use Rattle.sfc.specs.answer.Numbers.{Check, number_of, reason_of}
use Rattle.sfc.specs.answer.Places.{place, complete}
use Rattle.sfc.specs.session.Marks.{held_count, barred_count}
use Rattle.sfc.specs.session.Lent.{Lent, rebuild_wrong}
use Rattle.sfc.specs.session.Session.{Session, blank, verdict_of, after}
use Rattle.sfc.specs.session.History.{verdicts}
use Rattle.sfc.specs.session.SessionTheorems.{count}
use Rattle.sfc.specs.note.Missing.{missing}
use Rattle.sfc.specs.note.Ranges.{Range, ranges}
use Rattle.sfc.specs.give.HandOut.{content_checks}
use Rattle.sfc.specs.give.Turns.{Turning, turn, release}
use Rattle.sfc_listing.specs.Text.{text, digits, decimal, hex_digit, hex, line}
use Rattle.sfc_listing.specs.Listing.{session_after, refused_text, broken_text, refusal_line, verdict_line, broke_at, refused_line, refused_lines, told_in, head_text, missing_lines, refused_word, last_word, end_text, session_text}
use Rattle.sfc_listing.specs.ListingTheorems.{is_refused, longer, lines_of, last_of, last_line}
use Rattle.sfc.specs.declared.format.header.Head.{Head}
use Rattle.sfc.specs.declared.answer.places.BytePlace.{BytePlace}
use Rattle.sfc.specs.declared.answer.reason.Reason.{Reason}
use Rattle.sfc.specs.declared.session.offer.Verdict.{Verdict}
use Rattle.sfc.specs.declared.session.offer.Verdict.TheVariants.{Fresh, Repeat, Refused as NotTaken}
use Rattle.sfc.proofs.Laws.{give_laws}
use Rattle.sfc.specs.declared.give.release.Complete.{Complete}

-- ---- texts without a line feed

abbrev Plain : List ℕ → Type 0
Plain w = any (λ (c : ℕ). eqb c 10) w ≡ false

both : (xs ys : List ℕ) → Plain xs → Plain ys → Plain (xs ++ ys)
unfolding any
both [] ys p q = q
both (x ∷ xs) ys p q = let o = test_laws.or-false (eqb x 10) (any (λ (c : ℕ). eqb c 10) xs) p in rw o.0 (both xs ys o.1 q)

either : (b : Bool) (xs ys : List ℕ) → Plain xs → Plain ys → Plain (cond b xs ys)
either true xs ys p q = p
either false xs ys p q = q

no_feed : (c : ℕ) → 48 ≤ c → eqb c 10 ≡ false
no_feed c h = ne_eqb c 10 (λ e. omega arith)

one : (c : ℕ) → 48 ≤ c → Plain (c ∷ [])
unfolding any
one c h = rw (no_feed c h)

digits-plain : (k v : ℕ) → Plain (digits k v)
unfolding digits any
digits-plain zero v = refl
digits-plain (suc k) v =
    either (ltb v 10) ((48 + v) ∷ []) (digits k (v / 10) ++ ((48 + v % 10) ∷ [])) (one (48 + v) (omega arith))
    (both (digits k (v / 10)) ((48 + v % 10) ∷ []) (digits-plain k (v / 10)) (one (48 + v % 10) (omega arith)))

hex_digit_lem : (v : ℕ) → eqb (hex_digit v) 10 ≡ false
hex_digit_lem v = no_feed (hex_digit v) (go (ltb v 10))
  where
    go : (b : Bool) → 48 ≤ cond b (48 + v) (87 + v)
    go true = omega arith
    go false = omega arith

hex-plain : (b : List ℕ) → Plain (hex b)
unfolding hex any
hex-plain [] = refl
hex-plain (x ∷ b) = rw (hex_digit_lem (x / 16), hex_digit_lem (x % 16)) (hex-plain b)

-- a name and its value, and the same after other text
named : (word : List ℕ) (v : ℕ) → Plain word → Plain (word ++ decimal v)
named word v p = both word (decimal v) p (digits-plain 20 v)

and_named : (front word : List ℕ) (v : ℕ) → Plain front → Plain word → Plain (front ++ word ++ decimal v)
and_named front word v p q = both (front ++ word) (decimal v) (both front word p q) (digits-plain 20 v)

-- ---- a text's lines, the first first

first-line : (w t : List ℕ) → Plain w → lines_of (line w ++ t) ≡ w ∷ lines_of t
unfolding lines_of longer any
first-line [] t p = refl
first-line (c ∷ w) t p = let o = test_laws.or-false (eqb c 10) (any (λ (c : ℕ). eqb c 10) w) p in rw (o.0, first-line w t o.1)

last-of : (ls : List (List ℕ)) (w : List ℕ) → last_of (ls ++ (w ∷ [])) ≡ w
unfolding last_of
last-of [] w = refl
last-of (l ∷ []) w = refl
last-of (l ∷ k ∷ ls) w = last-of (k ∷ ls) w

-- ---- the lines of a listing

abbrev uuid_text : List ℕ → List ℕ
uuid_text uuid = text "sfc uuid=" ++ hex uuid

abbrev shape_text : ℕ → ℕ → ℕ → ℕ → List ℕ
shape_text n m size s = text "blocks=" ++ decimal n ++ text " recovery=" ++ decimal m ++ text " size=" ++ decimal size ++ text " block=" ++ decimal s

abbrev counts_text : ℕ → ℕ → List ℕ
counts_text held barred = text "held=" ++ decimal held ++ text " barred=" ++ decimal barred

abbrev range_text : Range → List ℕ
range_text r = text "missing " ++ decimal r.first ++ text "-" ++ decimal r.last

abbrev range_texts : List Range → List (List ℕ)
range_texts [] = []
range_texts (r ∷ rs) = range_text r ∷ range_texts rs

texts_long : (rs : List Range) → length (range_texts rs) ≡ length rs
texts_long [] = refl
texts_long (r ∷ rs) = ap suc (texts_long rs)

uuid_plain : (uuid : List ℕ) → Plain (uuid_text uuid)
unfolding text any
uuid_plain uuid = both (text "sfc uuid=") (hex uuid) refl (hex-plain uuid)

shape_plain : (n m size s : ℕ) → Plain (shape_text n m size s)
unfolding text any
shape_plain n m size s =
    let shown₁ : List ℕ = text "blocks=" ++ decimal n in
    let shown₂ : List ℕ = shown₁ ++ text " recovery=" ++ decimal m in
    let shown₃ : List ℕ = shown₂ ++ text " size=" ++ decimal size in
    and_named shown₃ (text " block=") s (and_named shown₂ (text " size=") size (and_named shown₁ (text " recovery=") m (named (text "blocks=") n refl) refl) refl) refl

counts-plain : (held barred : ℕ) → Plain (counts_text held barred)
unfolding text any
counts-plain held barred = and_named (text "held=" ++ decimal held) (text " barred=") barred (named (text "held=") held refl) refl

range-plain : (r : Range) → Plain (range_text r)
unfolding text any
range-plain r = and_named (text "missing " ++ decimal r.first) (text "-") r.last (named (text "missing ") r.first refl) refl

head_lines : (uuid : List ℕ) (n m size s : ℕ) (t : List ℕ) → lines_of (head_text uuid n m size s ++ t) ≡ uuid_text uuid ∷ shape_text n m size s ∷ lines_of t
unfolding head_text
head_lines uuid n m size s t =
    let a : List ℕ = line (uuid_text uuid) in
    let b : List ℕ = line (shape_text n m size s) in
    ap lines_of (append_assoc a b t)
    ∙ first-line (uuid_text uuid) (b ++ t) (uuid_plain uuid)
    ∙ ap (λ (ls : List (List ℕ)). uuid_text uuid ∷ ls) (first-line (shape_text n m size s) t (shape_plain n m size s))

range_lines : (rs : List Range) (t : List ℕ) → lines_of (missing_lines rs ++ t) ≡ range_texts rs ++ lines_of t
unfolding missing_lines
range_lines [] t = refl
range_lines (r ∷ rs) t =
    ap lines_of (append_assoc (line (range_text r)) (missing_lines rs) t)
    ∙ first-line (range_text r) (missing_lines rs ++ t) (range-plain r)
    ∙ ap (λ (ls : List (List ℕ)). range_text r ∷ ls) (range_lines rs t)

-- ---- the refused lines

abbrev refusal_text : ℕ → Reason → Option BytePlace → List ℕ
refusal_text at r (Some p) = broken_text (number_of r) (at + p.0)
refusal_text at r None = text "refused " ++ decimal (number_of r)

unfoldable pub verdict_texts : ℕ → Verdict → Option BytePlace → List (List ℕ)
verdict_texts at (Fresh i p) s = []
verdict_texts at (Repeat i p) s = []
verdict_texts at (NotTaken r) s = refusal_text at r s ∷ []

unfoldable pub refused_texts : Head → Session → ℕ → List (List ℕ) → List (List ℕ)
refused_texts h x at [] = []
refused_texts h x at (c ∷ cs) = verdict_texts at (verdict_of h x c) (broke_at h x c) ++ refused_texts h (after h x c) (at + length c) cs

refusal_plain : (at : ℕ) (r : Reason) (s : Option BytePlace) → Plain (refusal_text at r s)
unfolding text any
refusal_plain at r (Some p) = and_named (text "refused " ++ decimal (number_of r)) (text " ") (at + p.0) (named (text "refused ") (number_of r) refl) refl
refusal_plain at r None = named (text "refused ") (number_of r) refl

refusal_line_lem : (at : ℕ) (r : Reason) (s : Option BytePlace) → refusal_line at r s ≡ line (refusal_text at r s)
unfolding refusal_line refused_text
refusal_line_lem at r (Some p) = refl
refusal_line_lem at r None = refl

verdict_lines : (at : ℕ) (v : Verdict) (s : Option BytePlace) (t : List ℕ) → lines_of (verdict_line at v s ++ t) ≡ verdict_texts at v s ++ lines_of t
unfolding verdict_line verdict_texts
verdict_lines at (Fresh i p) s t = refl
verdict_lines at (Repeat i p) s t = refl
verdict_lines at (NotTaken r) s t = ap (λ (l : List ℕ). lines_of (l ++ t)) (refusal_line_lem at r s) ∙ first-line (refusal_text at r s) t (refusal_plain at r s)

refused_lines_lem : (h : Head) (x : Session) (at : ℕ) (cs : List (List ℕ)) (t : List ℕ) → lines_of (refused_lines h x at cs ++ t) ≡ refused_texts h x at cs ++ lines_of t
unfolding refused_lines refused_texts
refused_lines_lem h x at [] t = refl
refused_lines_lem h x at (c ∷ cs) t =
    let rest : List ℕ = refused_lines h (after h x c) (at + length c) cs in
    let texts : List (List ℕ) = verdict_texts at (verdict_of h x c) (broke_at h x c) in
    ap lines_of (append_assoc (refused_line h x at c) rest t)
    ∙ verdict_lines at (verdict_of h x c) (broke_at h x c) (rest ++ t)
    ∙ ap (λ (ls : List (List ℕ)). texts ++ ls) (refused_lines_lem h (after h x c) (at + length c) cs t)
    ∙ sym (append_assoc texts (refused_texts h (after h x c) (at + length c) cs) (lines_of t))

verdict-count : (at : ℕ) (v : Verdict) (s : Option BytePlace) → length (verdict_texts at v s) ≡ cond (is_refused v) 1 0
unfolding verdict_texts
verdict-count at (Fresh i p) s = refl
verdict-count at (Repeat i p) s = refl
verdict-count at (NotTaken r) s = refl

-- one for each refusal
pub texts_count : (h : Head) (x : Session) (at : ℕ) (cs : List (List ℕ)) → length (refused_texts h x at cs) ≡ count is_refused (verdicts h x cs)
unfolding refused_texts verdicts count
texts_count h x at [] = refl
texts_count h x at (c ∷ cs) =
    omega (
      arith,
      length-append (verdict_texts at (verdict_of h x c) (broke_at h x c)) (refused_texts h (after h x c) (at + length c) cs),
      verdict-count at (verdict_of h x c) (broke_at h x c),
      texts_count h (after h x c) (at + length c) cs,
    )

-- ---- the last word, and the release's answer, by the two tests of the content

word_by : Bool → Bool → List ℕ
word_by few differs = cond few (text "incomplete") (cond differs (text "hash differs") (text "complete"))

answer_by : BytePlace → Bool → Bool → Result Complete Reason
answer_by p few differs = cond few (Err (reason_of 50)) (cond differs (Err (reason_of 51)) (Ok (complete p)))

abbrev number_in : Result Complete Reason → ℕ
number_in (Ok c) = 0
number_in (Err r) = number_of r

word_plain : (few differs : Bool) → Plain (word_by few differs)
unfolding word_by text any
word_plain true differs = refl
word_plain false true = refl
word_plain false false = refl

-- each word goes with one answer
pub record Exactly (word : List ℕ) (answer : Result Complete Reason) (p : BytePlace) : Type 0 where
  pub whole : (word ≡ text "complete") ↔ (answer ≡ Ok (complete p))
  pub differs : (word ≡ text "hash differs") ↔ (answer ≡ Err (reason_of 51))
  pub incomplete : (word ≡ text "incomplete") ↔ (answer ≡ Err (reason_of 50))

exactly : (p : BytePlace) (few differs : Bool) → Exactly (word_by few differs) (answer_by p few differs) p
unfolding word_by answer_by text
exactly p true differs = record {
  whole = (λ e. absurd (omega (arith, ap length e)), λ e. absurd (omega (arith, ap number_in e)));
  differs = (λ e. absurd (omega (arith, ap length e)), λ e. absurd (omega (arith, ap number_in e)));
  incomplete = (λ e. refl, λ e. refl);
}
exactly p false true = record {
  whole = (λ e. absurd (omega (arith, ap length e)), λ e. absurd (omega (arith, ap number_in e)));
  differs = (λ e. refl, λ e. refl);
  incomplete = (λ e. absurd (omega (arith, ap length e)), λ e. absurd (omega (arith, ap number_in e)));
}
exactly p false false = record {
  whole = (λ e. refl, λ e. refl);
  differs = (λ e. absurd (omega (arith, ap length e)), λ e. absurd (omega (arith, ap number_in e)));
  incomplete = (λ e. absurd (omega (arith, ap length e)), λ e. absurd (omega (arith, ap number_in e)));
}

abbrev second : List Check → Bool
second [] = false
second (c ∷ []) = false
second (c ∷ d ∷ cs) = d.0

module _ (h : Head) (x : Session) where
  abbrev few : Bool
  few = ltb (held_count x.marks) h.n

  abbrev other : Bool
  other = second (content_checks h x.store x.marks)

  word_is : last_word h x ≡ word_by few other
  unfolding last_word refused_word word_by
  word_is = refl

  abbrev rs : List Range
  rs = ranges (missing h.n x.marks)

  end_lines_lem : lines_of (end_text h x) ≡ (counts_text (held_count x.marks) (barred_count x.marks) ∷ range_texts rs) ++ (last_word h x ∷ [])
  unfolding end_text lines_of
  end_lines_lem =
      let counts : List ℕ = counts_text (held_count x.marks) (barred_count x.marks) in
      let w : List ℕ = last_word h x in
      let last : lines_of (line w) ≡ w ∷ [] = ap lines_of (sym (append-nil (line w))) ∙ first-line w [] (rw word_is (word_plain few other)) in
      ap lines_of (append_assoc (line counts) (missing_lines rs) (line w))
      ∙ first-line counts (missing_lines rs ++ line w) (counts-plain (held_count x.marks) (barred_count x.marks))
      ∙ ap (λ (ls : List (List ℕ)). counts ∷ ls) (range_lines rs (line w) ∙ ap (λ (ls : List (List ℕ)). range_texts rs ++ ls) last)

  module _ (l : Lent) (right : rebuild_wrong h x.store x.marks l ≡ false) (room : h.size ≤ length l.output) where
    abbrev whole : Turning
    whole = turn h x.store x.marks l.scratch l.numbers 0 (h.s / 2)

    abbrev answer : Result Complete Reason
    answer = (release h x.store x.marks whole.scratch whole.finished l.output).answer

    answer_is : answer ≡ answer_by (place h.size) few other
    unfolding answer_by
    answer_is = give_laws.whole-turn h x.store x.marks l.scratch l.numbers l.output right room whole refl

    pub word_exactly : Exactly (last_word h x) answer (place h.size)
    word_exactly = rw (word_is, answer_is) (exactly (place h.size) few other)

-- ---- all lines

module _ (h : Head) (at : ℕ) (b : List ℕ) where
  abbrev session : Session
  session = session_after h b

  abbrev told : List (List ℕ)
  told = refused_texts h (blank h) at (told_in h b)

  abbrev after-told : List (List ℕ)
  after-told = counts_text (held_count session.marks) (barred_count session.marks) ∷ range_texts (rs h session)

  pub session_lines : lines_of (session_text h at b) ≡ uuid_text h.uuid ∷ shape_text h.n h.m h.size h.s ∷ (told ++ (after-told ++ (last_word h session ∷ [])))
  unfolding session_text
  session_lines =
      let first : List ℕ = head_text h.uuid h.n h.m h.size h.s in
      let refused : List ℕ = refused_lines h (blank h) at (told_in h b) in
      ap lines_of (append_assoc first refused (end_text h session))
      ∙ head_lines h.uuid h.n h.m h.size h.s (refused ++ end_text h session)
      ∙ ap (λ (ls : List (List ℕ)). uuid_text h.uuid ∷ shape_text h.n h.m h.size h.s ∷ ls)
      (refused_lines_lem h (blank h) at (told_in h b) (end_text h session) ∙ ap (λ (ls : List (List ℕ)). told ++ ls) (end_lines_lem h session))

  pub session-count : length (lines_of (session_text h at b)) ≡ 4 + count is_refused (verdicts h (blank h) (told_in h b)) + length (rs h session)
  session-count =
      ap length session_lines
      ∙ omega (
        arith,
        length-append told (after-told ++ (last_word h session ∷ [])),
        length-append after-told (last_word h session ∷ []),
        texts_count h (blank h) at (told_in h b),
        texts_long (rs h session),
      )

  pub session_last : last_line (session_text h at b) ≡ last_word h session
  session_last =
      let before : List (List ℕ) = uuid_text h.uuid ∷ shape_text h.n h.m h.size h.s ∷ (told ++ after-told) in
      ap last_of (session_lines ∙ ap (λ (ls : List (List ℕ)). uuid_text h.uuid ∷ shape_text h.n h.m h.size h.s ∷ ls) (sym (append_assoc told after-told (last_word h session ∷ []))))
      ∙ last-of before (last_word h session)
