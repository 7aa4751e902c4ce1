-- What the proofs of a page's pieces and lines cite: pieces one after the other, a loop that puts, the digits of a value and of
-- bytes, the lines from their pieces. Assumes nothing.
use Prim.Native.Nat.{ℕ, zero, suc, ◌+◌, ◌-◌, ◌*◌, ◌/◌, ◌%◌, ◌^◌, ◌<◌, ◌≤◌}
use mathlib.Core.Path.{◌≡◌, refl, sym, ap, ◌∙◌}
use mathlib.Core.Bool.{true}
use mathlib.Core.List.{List, [], ◌∷◌, ◌++◌, append_assoc}
use native.Mathlib.Numerals.{add-one}
use native.Mathlib.Omega.{arith}
use borrow.Author.Tests.{lt-ltb, le-ltb}
use lib.ListN.{length, get_or, take, drop}
use lib.Seq.{drop-cons, drop-length}
use Rattle.std.specs.Prelude.{eqb, slice_index, Option, Some, None}
use Rattle.std.specs.Fmt.{decimal as std_decimal}
use Rattle.std.specs.Simd.{first_chunks}
use Rattle.std.proofs.lemmas.Bool.{agree_below_at, eqb-true}
use Rattle.std.proofs.lemmas.Fmt.{AppendsLastDigit, decimal_from_appends, length-decimal-le}
use Rattle.hex.proofs.HexLemmas.{length-encode_with}
use Rattle.hex.specs.Hex.{IsBytes, encode_with, encode_lower, lower_digits}
use Rattle.little.specs.Parts.{put}
use Rattle.little.proofs.Laws.{put_laws}
use Rattle.sfc_listing.specs.Text.{text, digits, decimal, hex_digit, hex, line}
use Rattle.sfc_listing.specs.Listing.{refused_text, refusal_line, uuid_line, shape_line, counts_line}
use Rattle.sfc_listing.specs.Lines.{Appended, word_of, range_line, bounds_lines, end_room}
use Rattle.sfc_listing.specs.Page.{HasRoom, Puts}
use Rattle.sfc.specs.answer.Numbers.{number_of}
use Rattle.sfc.specs.declared.answer.places.BytePlace.{BytePlace}
use Rattle.sfc.specs.declared.answer.reason.Reason.{Reason}
use Rattle.sfc_listing.specs.declared.lines.LastWord.{LastWord}
use Rattle.sfc_listing.specs.declared.lines.LastWord.TheVariants.{Complete, HashDiffers, Incomplete}
use Rattle.sfc_listing.specs.declared.page.Page.{Page}
use Rattle.sfc_listing.proofs.LineLaws.{joined, within, Appending, appending_next, appending_end}

-- ---- pieces one after the other

pub puts_then : {a b : ℕ} {p q r : Page} {xs ys : List ℕ} → HasRoom a p → Puts a p xs q → Puts b q ys r → Puts (a + b) p (xs ++ ys) r
puts_then h f g = record { memory = g.memory ∙ f.memory; long = g.long ∙ f.long; told = joined h f.told g.told }

-- a larger bound
pub puts_within : {a b : ℕ} {p q : Page} {xs : List ℕ} → Puts a p xs q → a ≤ b → Puts b p xs q
puts_within f h = record { memory = f.memory; long = f.long; told = within f.told h }

-- the same piece, under another name
pub puts_as : {a : ℕ} {p q : Page} {xs ys : List ℕ} → xs ≡ ys → Puts a p xs q → Puts a p ys q
puts_as e f = rw e at f

-- a name and its value after other pieces
pub puts_value : {a b : ℕ} {p q r : Page} {xs : List ℕ} (name number : List ℕ) → HasRoom a p → Puts a p xs q → Puts b q (name ++ number) r
    → Puts (a + b) p (xs ++ name ++ number) r
puts_value {xs = xs} name number h f g = rw (append_assoc xs name number) (puts_then h f g)

-- nothing
pub puts_none : {a : ℕ} (p : Page) → Puts a p [] p
puts_none p = record { memory = refl; long = refl; told = record { place = omega arith; short = omega arith; made = sym (put_laws.put_none p.out.now p.at) } }

-- ---- a loop that puts: what is still to come, put to the page as it is by then, makes the whole

pub record Putting (most : ℕ) (p : Page) (whole rest : List ℕ) (q : Page) : Type 0 where
  pub memory : q.out.ghost_name ≡ p.out.ghost_name
  pub lines : Appending most p.out.now p.at whole rest q.at q.out.now

pub putting_next : {most a : ℕ} {p q r : Page} {whole xs rest : List ℕ} → HasRoom a q → Putting most p whole (xs ++ rest) q → Puts a q xs r
    → Putting (most + a) p whole rest r
putting_next h f g = record { memory = g.memory ∙ f.memory; lines = appending_next h f.lines g.told }

-- by another bound on what was put
pub putting_low : {a b : ℕ} {p q : Page} {whole rest : List ℕ} → Putting a p whole rest q → q.at ≤ p.at + b → Putting b p whole rest q
putting_low f h = record { memory = f.memory; lines = record { long = f.lines.long; low = h; place = f.lines.place; all = f.lines.all } }

pub putting_end : {most : ℕ} {p q : Page} {whole : List ℕ} → Putting most p whole [] q → Puts most p whole q
putting_end f = record { memory = f.memory; long = f.lines.long; told = appending_end f.lines }

-- ---- digits

last_digits : AppendsLastDigit digits
unfolding digits
last_digits = record {
  one = λ k n h. rw (lt-ltb n 10 h);
  more = λ k n h. rw (le-ltb n 10 h);
}

-- the digits that std writes of a value of 64 bits are ours
pub decimal_is : (v : ℕ) → v < 2 ^ 64 → std_decimal v ≡ decimal v
decimal_is v h =
    let most : v < 10 ^ 20 = omega (arith, h) in
    sym (decimal_from_appends digits last_digits 20 v h (length-decimal-le 20 v (omega arith) most h))

lower_digit : (d : ℕ) → d < 16 → slice_index lower_digits d ≡ hex_digit d
lower_digit d h = eqb-true (slice_index lower_digits d) (hex_digit d) (agree_below_at (λ k. eqb (slice_index lower_digits k) (hex_digit k)) (λ k. true) 16 d refl h)

pub hex_is : (b : List ℕ) → IsBytes b → encode_lower b ≡ hex b
unfolding encode_with hex
hex_is [] k = refl
hex_is (c ∷ b) k =
    let small : c < 256 = k 0 in
    rw (lower_digit (c / 16) (omega (arith, small)), lower_digit (c % 16) (omega arith), hex_is b (λ i. k (suc i)))

-- ---- first and last of each range

pub pairs_lines : List (List ℕ) → List ℕ
pairs_lines [] = []
pairs_lines (r ∷ rs) = range_line (get_or r 0 0) (get_or r 1 0) ++ pairs_lines rs

-- the lines of some ranges are those of their bounds
pub pairs_are : (k : ℕ) (b : List ℕ) → length b ≡ k * 2 → pairs_lines (first_chunks 2 k b) ≡ bounds_lines b
unfolding pairs_lines bounds_lines
pairs_are zero [] e = refl
pairs_are zero (x ∷ b) e = absurd (omega arith)
pairs_are (suc k) [] e = absurd (omega arith)
pairs_are (suc k) (x ∷ []) e = absurd (omega arith)
pairs_are (suc k) (x ∷ y ∷ b) e = ap (λ (l : List ℕ). range_line x y ++ l) (pairs_are k b (omega arith))

pub pairs_drop : (rs : List (List ℕ)) (i : ℕ) (d : List ℕ) → i < length rs
    → pairs_lines (drop i rs) ≡ range_line (get_or (get_or rs i d) 0 0) (get_or (get_or rs i d) 1 0) ++ pairs_lines (drop (i + 1) rs)
unfolding pairs_lines
pairs_drop rs i d h = rw (add-one i, drop-cons rs i d h)

pub pairs_end : (rs : List (List ℕ)) → pairs_lines (drop (length rs) rs) ≡ []
unfolding pairs_lines
pairs_end rs = rw (drop-length rs)

-- ---- bytes in hexadecimal, put in a part that was lent

pub hex-made : (p : Page) (b ys : List ℕ) → HasRoom (2 * length b) p → IsBytes b → ys ≡ encode_lower b
    → Appended (2 * length b) p.out.now p.at (hex b) (p.at + 2 * length b)
    (take p.at p.out.now ++ (ys ++ drop (p.at + 2 * length b - p.at) (drop p.at p.out.now)))
hex-made p b ys h k e =
    let w : ys ≡ hex b = e ∙ hex_is b k in
    let l : length (hex b) ≡ 2 * length b = ap length (sym (hex_is b k)) ∙ length-encode_with lower_digits b in
    let n : length ys ≡ p.at + 2 * length b - p.at = omega (arith, l, ap length w) in
    record {
      place = omega (arith, l);
      short = omega (arith, l);
      made = put_laws.lent p.out.now ys p.at (p.at + 2 * length b - p.at) n ∙ ap (put p.out.now p.at) w;
    }

-- ---- the lines, from their pieces

pub uuid_made : (uuid : List ℕ) {p p₁ p₂ q : Page} → length uuid ≡ 16 → HasRoom 42 p → Puts 9 p (text "sfc uuid=") p₁
    → Puts (2 * length uuid) p₁ (hex uuid) p₂ → Puts 1 p₂ (10 ∷ []) q → Puts 42 p (uuid_line uuid) q
uuid_made uuid u h f g e =
    let k : 9 + 2 * length uuid + 1 ≡ 42 = omega arith in
    rw k at (puts_then (omega arith) (puts_then (omega arith) f g) e)

pub shape_made : (n m size s : ℕ) {p p₁ p₂ p₃ p₄ q : Page} → HasRoom 111 p → Puts 27 p (text "blocks=" ++ decimal n) p₁
    → Puts 30 p₁ (text " recovery=" ++ decimal m) p₂ → Puts 26 p₂ (text " size=" ++ decimal size) p₃ → Puts 27 p₃ (text " block=" ++ decimal s) p₄
    → Puts 1 p₄ (10 ∷ []) q → Puts 111 p (shape_line n m size s) q
shape_made n m size s h f₁ f₂ f₃ f₄ e =
    puts_then (omega arith)
    (puts_value (text " block=") (decimal s) (omega arith)
    (puts_value (text " size=") (decimal size) (omega arith) (puts_value (text " recovery=") (decimal m) (omega arith) f₁ f₂) f₃) f₄) e

pub counts-made : (held barred : ℕ) {p p₁ p₂ q : Page} → HasRoom 54 p → Puts 25 p (text "held=" ++ decimal held) p₁
    → Puts 28 p₁ (text " barred=" ++ decimal barred) p₂ → Puts 1 p₂ (10 ∷ []) q → Puts 54 p (counts_line held barred) q
counts-made held barred h f g e = puts_then (omega arith) (puts_value (text " barred=") (decimal barred) (omega arith) f g) e

pub range-made : (first last : ℕ) {p p₁ p₂ q : Page} → HasRoom 50 p → Puts 28 p (text "missing " ++ decimal first) p₁
    → Puts 21 p₁ (text "-" ++ decimal last) p₂ → Puts 1 p₂ (10 ∷ []) q → Puts 50 p (range_line first last) q
range-made first last h f g e = puts_then (omega arith) (puts_value (text "-") (decimal last) (omega arith) f g) e

pub refused_made : (number : ℕ) {p p₁ q : Page} → HasRoom 29 p → Puts 28 p (text "refused " ++ decimal number) p₁ → Puts 1 p₁ (10 ∷ []) q
    → Puts 29 p (refused_text number) q
unfolding refused_text
refused_made number h f e = puts_then (omega arith) f e

-- the line of a refusal, with its place and without
pub placed_made : (own : ℕ) (reason : Reason) (spot : Option BytePlace) (place : BytePlace) (number : ℕ) {p p₁ p₂ q : Page} → HasRoom 50 p → number ≡ number_of reason
    → spot ≡ Some place → Puts 28 p (text "refused " ++ decimal number) p₁ → Puts 21 p₁ (text " " ++ decimal (own + place.0)) p₂ → Puts 1 p₂ (10 ∷ []) q
    → Puts 50 p (refusal_line own reason spot) q
unfolding refusal_line
placed_made own reason spot place number h e s f g z =
    rw (s, ← e) (puts_then (omega arith) (puts_value (text " ") (decimal (own + place.0)) (omega arith) f g) z)

pub unplaced_made : (own : ℕ) (reason : Reason) (spot : Option BytePlace) {p q : Page} → spot ≡ None → Puts 29 p (refused_text (number_of reason)) q
    → Puts 50 p (refusal_line own reason spot) q
unfolding refusal_line
unplaced_made own reason spot s f = rw s (puts_within f (omega arith))

-- the lines after the refused ones
pub end-made : (held barred : ℕ) (b word : List ℕ) {p p₁ p₂ q : Page} → length b ≤ 1024 → HasRoom end_room p → Puts 54 p (counts_line held barred) p₁
    → Puts (25 * length b) p₁ (bounds_lines b) p₂ → Puts 13 p₂ (line word) q → Puts end_room p (counts_line held barred ++ bounds_lines b ++ line word) q
end-made held barred b word few h f g e =
    puts_within (puts_value (bounds_lines b) (line word) (omega arith) f (puts_then (omega arith) g e)) (omega (arith, few))

pub word_short : (last : LastWord) → length (line (word_of last)) ≤ 13
unfolding word_of text
word_short Complete = omega arith
word_short HashDiffers = omega arith
word_short Incomplete = omega arith
