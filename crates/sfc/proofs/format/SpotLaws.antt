-- How many wanted bytes stand before the first that does not: in the words of the library, the same with other bytes after, and that the one found is the first that is another. Assumes nothing.
use Prim.Native.Nat.{ℕ, zero, suc, ◌+◌, ◌/◌, ◌^◌, ◌<◌, ◌≤◌}
use mathlib.Core.Path.{◌≡◌, refl, sym, ap, ap₂, ◌∙◌}
use mathlib.Core.Logic.{◌≢◌}
use mathlib.Core.Bool.{Bool, true, false, cond, not, ◌&&◌, true≢false}
use mathlib.Core.List.{List, [], ◌∷◌, ◌++◌}
use native.Mathlib.Nat.{mod-eq_of_lt}
use native.Mathlib.Omega.{arith}
use borrow.Author.Tests.{ne_eqb, eqb-true, eqb-false, not-true}
use lib.Dec.{eqb}
use lib.ListN.{length, get_or, get_or-append}
use Rattle.std.specs.Int.{to_le_bytes, w32}
use Rattle.std.specs.List.{prefix_len, range_with_len, zip}
use Rattle.little.specs.Fields.{le, bytes_of}
use Rattle.little.proofs.Laws.{test_laws, little_laws, byte_laws}
use Rattle.sfc.specs.format.Bytes.{stands_at}
use Rattle.sfc.specs.format.Spot.{agreeing, first_other, spot_for}
use Rattle.sfc.specs.answer.Numbers.{number_of, reason_of}
use Rattle.sfc.specs.session.SpotTheorems.{FirstWrong}
use Rattle.sfc.specs.declared.format.header.Head.{Head}
use Rattle.sfc.specs.declared.answer.reason.Reason.{Reason}
use Rattle.sfc.proofs.answer.Numbered.{reason_back}
use Rattle.sfc.specs.declared.answer.places.BytePlace.{BytePlace}
use Rattle.std.specs.Prelude.{Option, None}

-- the wanted bytes beside their places, as far as they stand
pub agreeing-zip : (c : List ℕ) (at : ℕ) (wanted : List ℕ)
    → prefix_len (λ (p : ℕ × ℕ). eqb (get_or c p.0 0) p.1) (zip (range_with_len at (length wanted)) wanted) ≡ agreeing c at wanted
unfolding agreeing
agreeing-zip c at [] = refl
agreeing-zip c at (y ∷ wanted) =
    let e : at + 1 ≡ suc at = omega arith in
    let f : 1 + agreeing c (suc at) wanted ≡ suc (agreeing c (suc at) wanted) = omega arith in
    rw (e, agreeing-zip c (suc at) wanted, f)

pub agreeing_short : (c : List ℕ) (at : ℕ) (wanted : List ℕ) → agreeing c at wanted ≤ length wanted
unfolding agreeing
agreeing_short c at [] = omega arith
agreeing_short c at (y ∷ ys) = go (eqb (get_or c at 0) y) (agreeing_short c (suc at) ys)
  where
    go : (b : Bool) → agreeing c (suc at) ys ≤ length ys → cond b (suc (agreeing c (suc at) ys)) 0 ≤ suc (length ys)
    go true i = omega arith
    go false i = omega arith

-- the same with any bytes after those that are looked at
pub agreeing-front : (c rest : List ℕ) (at : ℕ) (wanted : List ℕ) → at + length wanted ≤ length c → agreeing (c ++ rest) at wanted ≡ agreeing c at wanted
unfolding agreeing
agreeing-front c rest at [] i = refl
agreeing-front c rest at (y ∷ ys) i =
    ap₂ (λ (b : ℕ) (n : ℕ). cond (eqb b y) (suc n) 0) (get_or-append c rest 0 at (omega arith)) (agreeing-front c rest (suc at) ys (omega arith))

-- ---- where they do not all stand, the first that does not

-- the first k of the wanted bytes stand, and the next does not
record Broken (c : List ℕ) (at : ℕ) (ys : List ℕ) (k : ℕ) : Type 0 where
  inside : k < length ys
  other : get_or c (at + k) 0 ≢ get_or ys k 0
  before : (j : ℕ) → j < k → get_or c (at + j) 0 ≡ get_or ys j 0

-- one more of them stands in front
later : (c : List ℕ) (at y : ℕ) (ys : List ℕ) (k : ℕ) → get_or c at 0 ≡ y → Broken c (suc at) ys k → Broken c at (y ∷ ys) (suc k)
later c at y ys k e b = record {
  inside = omega (arith, b.inside);
  other = λ q. b.other (ap (λ (p : ℕ). get_or c p 0) (let z : suc at + k ≡ at + suc k = omega arith in z) ∙ q);
  before = before;
}
  where
    before : (j : ℕ) → j < suc k → get_or c (at + j) 0 ≡ get_or (y ∷ ys) j 0
    before zero l = ap (λ (p : ℕ). get_or c p 0) (let z : at + 0 ≡ at = omega arith in z) ∙ e
    before (suc j) l = ap (λ (p : ℕ). get_or c p 0) (let z : at + suc j ≡ suc at + j = omega arith in z) ∙ b.before j (omega (arith, l))

broken : (c : List ℕ) (at : ℕ) (ys : List ℕ) → stands_at c at ys ≡ false → Broken c at ys (agreeing c at ys)
unfolding stands_at agreeing
broken c at [] e = absurd (true≢false e)
broken c at (y ∷ ys) e = go (eqb (get_or c at 0) y) refl (λ g. broken c (suc at) ys g) e
  where
    go : (b : Bool) → eqb (get_or c at 0) y ≡ b → (stands_at c (suc at) ys ≡ false → Broken c (suc at) ys (agreeing c (suc at) ys)) → (b && stands_at c (suc at) ys) ≡ false
        → Broken c at (y ∷ ys) (cond b (suc (agreeing c (suc at) ys)) 0)
    go true f rest g = later c at y ys (agreeing c (suc at) ys) (eqb-true (get_or c at 0) y f) (rest g)
    go false f rest g = record {
      inside = omega arith;
      other = λ q. eqb-false (get_or c at 0) y f (ap (λ (p : ℕ). get_or c p 0) (let z : at ≡ at + 0 = omega arith in z) ∙ q);
      before = λ j l. absurd (omega (arith, l));
    }

pub agreeing_inside : (c : List ℕ) (at : ℕ) (ys : List ℕ) → stands_at c at ys ≡ false → agreeing c at ys < length ys
agreeing_inside c at ys e = (broken c at ys e).inside

pub first-wrong : (c : List ℕ) (at : ℕ) (ys : List ℕ) → stands_at c at ys ≡ false → FirstWrong c at ys (first_other c at ys)
first-wrong c at ys e = record {
  which = agreeing c at ys;
  here = refl;
  inside = (broken c at ys e).inside;
  other = (broken c at ys e).other;
  before = (broken c at ys e).before;
}

-- ---- a number whose bytes stand is read there

stands_each : (c : List ℕ) (at : ℕ) (ys : List ℕ) → stands_at c at ys ≡ true → (k : ℕ) → k < length ys → get_or c (at + k) 0 ≡ get_or ys k 0
unfolding stands_at
stands_each c at [] e k l = absurd (omega arith)
stands_each c at (y ∷ ys) e zero l =
    ap (λ (p : ℕ). get_or c p 0) (let z : at + 0 ≡ at = omega arith in z) ∙ eqb-true (get_or c at 0) y (test_laws.and_both (eqb (get_or c at 0) y) (stands_at c (suc at) ys) e).0
stands_each c at (y ∷ ys) e (suc k) l =
    ap (λ (p : ℕ). get_or c p 0) (let z : at + suc k ≡ suc at + k = omega arith in z)
    ∙ stands_each c (suc at) ys (test_laws.and_both (eqb (get_or c at 0) y) (stands_at c (suc at) ys) e).1 k (omega (arith, l))

-- so where another number is read, its bytes do not all stand
pub number_apart : (width : ℕ) (c : List ℕ) (at v : ℕ) → v < 256 ^ width → not (eqb (le c at width) v) ≡ true → stands_at c at (bytes_of width v) ≡ false
number_apart width c at v small n = go (stands_at c at (bytes_of width v)) refl
  where
    go : (b : Bool) → stands_at c at (bytes_of width v) ≡ b → b ≡ false
    go false e = refl
    go true e =
        let read : le c at width ≡ v =
        byte_laws.le_same width c (bytes_of width v) at 0
        (λ k l. stands_each c at (bytes_of width v) e k (omega (arith, l, (little_laws width).long v)) ∙ ap (λ (p : ℕ). get_or (bytes_of width v) p 0) (let z : k ≡ 0 + k = omega arith in z))
        ∙ (little_laws width).value_back v ∙ mod-eq_of_lt small in
        absurd (eqb-false (le c at width) v (not-true (eqb (le c at width) v) n) read)

-- ---- what the code's needs ask

-- the four bytes of a number, as std gives them
pub four_bytes : (v : ℕ) → to_le_bytes w32 v ≡ bytes_of 4 v
unfolding bytes_of
four_bytes v =
    let e : v / 65536 ≡ v / 256 / 256 = omega arith in
    let e' : v / 16777216 ≡ v / 256 / 256 / 256 = omega arith in
    rw (e, e')

-- the place of a row, by the number that the code matched
pub by_row : (h : Head) (c : List ℕ) (p : Option BytePlace) (r : Reason) (k : ℕ) → p ≡ spot_for h c k → number_of r ≡ k → p ≡ spot_for h c (number_of r)
by_row h c p r k e f = e ∙ ap (spot_for h c) (sym f)

-- a reason is another than that of a number, so it has not that number
pub not_row : (r : Reason) (k : ℕ) → r ≢ reason_of k → number_of r ≢ k
not_row r k n e = n (sym (reason_back r) ∙ ap reason_of e)

-- no other number has a row
pub no_row : (h : Head) (c : List ℕ) (k : ℕ) → k ≢ 30 → k ≢ 31 → k ≢ 32 → k ≢ 33 → k ≢ 34 → k ≢ 35 → k ≢ 36 → k ≢ 37 → k ≢ 38 → k ≢ 39 → k ≢ 40 → k ≢ 41
    → k ≢ 42 → None ≡ spot_for h c k
unfolding spot_for
no_row h c k n30 n31 n32 n33 n34 n35 n36 n37 n38 n39 n40 n41 n42 =
    rw (ne_eqb k 30 n30, ne_eqb k 31 n31, ne_eqb k 32 n32, ne_eqb k 33 n33, ne_eqb k 34 n34, ne_eqb k 35 n35, ne_eqb k 36 n36, ne_eqb k 37 n37, ne_eqb k 38 n38, ne_eqb k 39 n39, ne_eqb k 40 n40, ne_eqb k 41 n41, ne_eqb k 42 n42)
