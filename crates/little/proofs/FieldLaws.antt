-- The law of little-endian fields over the width, a turn of the loops that read and write one, and what keeps bytes bytes.
-- Assumes nothing.
use Prim.Native.Nat.{ℕ, zero, suc, ◌+◌, ◌*◌, ◌/◌, ◌%◌, ◌^◌, ◌-◌, ◌<◌, ◌≤◌}
use mathlib.Core.Path.{◌≡◌, refl, sym, ap, ap₂, ◌∙◌}
use mathlib.Core.Bool.{true, false}
use mathlib.Core.List.{List, [], ◌∷◌, ◌++◌, append-nil}
use mathlib.Core.Logic.{◌⊎◌, inl, inr, ⊎_elim}
use native.Mathlib.Nat.{le_trans, pow-le-pow_right, pow-suc, mod-one, one-le-pow}
use native.Mathlib.Numerals.{add-one}
use native.Mathlib.Omega.{arith}
use borrow.Author.Tests.{le-leb, lt-leb}
use lib.Arith.{mod-mul}
use lib.Dec.{lit<}
use lib.ListN.{length, get_or, set, take, drop, get_or-eq_default}
use lib.Seq.{get_or-drop, drop-cons, take-suc-set, append_snoc, take_all}
use Rattle.little.specs.Parts.{part, put}
use Rattle.little.specs.Fields.{Bytes, le, bytes_of, fits, put_le}
use Rattle.little.specs.Laws.{LittleLaws}
use Rattle.little.proofs.PartLaws.{below_or, length_part, lent, length-put, part-put, put_outside, put_same, get_or-part}

-- ---- bytes stay bytes

pub bytes_append : (xs ys : List ℕ) → Bytes xs → Bytes ys → Bytes (xs ++ ys)
bytes_append [] ys a b i = b i
bytes_append (x ∷ xs) ys a b zero = a 0
bytes_append (x ∷ xs) ys a b (suc i) = bytes_append xs ys (λ k. a (suc k)) b i

bytes_take : (n : ℕ) (xs : List ℕ) → Bytes xs → Bytes (take n xs)
bytes_take zero xs a i = omega arith
bytes_take (suc n) [] a i = omega arith
bytes_take (suc n) (x ∷ xs) a zero = a 0
bytes_take (suc n) (x ∷ xs) a (suc i) = bytes_take n xs (λ k. a (suc k)) i

bytes_drop : (n : ℕ) (xs : List ℕ) → Bytes xs → Bytes (drop n xs)
bytes_drop n xs a i = rw (get_or-drop n xs i 0) (a (n + i))

pub bytes_part : (xs : List ℕ) (at n : ℕ) → Bytes xs → Bytes (part xs at n)
bytes_part xs at n a = bytes_take n (drop at xs) (bytes_drop at xs a)

pub bytes_put : (xs : List ℕ) (at : ℕ) (ys : List ℕ) → Bytes xs → Bytes ys → Bytes (put xs at ys)
bytes_put xs at ys a b =
    bytes_append (take at xs) (ys ++ drop (length ys) (drop at xs)) (bytes_take at xs a)
    (bytes_append ys (drop (length ys) (drop at xs)) b (bytes_drop (length ys) (drop at xs) (bytes_drop at xs a)))

-- ---- reading

bound : (width : ℕ) (s : List ℕ) → Bytes s → (at : ℕ) → le s at width < 256 ^ width
unfolding le
bound zero s b at = lit< tt
bound (suc width) s b at = rw pow-suc (omega (arith, b at, bound width s b (suc at)))

-- the same below a fixed power, for a cast
pub bound_most : (s : List ℕ) → Bytes s → (at : ℕ) {width most : ℕ} → width ≤ most → le s at width < 256 ^ most
bound_most s b at {width} {most} h = le_trans (bound width s b at) (pow-le-pow_right (lit< tt) h)

past_end : (width : ℕ) (s : List ℕ) (at : ℕ) → length s ≤ at → le s at width ≡ 0
unfolding le
past_end zero s at h = refl
past_end (suc width) s at h = omega (arith, get_or-eq_default s 0 h, past_end width s (suc at) (omega arith))

-- two lists with the same bytes there have the same number there
pub le_same : (width : ℕ) (s t : List ℕ) (at at' : ℕ) → ((k : ℕ) → k < width → get_or s (at + k) 0 ≡ get_or t (at' + k) 0) → le s at width ≡ le t at' width
unfolding le
le_same zero s t at at' h = refl
le_same (suc width) s t at at' h =
    let e : at + 0 ≡ at = omega arith in
    let e' : at' + 0 ≡ at' = omega arith in
    ap₂ (λ (a r : ℕ). a + r * 256) (rw (e, e') at (h 0 (omega arith)))
    (le_same width s t (suc at) (suc at') (λ k u.
    let f : at + suc k ≡ suc at + k = omega arith in
    let f' : at' + suc k ≡ suc at' + k = omega arith in
    rw (f, f') at (h (suc k) (omega arith))))

-- a number in a part is the number in the whole
pub le-part : (width : ℕ) (s : List ℕ) (from n at : ℕ) → at + width ≤ n → le (part s from n) at width ≡ le s (from + at) width
le-part width s from n at h =
    le_same width (part s from n) s at (from + at)
    (λ k u. let e : from + (at + k) ≡ from + at + k = omega arith in get_or-part s from n (at + k) (omega arith) ∙ ap (λ (i : ℕ). get_or s i 0) e)

-- a number in the rest of a list
pub le-drop : (width : ℕ) (s : List ℕ) (from at : ℕ) → le (drop from s) at width ≡ le s (from + at) width
le-drop width s from at =
    le_same width (drop from s) s at (from + at)
    (λ k u. let e : from + (at + k) ≡ from + at + k = omega arith in get_or-drop from s (at + k) 0 ∙ ap (λ (i : ℕ). get_or s i 0) e)

-- ---- the bytes of a number

pub long : (width v : ℕ) → length (bytes_of width v) ≡ width
unfolding bytes_of
long zero v = refl
long (suc width) v = ap suc (long width (v / 256))

bytes : (width v : ℕ) → Bytes (bytes_of width v)
unfolding bytes_of
bytes zero v i = lit< tt
bytes (suc width) v zero = omega arith
bytes (suc width) v (suc i) = bytes width (v / 256) i

-- one place on, after a byte at the front
le-cons : (width x : ℕ) (s : List ℕ) (at : ℕ) → le (x ∷ s) (suc at) width ≡ le s at width
le-cons width x s at = le_same width (x ∷ s) s (suc at) at (λ k u. let e : suc at + k ≡ suc (at + k) = omega arith in rw e)

value_back : (width v : ℕ) → le (bytes_of width v) 0 width ≡ v % 256 ^ width
unfolding le bytes_of
value_back zero v = sym (mod-one v)
value_back (suc width) v =
    let p : 0 < 256 ^ width = one-le-pow width 256 (lit< tt) in
    let m : v % (256 ^ width * 256) ≡ v / 256 % 256 ^ width * 256 + v % 256 = mod-mul v p (lit< tt) in
    rw pow-suc (omega (arith, m, le-cons width (v % 256) (bytes_of width (v / 256)) 0, value_back width (v / 256)))

bytes_back : (width : ℕ) (s : List ℕ) → Bytes s → (at : ℕ) → at + width ≤ length s → bytes_of width (le s at width) ≡ part s at width
unfolding le bytes_of
bytes_back zero s b at h = refl
bytes_back (suc width) s b at h =
    let x : get_or s at 0 < 256 = b at in
    let i : at < length s = omega arith in
    let m : (get_or s at 0 + le s (suc at) width * 256) % 256 ≡ get_or s at 0 = omega arith in
    let d : (get_or s at 0 + le s (suc at) width * 256) / 256 ≡ le s (suc at) width = omega arith in
    rw (m, d, drop-cons s at 0 i) (ap (λ (l : List ℕ). get_or s at 0 ∷ l) (bytes_back width s b (suc at) (omega arith)))

-- ---- storing

pub does_fit : (s : List ℕ) (at width : ℕ) → at + width ≤ length s → fits s at width ≡ true
unfolding fits
does_fit s at width h = le-leb (at + width) (length s) h

pub does_not_fit : (s : List ℕ) (at width : ℕ) → length s < at + width → fits s at width ≡ false
unfolding fits
does_not_fit s at width h = lt-leb (at + width) (length s) h

pub put-fits : (s : List ℕ) (at width v : ℕ) → at + width ≤ length s → put_le s at width v ≡ put s at (bytes_of width v)
unfolding put_le
put-fits s at width v h = rw (does_fit s at width h)

no_room : (s : List ℕ) (at width v : ℕ) → length s < at + width → put_le s at width v ≡ s
unfolding put_le
no_room s at width v h = rw (does_not_fit s at width h)

module _ (width : ℕ) (s : List ℕ) (at : ℕ) where
  module _ (v : ℕ) (h : at + width ≤ length s) where
    room : at + length (bytes_of width v) ≤ length s
    room = omega (arith, long width v)

    stored : part (put_le s at width v) at width ≡ bytes_of width v
    stored =
        ap₂ (λ (l : List ℕ) (n : ℕ). part l at n) (put-fits s at width v h) (sym (long width v))
        ∙ part-put s at (bytes_of width v) room

    read_back : le (put_le s at width v) at width ≡ v % 256 ^ width
    read_back =
        let e : at + 0 ≡ at = omega arith in
        sym (rw e at (le-part width (put_le s at width v) at width 0 (omega arith)))
        ∙ ap (λ (l : List ℕ). le l 0 width) stored ∙ value_back width v

  store-back : Bytes s → put_le s at width (le s at width) ≡ s
  store-back b =
      ⊎_elim (λ (h : length s < at + width). no_room s at width (le s at width) h)
      (λ (h : at + width ≤ length s).
      put-fits s at width (le s at width) h ∙ ap (λ (l : List ℕ). put s at l) (bytes_back width s b at h) ∙ put_same s at width h)
      (below_or (length s) (at + width))

  same_length : (v : ℕ) → length (put_le s at width v) ≡ length s
  same_length v =
      ⊎_elim (λ (h : length s < at + width). ap length (no_room s at width v h))
      (λ (h : at + width ≤ length s). ap length (put-fits s at width v h) ∙ length-put s at (bytes_of width v) (room v h))
      (below_or (length s) (at + width))

  elsewhere : (v i : ℕ) → (i < at) ⊎ (at + width ≤ i) → get_or (put_le s at width v) i 0 ≡ get_or s i 0
  elsewhere v i o =
      ⊎_elim (λ (h : length s < at + width). ap (λ (l : List ℕ). get_or l i 0) (no_room s at width v h))
      (λ (h : at + width ≤ length s).
      ap (λ (l : List ℕ). get_or l i 0) (put-fits s at width v h)
      ∙ put_outside s at (bytes_of width v) (room v h) i (⊎_elim (λ p. inl p) (λ p. inr (omega (arith, long width v))) o))
      (below_or (length s) (at + width))

pub laws : (width : ℕ) → LittleLaws width
laws width =
    record {
      bound = bound width;
      past_end = past_end width;
      long = long width;
      bytes = bytes width;
      value_back = value_back width;
      bytes_back = bytes_back width;
      read_back = read_back width;
      store-back = λ s b at. store-back width s at b;
      stored = stored width;
      same_length = same_length width;
      elsewhere = elsewhere width;
      no_room = λ s at v. no_room s at width v;
    }

-- ---- the loops

-- one byte more at the front, for a loop that counts i down
pub read_turn : (s : List ℕ) (at width i v : ℕ) → 0 < i → i ≤ width → v ≡ le s (at + i) (width - i)
    → v * 256 + get_or s (at + (i - 1)) 0 ≡ le s (at + (i - 1)) (width - (i - 1))
unfolding le
read_turn s at width i v h k e =
    let f : width - (i - 1) ≡ suc (width - i) = omega arith in
    let g : suc (at + (i - 1)) ≡ at + i = omega arith in
    rw (f, g) (omega arith)

-- and a number of at most eight bytes fits 64 bits
pub read_fits : (s : List ℕ) → Bytes s → (at width i v : ℕ) → width ≤ 8 → 0 < i → i ≤ width → v ≡ le s (at + i) (width - i)
    → v * 256 + get_or s (at + (i - 1)) 0 < 2 ^ 64
read_fits s b at width i v w h k e =
    rw (read_turn s at width i v h k e) (bound_most s b (at + (i - 1)) {most = 8} (omega arith))

-- nothing is left to read where i bytes from `at` on are all that lie inside
pub read_start : (s : List ℕ) (at width i : ℕ) → i ≤ width → (i < width → length s ≤ at + i) → 0 ≡ le s (at + i) (width - i)
unfolding le
read_start s at width i h k =
    ⊎_elim (λ (p : i < width). sym (past_end (width - i) s (at + i) (k p)))
    (λ (p : width ≤ i). let e : width - i ≡ 0 = omega arith in rw e)
    (below_or i width)

-- one byte stored, for a loop that counts i up: what is done and what is left are the whole
pub fill_turn : (d b : List ℕ) (n i rest : ℕ) → i < n → length d ≡ n → take i d ++ bytes_of (n - i) rest ≡ b
    → take (i + 1) (set d i (rest % 256)) ++ bytes_of (n - (i + 1)) (rest / 256) ≡ b
unfolding bytes_of
fill_turn d b n i rest h e p =
    let k : n - i ≡ suc (n - (i + 1)) = omega arith in
    let t : take (i + 1) (set d i (rest % 256)) ≡ take i d ++ (rest % 256 ∷ []) = rw add-one (take-suc-set d i (rest % 256) (omega arith)) in
    ap (λ (l : List ℕ). l ++ bytes_of (n - (i + 1)) (rest / 256)) t
    ∙ append_snoc (take i d) (rest % 256) (bytes_of (n - (i + 1)) (rest / 256))
    ∙ (rw k at p)

pub fill_end : (d b : List ℕ) (n i rest : ℕ) → n ≤ i → length d ≡ n → take i d ++ bytes_of (n - i) rest ≡ b → d ≡ b
unfolding bytes_of
fill_end d b n i rest h e p =
    let k : n - i ≡ 0 = omega arith in
    let l : length d ≤ i = omega arith in
    sym (take_all i d l) ∙ sym (append-nil (take i d)) ∙ (rw k at p)

-- ---- a writer that refuses, and one whose lent part came back filled

pub unstored : (s : List ℕ) (at width v : ℕ) → length s < at + width → (false ≡ fits s at width) × (s ≡ put_le s at width v)
unstored s at width v h = (sym (does_not_fit s at width h), sym (no_room s at width v h))

pub stored-whole : (s ys : List ℕ) (at width v n : ℕ) → at + width ≤ length s → n ≡ at + width - at → ys ≡ bytes_of (length (part s at n)) v
    → (true ≡ fits s at width) × (take at s ++ (ys ++ drop n (drop at s)) ≡ put_le s at width v)
stored-whole s ys at width v n h en ey =
    let e : n ≡ width = omega arith in
    let l : length (part s at n) ≡ width = ap (λ (k : ℕ). length (part s at k)) e ∙ length_part s at width h in
    let y : ys ≡ bytes_of width v = ey ∙ ap (λ (k : ℕ). bytes_of k v) l in (
      sym (does_fit s at width h),
      lent s ys at n (ap length y ∙ long width v ∙ sym e) ∙ ap (λ (b : List ℕ). put s at b) y ∙ sym (put-fits s at width v h),
    )
