-- Scratch with ranges of words filled in: a range read, a range put, none, and one after another. Assumes nothing.
use mathlib.Core.Path.{◌≡◌, refl, sym, ◌∙◌, ap, ap₂}
use mathlib.Core.Bool.{Bool, true, false, cond, ◌&&◌}
use mathlib.Core.List.{List, ◌++◌}
use Prim.Native.Nat.{ℕ, zero, suc, ◌+◌, ◌-◌, ◌*◌, ◌/◌, ◌%◌, ◌≤◌, ◌<◌}
use native.Mathlib.Nat.{div-add-mod'}
use native.Mathlib.Omega.{arith}
use native.Mathlib.Decide.{dec_lt, ℕ_discrete}
use lib.Arith.{digits_div, digits_mod}
use lib.ListN.{length, get_or, take, drop, get_or-eq_default}
use lib.Seq.{ext_get_or}
use lib.Dec.{ltb, leb}
use borrow.Author.Tests.{lt-ltb, le-ltb, le-leb, lt-leb}
use Rattle.little.specs.Fields.{bytes_of}
use Rattle.little.specs.Parts.{put}
use Rattle.little.proofs.Laws.{put_laws, part_laws, block_laws}
use Rattle.cauchy.specs.Code.{joined, word_bytes}
use Rattle.cauchy.proofs.blocks.BlockLaws.{length-word_bytes}
use Rattle.cauchy.specs.Calls.{byte_of, in_range, filled}
use Rattle.cauchy.proofs.blocks.Store.{length-build, get_or-build}

byte_from_lem : (f : ℕ → ℕ) (c n r : ℕ) → r < 2 * n → get_or (word_bytes f c n) r 0 ≡ byte_of (r % 2) (f (c + r / 2))
unfolding joined bytes_of byte_of
byte_from_lem f c zero r h = absurd (omega arith)
byte_from_lem f c (suc n) zero h = ap (λ (x : ℕ). f x % 256) (omega arith)
byte_from_lem f c (suc n) (suc zero) h = ap (λ (x : ℕ). f x / 256 % 256) (omega arith)
byte_from_lem f c (suc n) (suc (suc r)) h =
    let a : r % 2 ≡ suc (suc r) % 2 = omega arith in
    let b : suc c + r / 2 ≡ c + suc (suc r) / 2 = omega arith in
    byte_from_lem f (suc c) n r (omega arith) ∙ ap₂ (λ (x y : ℕ). byte_of x (f y)) a b

pub and_off : (a b : Bool) → b ≡ false → (a && b) ≡ false
and_off true b e = e
and_off false b e = refl

out-same : (s first count e e' : ℕ) (g g' : ℕ → ℕ → ℕ) (base : List ℕ) (q : ℕ) → (leb (2 * first) (q % s) && ltb (q % s) (2 * (first + count))) ≡ false
    → cond (in_range s first count e q) (byte_of (q % s % 2) (g (q / s) (q % s / 2))) (get_or base q 0) ≡ cond (in_range s first count e' q) (byte_of (q % s % 2) (g' (q / s) (q % s / 2))) (get_or base q 0)
unfolding in_range
out-same s first count e e' g g' base q o =
    ap (λ (t : Bool). cond t (byte_of (q % s % 2) (g (q / s) (q % s / 2))) (get_or base q 0)) (and_off (ltb (q / s) e) _ o)
    ∙ sym (ap (λ (t : Bool). cond t (byte_of (q % s % 2) (g' (q / s) (q % s / 2))) (get_or base q 0)) (and_off (ltb (q / s) e') _ o))

else_same : (s first count e e' : ℕ) (g g' : ℕ → ℕ → ℕ) (base : List ℕ) (q : ℕ) → ltb (q / s) e ≡ ltb (q / s) e' → (q / s < e' → g (q / s) (q % s / 2) ≡ g' (q / s) (q % s / 2))
    → cond (in_range s first count e q) (byte_of (q % s % 2) (g (q / s) (q % s / 2))) (get_or base q 0) ≡ cond (in_range s first count e' q) (byte_of (q % s % 2) (g' (q / s) (q % s / 2))) (get_or base q 0)
unfolding in_range
else_same s first count e e' g g' base q he hg = go (dec_lt (q / s) e')
  where
    go : Dec (q / s < e') → cond (ltb (q / s) e && (leb (2 * first) (q % s) && ltb (q % s) (2 * (first + count)))) (byte_of (q % s % 2) (g (q / s) (q % s / 2))) (get_or base q 0)
        ≡ cond (ltb (q / s) e' && (leb (2 * first) (q % s) && ltb (q % s) (2 * (first + count)))) (byte_of (q % s % 2) (g' (q / s) (q % s / 2))) (get_or base q 0)
    go (yes h) = rw (he, hg h)
    go (no h) = rw (he, le-ltb (q / s) e' (omega arith))

-- a byte of a block that is in none of the words asked for
pub out-words : (first count r : ℕ) → (2 * first ≤ r → r < 2 * (first + count) → ⊥)
    → (leb (2 * first) r && ltb r (2 * (first + count))) ≡ false
out-words first count r o = go (dec_lt r (2 * first)) (dec_lt r (2 * (first + count)))
  where
    go : Dec (r < 2 * first) → Dec (r < 2 * (first + count)) → (leb (2 * first) r && ltb r (2 * (first + count))) ≡ false
    go (yes a) d = rw (lt-leb (2 * first) r a)
    go (no a) (yes d) = absurd (o (omega arith) d)
    go (no a) (no d) = rw (le-leb (2 * first) r (omega arith), le-ltb r (2 * (first + count)) (omega arith))

module _ (s first count : ℕ) where
  abbrev pub byte_at : ℕ → (ℕ → ℕ → ℕ) → List ℕ → ℕ → ℕ
  byte_at e g base q = cond (in_range s first count e q) (byte_of (q % s % 2) (g (q / s) (q % s / 2))) (get_or base q 0)

  pub length-filled : (e : ℕ) (g : ℕ → ℕ → ℕ) (base : List ℕ) → length (filled s first count e g base) ≡ length base
  unfolding filled
  length-filled e g base = length-build (byte_at e g base) 0 (length base)

  pub get_or-filled : (e : ℕ) (g : ℕ → ℕ → ℕ) (base : List ℕ) (q : ℕ) → q < length base → get_or (filled s first count e g base) q 0 ≡ byte_at e g base q
  unfolding filled
  get_or-filled e g base q h = get_or-build (byte_at e g base) 0 (length base) q h ∙ ap (byte_at e g base) (omega arith)

  -- a byte outside the range is base's
  pub else_filled : (e : ℕ) (g : ℕ → ℕ → ℕ) (base : List ℕ) (q : ℕ) → in_range s first count e q ≡ false
      → get_or (filled s first count e g base) q 0 ≡ get_or base q 0
  else_filled e g base q o = go (dec_lt q (length base))
    where
      go : Dec (q < length base) → get_or (filled s first count e g base) q 0 ≡ get_or base q 0
      go (yes h) = get_or-filled e g base q h ∙ ap (λ (t : Bool). cond t (byte_of (q % s % 2) (g (q / s) (q % s / 2))) (get_or base q 0)) o
      go (no h) =
          get_or-eq_default (filled s first count e g base) 0 {n = q} (omega (arith, length-filled e g base))
          ∙ sym (get_or-eq_default base 0 {n = q} (omega arith))

  -- so where no byte is in the range, nothing changes
  pub same-filled : (e : ℕ) (g : ℕ → ℕ → ℕ) (base : List ℕ) → ((q : ℕ) → in_range s first count e q ≡ false)
      → filled s first count e g base ≡ base
  same-filled e g base o = ext_get_or 0 (filled s first count e g base) base (length-filled e g base) (λ q m. else_filled e g base q (o q))

  -- inside: block t, byte 2 first + r
  byte_in : first + count ≤ s / 2 → (e : ℕ) (g : ℕ → ℕ → ℕ) (base : List ℕ) (t r : ℕ) → t < e → r < 2 * count
      → byte_at e g base (t * s + 2 * first + r) ≡ byte_of (r % 2) (g t (first + r / 2))
  unfolding in_range
  byte_in room e g base t r ht hr =
      let k : 2 * first + r < s = omega arith in
      let a : t * s + 2 * first + r ≡ t * s + (2 * first + r) = omega arith in
      let d : (t * s + (2 * first + r)) / s ≡ t = digits_div t k in
      let m : (t * s + (2 * first + r)) % s ≡ 2 * first + r = digits_mod t k in
      let z : (2 * first + r) % 2 ≡ r % 2 = omega arith in
      let w : (2 * first + r) / 2 ≡ first + r / 2 = omega arith in
      rw (a, d, m, lt-ltb t e ht, le-leb (2 * first) (2 * first + r) (omega arith), lt-ltb (2 * first + r) (2 * (first + count)) (omega arith), z, w)

  -- a range that is read
  pub read_filled : first + count ≤ s / 2 → (e : ℕ) (g : ℕ → ℕ → ℕ) (base : List ℕ) (t width : ℕ) → t < e → e * s ≤ length base → width ≡ 2 * count
      → take width (drop (t * s + 2 * first) (filled s first count e g base)) ≡ word_bytes (λ v. g t (first + v)) 0 count
  read_filled room e g base t width ht l ew =
      let inside : t * s + s ≤ e * s = block_laws.block_inside s e t ht in
      let lf : length (filled s first count e g base) ≡ length base = length-filled e g base in
      let lp : length (take width (drop (t * s + 2 * first) (filled s first count e g base))) ≡ width = part_laws.length_part (filled s first count e g base) (t * s + 2 * first) width (omega arith) in
      ext_get_or 0 (take width (drop (t * s + 2 * first) (filled s first count e g base))) (word_bytes (λ v. g t (first + v)) 0 count) (lp ∙ ew ∙ sym (length-word_bytes (λ v. g t (first + v)) 0 count))
      (λ r m. let m' : r < 2 * count = omega arith in
      part_laws.get_or-part (filled s first count e g base) (t * s + 2 * first) width r (omega arith)
      ∙ get_or-filled e g base (t * s + 2 * first + r) (omega arith)
      ∙ byte_in room e g base t r ht m'
      ∙ sym (byte_from_lem (λ v. g t (first + v)) 0 count r m' ∙ ap (λ (x : ℕ). byte_of (r % 2) (g t (first + x))) (omega arith)))

  -- a byte that is not in the range of block t
  byte_out : (e e' : ℕ) (g g' : ℕ → ℕ → ℕ) (base : List ℕ) (t q : ℕ) → 0 < s → ((l : ℕ) → (l ≡ t → ⊥) → ltb l e ≡ ltb l e') → ((l w : ℕ) → (l ≡ t → ⊥) → l < e' → g l w ≡ g' l w)
      → (t * s + 2 * first ≤ q → q < t * s + 2 * first + 2 * count → ⊥) → byte_at e g base q ≡ byte_at e' g' base q
  byte_out e e' g g' base t q hs he hg ho = go (ℕ_discrete (q / s) t)
    where
      qs : q / s * s + q % s ≡ q
      qs = div-add-mod' q s

      off : (t * s + q % s ≡ q) → leb (2 * first) (q % s) && ltb (q % s) (2 * (first + count)) ≡ false
      off e = out-words first count (q % s) (λ a d. ho (omega arith) (omega arith))

      go : Dec (q / s ≡ t) → byte_at e g base q ≡ byte_at e' g' base q
      go (yes y) =
          let k : q / s * s ≡ t * s = ap (λ (x : ℕ). x * s) y in
          out-same s first count e e' g g' base q (off (omega (arith, qs)))
      go (no n) = else_same s first count e e' g g' base q (he (q / s) n) (λ h. hg (q / s) (q % s / 2) n h)

  -- a range that is put
  pub put-filled : first + count ≤ s / 2 → (e e' : ℕ) (g g' : ℕ → ℕ → ℕ) (base F ys : List ℕ) (t width : ℕ) → 0 < s → t < e' → e' * s ≤ length base → width ≡ 2 * count
      → ((l : ℕ) → (l ≡ t → ⊥) → ltb l e ≡ ltb l e') → ((l w : ℕ) → (l ≡ t → ⊥) → l < e' → g l w ≡ g' l w) → F ≡ filled s first count e g base → ys ≡ word_bytes (λ v. g' t (first + v)) 0 count
      → take (t * s + 2 * first) F ++ (ys ++ drop width (drop (t * s + 2 * first) F)) ≡ filled s first count e' g' base
  put-filled room e e' g g' base F ys t width hs ht l ew he hg eF ey =
      let inside : t * s + s ≤ e' * s = block_laws.block_inside s e' t ht in
      let lF : length F ≡ length base = ap length eF ∙ length-filled e g base in
      let ly : length ys ≡ width = ap length ey ∙ length-word_bytes (λ v. g' t (first + v)) 0 count ∙ sym ew in
      let fit : t * s + 2 * first + length ys ≤ length F = omega arith in
      put_laws.lent F ys (t * s + 2 * first) width ly
      ∙ ext_get_or 0 (put F (t * s + 2 * first) ys) (filled s first count e' g' base) (put_laws.length-put F (t * s + 2 * first) ys fit ∙ lF ∙ sym (length-filled e' g' base))
      (λ q m. let m' : q < length base = omega (arith, put_laws.length-put F (t * s + 2 * first) ys fit) in
      go q m' fit ly (dec_lt q (t * s + 2 * first)) (dec_lt q (t * s + 2 * first + 2 * count)) ∙ sym (get_or-filled e' g' base q m'))
    where
      at_F : (q : ℕ) → q < length base → get_or F q 0 ≡ byte_at e g base q
      at_F q m = ap (λ (x : List ℕ). get_or x q 0) eF ∙ get_or-filled e g base q m

      go : (q : ℕ) → q < length base → t * s + 2 * first + length ys ≤ length F → length ys ≡ width → Dec (q < t * s + 2 * first) → Dec (q < t * s + 2 * first + 2 * count)
          → get_or (put F (t * s + 2 * first) ys) q 0 ≡ byte_at e' g' base q
      go q m h ly (yes a) d = put_laws.put-before F (t * s + 2 * first) ys h q a ∙ at_F q m ∙ byte_out e e' g g' base t q hs he hg (λ x y. omega arith)
      go q m h ly (no a) (yes d) =
          let r : q ≡ t * s + 2 * first + (q - (t * s + 2 * first)) = omega arith in
          let k : q - (t * s + 2 * first) < 2 * count = omega arith in
          ap (λ (x : ℕ). get_or (put F (t * s + 2 * first) ys) x 0) r
          ∙ put_laws.put_inside F (t * s + 2 * first) ys h (q - (t * s + 2 * first)) (omega arith)
          ∙ ap (λ (x : List ℕ). get_or x (q - (t * s + 2 * first)) 0) ey
          ∙ byte_from_lem (λ v. g' t (first + v)) 0 count (q - (t * s + 2 * first)) k
          ∙ ap (λ (x : ℕ). byte_of ((q - (t * s + 2 * first)) % 2) (g' t (first + x))) (omega arith)
          ∙ sym (ap (byte_at e' g' base) r ∙ byte_in room e' g' base t (q - (t * s + 2 * first)) ht k)
      go q m h ly (no a) (no d) =
          put_laws.put-after F (t * s + 2 * first) ys h q (omega arith) ∙ at_F q m ∙ byte_out e e' g g' base t q hs he hg (λ x y. omega arith)

-- ---- scratch depends on the words asked for alone

range_same : (s first count e : ℕ) (g h : ℕ → ℕ → ℕ) (base : List ℕ) (q : ℕ) → (q / s < e → 2 * first ≤ q % s → q % s < 2 * (first + count) → g (q / s) (q % s / 2) ≡ h (q / s) (q % s / 2))
    → cond (in_range s first count e q) (byte_of (q % s % 2) (g (q / s) (q % s / 2))) (get_or base q 0) ≡ cond (in_range s first count e q) (byte_of (q % s % 2) (h (q / s) (q % s / 2))) (get_or base q 0)
unfolding in_range
range_same s first count e g h base q f = go (dec_lt (q / s) e) (dec_lt (q % s) (2 * first)) (dec_lt (q % s) (2 * (first + count)))
  where
    go : Dec (q / s < e) → Dec (q % s < 2 * first) → Dec (q % s < 2 * (first + count))
        → cond (ltb (q / s) e && (leb (2 * first) (q % s) && ltb (q % s) (2 * (first + count)))) (byte_of (q % s % 2) (g (q / s) (q % s / 2))) (get_or base q 0)
        ≡ cond (ltb (q / s) e && (leb (2 * first) (q % s) && ltb (q % s) (2 * (first + count)))) (byte_of (q % s % 2) (h (q / s) (q % s / 2))) (get_or base q 0)
    go (yes a) (no b) (yes d) = rw (f a (omega arith) d)
    go (yes a) (yes b) d = rw (lt-ltb (q / s) e a, lt-leb (2 * first) (q % s) b)
    go (yes a) (no b) (no d) = rw (lt-ltb (q / s) e a, le-leb (2 * first) (q % s) (omega arith), le-ltb (q % s) (2 * (first + count)) (omega arith))
    go (no a) b d = rw (le-ltb (q / s) e (omega arith))

pub filled_ext : (s first count e : ℕ) (g h : ℕ → ℕ → ℕ) (base : List ℕ) → ((l w : ℕ) → l < e → first ≤ w → w < first + count → g l w ≡ h l w)
    → filled s first count e g base ≡ filled s first count e h base
filled_ext s first count e g h base f =
    ext_get_or 0 (filled s first count e g base) (filled s first count e h base) (length-filled s first count e g base ∙ sym (length-filled s first count e h base))
    (λ q m. let m' : q < length base = omega (arith, length-filled s first count e g base) in
    get_or-filled s first count e g base q m' ∙ range_same s first count e g h base q (λ a b d. f (q / s) (q % s / 2) a (omega arith) (omega arith)) ∙ sym (get_or-filled s first count e h base q m'))

-- ---- a range after another is both in one

range_on : (t : Bool) (first a b r x y : ℕ)
    → cond (t && (leb (2 * (first + a)) r && ltb r (2 * (first + a + b)))) x
    (cond (t && (leb (2 * first) r && ltb r (2 * (first + a)))) x y)
    ≡ cond (t && (leb (2 * first) r && ltb r (2 * (first + (a + b))))) x y
range_on false first a b r x y = refl
range_on true first a b r x y = go (dec_lt r (2 * first)) (dec_lt r (2 * (first + a))) (dec_lt r (2 * (first + (a + b))))
  where
    go : Dec (r < 2 * first) → Dec (r < 2 * (first + a)) → Dec (r < 2 * (first + (a + b)))
        → cond (leb (2 * (first + a)) r && ltb r (2 * (first + a + b))) x (cond (leb (2 * first) r && ltb r (2 * (first + a))) x y)
        ≡ cond (leb (2 * first) r && ltb r (2 * (first + (a + b)))) x y
    go (yes h) i j = rw (lt-leb (2 * (first + a)) r (omega arith), lt-leb (2 * first) r h)
    go (no h) (yes i) j =
        rw (
          lt-leb (2 * (first + a)) r i,
          le-leb (2 * first) r (omega arith),
          lt-ltb r (2 * (first + a)) i,
          lt-ltb r (2 * (first + (a + b))) (omega arith),
        )
    go (no h) (no i) (yes j) =
        rw (
          le-leb (2 * (first + a)) r (omega arith),
          lt-ltb r (2 * (first + a + b)) (omega arith),
          le-leb (2 * first) r (omega arith),
          lt-ltb r (2 * (first + (a + b))) j,
        )
    go (no h) (no i) (no j) =
        rw (
          le-ltb r (2 * (first + a + b)) (omega arith),
          le-ltb r (2 * (first + a)) (omega arith),
          le-ltb r (2 * (first + (a + b))) (omega arith),
          le-leb (2 * (first + a)) r (omega arith),
          le-leb (2 * first) r (omega arith),
        )

pub filled_on : (s first a b e : ℕ) (g : ℕ → ℕ → ℕ) (base : List ℕ)
    → filled s (first + a) b e g (filled s first a e g base) ≡ filled s first (a + b) e g base
unfolding in_range
filled_on s first a b e g base =
    ext_get_or 0 (filled s (first + a) b e g (filled s first a e g base)) (filled s first (a + b) e g base)
    (length-filled s (first + a) b e g (filled s first a e g base) ∙ length-filled s first a e g base ∙ sym (length-filled s first (a + b) e g base))
    (λ q m.
    let m₀ : q < length (filled s first a e g base) = omega (arith, length-filled s (first + a) b e g (filled s first a e g base)) in
    let m' : q < length base = omega (arith, length-filled s first a e g base) in
    get_or-filled s (first + a) b e g (filled s first a e g base) q m₀
    ∙ ap (cond (in_range s (first + a) b e q) (byte_of (q % s % 2) (g (q / s) (q % s / 2)))) (get_or-filled s first a e g base q m')
    ∙ range_on (ltb (q / s) e) first a b (q % s) (byte_of (q % s % 2) (g (q / s) (q % s / 2))) (get_or base q 0)
    ∙ sym (get_or-filled s first (a + b) e g base q m'))
