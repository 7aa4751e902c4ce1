-- A table of products: what one turn of its filling adds, and a product by its two bytes. Assumes nothing.
use mathlib.Core.Path.{◌≡◌, refl, sym, ap, ◌∙◌}
use mathlib.Core.List.{List}
use Prim.Native.Nat.{ℕ, suc, ◌+◌, ◌-◌, ◌*◌, ◌^◌, ◌≤◌, ◌<◌}
use native.Mathlib.Nat.{pow-suc, one-mul, mul_comm}
use native.Mathlib.Omega.{arith}
use native.Mathlib.Decide.{dec_lt}
use lib.ListN.{length, get_or, set}
use lib.Seq.{get_or-set_same, get_or-set_other}
use lib.Bits.{bit_xor, xor_shifted, xor_comm}
use lib.Pow.{pow_mono}
use Rattle.gf16.specs.Field.{Elem, mul}
use Rattle.cauchy.specs.inner.Packed.{pack, products, Table, Spread, Doubled, FilledTo}
use Rattle.cauchy.proofs.tables.PackLaws.{pack-same, pack-xor, packed_same}
use Rattle.gf16.proofs.Laws.{laws}

-- c (n + i) for i below the power n
mul-beside : (c k i : ℕ) → i < 2 ^ k → mul c (2 ^ k + i) ≡ bit_xor (mul c i) (mul c (2 ^ k))
mul-beside c k i h =
    let e : bit_xor (2 ^ k) i ≡ 2 ^ k + i = rw one-mul at (xor_shifted 1 k i h) in
    ap (mul c) (sym e) ∙ laws.mul-add c (2 ^ k) i ∙ xor_comm (mul c (2 ^ k)) (mul c i)

-- the next power
mul_next : (c n : ℕ) → Elem c → 2 * n < 65536 → mul (mul c n) 2 ≡ mul c (2 * n)
mul_next c n hc h = laws.mul_assoc c n 2 hc (omega arith) (omega arith) ∙ ap (mul c) (laws.mul_power n 1 (omega arith) ∙ omega arith)

-- a product by the two bytes of a word
pub mul_bytes : (c l h : ℕ) → Elem c → l < 256 → h < 256 → mul c (l + 256 * h) ≡ bit_xor (mul c l) (mul (mul c 256) h)
mul_bytes c l h hc hl hh =
    let e : bit_xor (h * 2 ^ 8) l ≡ l + 256 * h = xor_shifted h 8 l hl ∙ omega arith in
    let f : mul 256 h ≡ h * 2 ^ 8 = laws.mul_comm 256 h (omega arith) (omega arith) ∙ laws.mul_power h 8 (omega arith) in
    ap (mul c) (sym e) ∙ laws.mul-add c (h * 2 ^ 8) l
    ∙ ap (λ (x : ℕ). bit_xor x (mul c l)) (ap (mul c) (sym f) ∙ sym (laws.mul_assoc c 256 h hc (omega arith) (omega arith)))
    ∙ xor_comm (mul (mul c 256) h) (mul c l)

-- ---- one entry more, after the n at the front

pub spread_kept : (n i v j : ℕ) (t₀ t : List ℕ) → j < n → get_or t j 0 ≡ get_or t₀ j 0 → get_or (set t (n + i) v) j 0 ≡ get_or t₀ j 0
spread_kept n i v j t₀ t h e = get_or-set_other t (n + i) j v 0 (λ q. omega (arith, q)) ∙ e

pub spread_made : (n i x j : ℕ) (t₀ t : List ℕ) → n + i < length t → i < n → j < i + 1
    → ((k : ℕ) → k < n → get_or t k 0 ≡ get_or t₀ k 0)
    → ((k : ℕ) → k < i → get_or t (n + k) 0 ≡ bit_xor (get_or t₀ k 0) x)
    → get_or (set t (n + i) (bit_xor (get_or t i 0) x)) (n + j) 0 ≡ bit_xor (get_or t₀ j 0) x
spread_made n i x j t₀ t inside hi hj kept made = go (dec_lt j i)
  where
    go : Dec (j < i) → get_or (set t (n + i) (bit_xor (get_or t i 0) x)) (n + j) 0 ≡ bit_xor (get_or t₀ j 0) x
    go (yes m) = get_or-set_other t (n + i) (n + j) (bit_xor (get_or t i 0) x) 0 (λ q. omega (arith, q)) ∙ made j m
    go (no f) = let e : j ≡ i = omega arith in rw e (get_or-set_same t (n + i) (bit_xor (get_or t i 0) x) 0 inside ∙ ap (λ (y : ℕ). bit_xor y x) (kept i hi))

-- ---- a table with twice as many entries

pub record Power (n : ℕ) : Type 0 where
  pub k : ℕ
  pub few : k ≤ 8
  pub is : n ≡ 2 ^ k

pub power_more : (n : ℕ) → n < 256 → Power n → Power (2 * n)
power_more n h p =
    let f : p.k < 8 = few_of p.k p.few (rw p.is at h) in
    record { k = suc p.k; few = f; is = ap (◌*◌ 2) p.is ∙ mul_comm 2 (2 ^ p.k) ∙ sym (pow-suc 2 p.k) }
  where
    few_of : (k : ℕ) → k ≤ 8 → 2 ^ k < 256 → k < 8
    few_of k l m = go (dec_lt k 8)
      where
        go : Dec (k < 8) → k < 8
        go (yes q) = q
        go (no q) = let e : k ≡ 8 = omega arith in absurd (omega (arith, rw e at m))

pub power_most : (n : ℕ) → Power n → n ≤ 256
power_most n p = rw p.is (pow_mono {i = p.k} {j = 8} p.few)

-- four products of the power n, and the n entries before it, are the entries after them
table_more : (a b c d n : ℕ) (t t' : List ℕ) → Elem a → Elem b → Elem c → Elem d → n < 256 → Power n
    → Table a b c d n t → Spread n (pack (mul a n) (mul b n) (mul c n) (mul d n)) t t' → Table a b c d (2 * n) t'
table_more a b c d n t t' ha hb hc hd hn p old s i hi = go (dec_lt i n)
  where
    low : (x j : ℕ) → Elem x → Elem (mul x j)
    low x j h = laws.mul_below x j h

    go : Dec (i < n) → get_or t' i 0 ≡ products a b c d i
    go (yes m) = s.kept i m ∙ old i m
    go (no f) =
        let e : n + (i - n) ≡ i = omega arith in
        let m : i - n < n = omega arith in
        ap (λ (q : ℕ). get_or t' q 0) (sym e) ∙ s.made (i - n) m
        ∙ ap (λ (y : ℕ). bit_xor y (pack (mul a n) (mul b n) (mul c n) (mul d n))) (old (i - n) m)
        ∙ pack-xor (mul a (i - n)) (mul b (i - n)) (mul c (i - n)) (mul d (i - n)) (mul a n) (mul b n) (mul c n) (mul d n)
        (low a (i - n) ha) (low b (i - n) hb) (low c (i - n) hc) (low a n ha) (low b n hb) (low c n hc)
        ∙ pack-same (sym (near a)) (sym (near b)) (sym (near c)) (sym (near d))
      where
        near : (x : ℕ) → mul x i ≡ bit_xor (mul x (i - n)) (mul x n)
        near x =
            let e : 2 ^ p.k + (i - n) ≡ i = ap (λ (y : ℕ). y + (i - n)) (sym p.is) ∙ omega arith in
            let m : i - n < 2 ^ p.k = omega (arith, p.is) in
            ap (mul x) (sym e) ∙ mul-beside x p.k (i - n) m ∙ ap (λ (y : ℕ). bit_xor (mul x (i - n)) (mul x y)) (sym p.is)

pub power_one : Power 1
power_one = record { k = 0; few = omega arith; is = refl }

pub zero-pack : pack 0 0 0 0 ≡ 0
unfolding pack
zero-pack = refl

pub table-one : (a b c d : ℕ) (t : List ℕ) → 0 < length t → Table a b c d 1 (set t 0 0)
table-one a b c d t h i hi =
    let e : i ≡ 0 = omega arith in
    rw e (get_or-set_same t 0 0 0 h ∙ sym (none (laws.mul-zero a) (laws.mul-zero b) (laws.mul-zero c) (laws.mul-zero d)))
  where
    none : {x y z w : ℕ} → x ≡ 0 → y ≡ 0 → z ≡ 0 → w ≡ 0 → pack x y z w ≡ 0
    none p q r s = cc zero-pack

-- ---- the filling, of a table and of the number that goes on with it

pub filled_start : (x : ℕ) (t : List ℕ) → 0 < length t → FilledTo 1 x (set t 0 0) x
filled_start x t h a b c d p =
    (table-one a b c d t h, packed_same (sym (laws.mul-one a p.first)) (sym (laws.mul-one b p.second)) (sym (laws.mul-one c p.third)) (sym (laws.mul-one d p.fourth)) p)

pub filled-turn : (n x y y' : ℕ) (t t' : List ℕ) → n < 256 → Power n → FilledTo n x t y → Spread n y t t' → Doubled y y' → FilledTo (2 * n) x t' y'
filled-turn n x y y' t t' hn w old made twice a b c d p =
    let f = old a b c d p in (
      table_more a b c d n t t' p.first p.second p.third p.fourth hn w f.0 (rw f.1.is at made),
      packed_same (next a p.first) (next b p.second) (next c p.third) (next d p.fourth) (twice (mul a n) (mul b n) (mul c n) (mul d n) f.1),
    )
  where
    next : (z : ℕ) → Elem z → mul (mul z n) 2 ≡ mul z (2 * n)
    next z h = mul_next z n h (omega arith)
