-- Packed words: their sum is packed by rows, each comes back out, and all are doubled at once. Assumes nothing.
use mathlib.Core.Path.{◌≡◌, sym, ap, ap₂, ◌∙◌}
use Prim.Native.Nat.{ℕ, ◌+◌, ◌*◌, ◌/◌, ◌%◌, ◌<◌}
use native.Mathlib.Omega.{arith}
use lib.Bits.{bit_xor, bit_and, xor_block, and_block, and_mask}
use Rattle.gf16.specs.Field.{polynomial, mul}
use Rattle.gf16.proofs.Laws.{laws}
use Rattle.cauchy.specs.inner.Packed.{pack, Packed}

pub pack-same : {x y z w x' y' z' w' : ℕ} → x ≡ x' → y ≡ y' → z ≡ z' → w ≡ w' → pack x y z w ≡ pack x' y' z' w'
pack-same p q r s = cc

pub pack-xor : (a b c d a' b' c' d' : ℕ) → a < 65536 → b < 65536 → c < 65536 → a' < 65536 → b' < 65536 → c' < 65536
    → bit_xor (pack a b c d) (pack a' b' c' d') ≡ pack (bit_xor a a') (bit_xor b b') (bit_xor c c') (bit_xor d d')
unfolding pack
pack-xor a b c d a' b' c' d' ha hb hc ha' hb' hc' =
    xor_block 16 ((d * 65536 + c) * 65536 + b) ((d' * 65536 + c') * 65536 + b') a a' ha ha'
    ∙ ap (λ (x : ℕ). x * 65536 + bit_xor a a')
    (xor_block 16 (d * 65536 + c) (d' * 65536 + c') b b' hb hb'
    ∙ ap (λ (x : ℕ). x * 65536 + bit_xor b b') (xor_block 16 d d' c c' hc hc'))

-- each word comes back out
pub out_0 : (a b c d : ℕ) → a < 65536 → pack a b c d % 65536 ≡ a
unfolding pack
out_0 a b c d ha = omega arith

pub out_1 : (a b c d : ℕ) → a < 65536 → b < 65536 → pack a b c d / 65536 % 65536 ≡ b
unfolding pack
out_1 a b c d ha hb = omega arith

pub out_2 : (a b c d : ℕ) → a < 65536 → b < 65536 → c < 65536 → pack a b c d / 4294967296 % 65536 ≡ c
unfolding pack
out_2 a b c d ha hb hc = omega arith

pub out_3 : (a b c d : ℕ) → a < 65536 → b < 65536 → c < 65536 → d < 65536 → pack a b c d / 281474976710656 ≡ d
unfolding pack
out_3 a b c d ha hb hc hd = omega arith

pub packed_same : {a b c d a' b' c' d' x : ℕ} → a ≡ a' → b ≡ b' → c ≡ c' → d ≡ d' → Packed a b c d x → Packed a' b' c' d' x
packed_same ea eb ec ed p = rw (ea, eb, ec, ed) at p

-- ---- all doubled at once

pack-and : (a b c d a' b' c' d' : ℕ) → a < 65536 → b < 65536 → c < 65536 → a' < 65536 → b' < 65536 → c' < 65536
    → bit_and (pack a b c d) (pack a' b' c' d') ≡ pack (bit_and a a') (bit_and b b') (bit_and c c') (bit_and d d')
unfolding pack
pack-and a b c d a' b' c' d' ha hb hc ha' hb' hc' =
    and_block 16 ((d * 65536 + c) * 65536 + b) ((d' * 65536 + c') * 65536 + b') a a' ha ha'
    ∙ ap (λ (x : ℕ). x * 65536 + bit_and a a')
    (and_block 16 (d * 65536 + c) (d' * 65536 + c') b b' hb hb'
    ∙ ap (λ (x : ℕ). x * 65536 + bit_and b b') (and_block 16 d d' c c' hc hc'))

pack_times : (a b c d k : ℕ) → pack a b c d * k ≡ pack (a * k) (b * k) (c * k) (d * k)
unfolding pack
pack_times a b c d k = omega arith

-- the low fifteen bits of each word, and the bit above them
low_bits : (a b c d : ℕ) → a < 65536 → b < 65536 → c < 65536 → bit_and (pack a b c d) 0x7FFF7FFF7FFF7FFF ≡ pack (a % 32768) (b % 32768) (c % 32768) (d % 32768)
unfolding pack
low_bits a b c d ha hb hc =
    pack-and a b c d 32767 32767 32767 32767 ha hb hc (omega arith) (omega arith) (omega arith)
    ∙ pack-same (and_mask a 15) (and_mask b 15) (and_mask c 15) (and_mask d 15)

top_bit : (h l : ℕ) → h < 2 → bit_and (h + 2 * l) 1 ≡ h
top_bit h l small = and_mask (h + 2 * l) 1 ∙ omega arith

shifted : (a b c d : ℕ) → a < 65536 → b < 65536 → c < 65536
    → pack a b c d / 32768 ≡ pack (a / 32768 + 2 * (b % 32768)) (b / 32768 + 2 * (c % 32768)) (c / 32768 + 2 * (d % 32768)) (d / 32768)
unfolding pack
shifted a b c d ha hb hc = omega arith

top_bits : (a b c d : ℕ) → a < 65536 → b < 65536 → c < 65536 → d < 65536
    → bit_and (pack a b c d / 32768) 0x1000100010001 ≡ pack (a / 32768) (b / 32768) (c / 32768) (d / 32768)
unfolding pack
top_bits a b c d ha hb hc hd =
    ap (λ (x : ℕ). bit_and x 0x1000100010001) (shifted a b c d ha hb hc)
    ∙ pack-and (a / 32768 + 2 * (b % 32768)) (b / 32768 + 2 * (c % 32768)) (c / 32768 + 2 * (d % 32768)) (d / 32768) 1 1 1 1
    (omega arith) (omega arith) (omega arith) (omega arith) (omega arith) (omega arith)
    ∙ pack-same (top_bit (a / 32768) (b % 32768) (omega arith)) (top_bit (b / 32768) (c % 32768) (omega arith)) (top_bit (c / 32768) (d % 32768) (omega arith))
    (and_mask (d / 32768) 1 ∙ omega arith)

by_two : (y : ℕ) → y < 65536 → mul y 2 ≡ bit_xor (2 * (y % 32768)) (y / 32768 * 45)
unfolding polynomial
by_two y h = laws.mul-double y h

pub pack-doubled : (a b c d x : ℕ) → Packed a b c d x
    → Packed (mul a 2) (mul b 2) (mul c 2) (mul d 2) (bit_xor (bit_and x 0x7FFF7FFF7FFF7FFF * 2) (bit_and (x / 32768) 0x1000100010001 * 45))
pack-doubled a b c d x p =
    record {
      is = ap (λ (y : ℕ). bit_xor (bit_and y 0x7FFF7FFF7FFF7FFF * 2) (bit_and (y / 32768) 0x1000100010001 * 45)) p.is
          ∙ ap₂ (λ (y z : ℕ). bit_xor (y * 2) (z * 45)) (low_bits a b c d p.first p.second p.third) (top_bits a b c d p.first p.second p.third p.fourth)
          ∙ ap₂ bit_xor (pack_times (a % 32768) (b % 32768) (c % 32768) (d % 32768) 2) (pack_times (a / 32768) (b / 32768) (c / 32768) (d / 32768) 45)
          ∙ pack-xor (a % 32768 * 2) (b % 32768 * 2) (c % 32768 * 2) (d % 32768 * 2) (a / 32768 * 45) (b / 32768 * 45) (c / 32768 * 45) (d / 32768 * 45)
          (omega arith) (omega arith) (omega arith) (omega (arith, p.first)) (omega (arith, p.second)) (omega (arith, p.third))
          ∙ pack-same (twice a p.first) (twice b p.second) (twice c p.third) (twice d p.fourth);
      first = laws.mul_below a 2 p.first;
      second = laws.mul_below b 2 p.second;
      third = laws.mul_below c 2 p.third;
      fourth = laws.mul_below d 2 p.fourth;
    }
  where
    twice : (y : ℕ) → y < 65536 → bit_xor (y % 32768 * 2) (y / 32768 * 45) ≡ mul y 2
    twice y h = let e : y % 32768 * 2 ≡ 2 * (y % 32768) = omega arith in rw e (sym (by_two y h))
