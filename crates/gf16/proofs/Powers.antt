-- A product by two in its bits; and by a power of two it is the product of numbers, as long as that is an element. Assumes nothing.
use mathlib.Core.Path.{◌≡◌, sym, ap, ◌∙◌}
use Prim.Native.Nat.{ℕ, zero, suc, ◌+◌, ◌-◌, ◌*◌, ◌/◌, ◌%◌, ◌^◌, ◌≤◌, ◌<◌}
use native.Mathlib.Nat.{zero-add, pow-suc, mul_assoc, mul_comm}
use native.Mathlib.Omega.{arith}
use lib.Bits.{bit_xor, xor_block}
use lib.Pow.{pow_pos}
use Rattle.gf16.specs.Field.{Elem, polynomial, scale, double, mul_bits, mul}
use Rattle.gf16.proofs.Linear.{same}
use Rattle.gf16.proofs.Ring as ring

mul-two : (a : ℕ) → Elem a → mul a 2 ≡ double a
unfolding mul mul_bits double scale polynomial
mul-two = same (λ a. mul a 2) (λ a. double a) (λ x y hx hy. ring.add-mul x y 2) (λ x y hx hy. ring.double-add x y) tt

-- the product by two, with bit 15 apart
double_parts : (q r : ℕ) → q < 2 → r < 2 ^ 15 → double (q * 2 ^ 15 + r) ≡ bit_xor (2 * r) (q * (polynomial - 2 ^ 16))
unfolding double scale polynomial
double_parts zero r hq hr =
    let e : 2 * (0 * 2 ^ 15 + r) ≡ 2 * r = omega arith in
    let f : 2 * r / 2 ^ 16 % 2 ≡ 0 = omega arith in
    rw (e, f)
double_parts (suc zero) r hq hr =
    let e : 2 * (1 * 2 ^ 15 + r) ≡ 1 * 2 ^ 16 + 2 * r = omega arith in
    let f : (1 * 2 ^ 16 + 2 * r) / 2 ^ 16 % 2 ≡ 1 = omega arith in
    rw (e, f) (xor_block 16 1 1 (2 * r) (polynomial - 2 ^ 16) (omega arith) (omega arith) ∙ zero-add (bit_xor (2 * r) (polynomial - 2 ^ 16)))
double_parts (suc (suc q)) r hq hr = absurd (omega arith)

pub mul-double : (a : ℕ) → Elem a → mul a 2 ≡ bit_xor (2 * (a % 2 ^ 15)) (a / 2 ^ 15 * (polynomial - 2 ^ 16))
mul-double a h =
    let e : a / 2 ^ 15 * 2 ^ 15 + a % 2 ^ 15 ≡ a = omega arith in
    mul-two a h ∙ ap double (sym e) ∙ double_parts (a / 2 ^ 15) (a % 2 ^ 15) (omega arith) (omega arith)

mul-twice : (a : ℕ) → 2 * a < 65536 → mul a 2 ≡ 2 * a
mul-twice a h = mul-two a (omega arith) ∙ ring.double_small a h

-- a whole multiple of p that is not nought is no less than p
least : (a p : ℕ) → p ≤ suc a * p
least a p = omega arith

pub mul_power : (a k : ℕ) → Elem (a * 2 ^ k) → mul a (2 ^ k) ≡ a * 2 ^ k
mul_power zero k h = ring.zero-mul (2 ^ k) ∙ omega arith
mul_power (suc a) zero h = ring.mul-one (suc a) (omega arith) ∙ omega arith
mul_power (suc a) (suc k) h =
    let p : 2 ^ suc k ≡ 2 ^ k * 2 = pow-suc 2 k in
    let r : suc a * 2 ^ suc k ≡ 2 * (suc a * 2 ^ k) = ap (◌*◌ (suc a)) p ∙ sym (mul_assoc (suc a) (2 ^ k) 2) ∙ mul_comm (suc a * 2 ^ k) 2 in
    let m : 2 ^ k ≤ suc a * 2 ^ k = least a (2 ^ k) in
    let n : suc a ≤ suc a * 2 ^ k = most (suc a) (2 ^ k) (pow_pos k) in
    ap (mul (suc a)) (p ∙ mul_comm (2 ^ k) 2 ∙ sym (mul-twice (2 ^ k) (omega arith)))
    ∙ sym (ring.mul_assoc (suc a) (2 ^ k) 2 (omega arith) (omega arith) (omega arith))
    ∙ ap (λ (x : ℕ). mul x 2) (mul_power (suc a) k (omega arith)) ∙ mul-twice (suc a * 2 ^ k) (omega arith) ∙ sym r
  where
    most : (x q : ℕ) → 0 < q → x ≤ x * q
    most x zero h = absurd (omega arith)
    most x (suc q) h = omega (arith, mul_comm x (suc q))
