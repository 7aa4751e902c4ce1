-- A table of inverses is known by a test that antt computes: each entry's product with its place is 1. Assumes nothing.
use mathlib.Core.Path.{◌≡◌, sym, ap, ap₂, ◌∙◌}
use mathlib.Core.Bool.{Bool}
use mathlib.Core.List.{List}
use Prim.Native.Nat.{ℕ, zero, suc, ◌+◌, ◌*◌, ◌/◌, ◌%◌, ◌<◌}
use native.Mathlib.Omega.{arith}
use lib.Bits.{bit_xor, xor_shifted}
use lib.Dec.{T, eqb, ltb, eqb→eq, ltb→lt}
use lib.ListN.{length, get_or}
use Rattle.gf16.specs.Field.{Elem, mul, inv}
use Rattle.gf16.specs.inner.{ListsInverses}
use Rattle.gf16.proofs.Every.{both, both_left, both_right, every, every_entry}
use Rattle.gf16.proofs.Laws.{laws, worked}

-- an element whose product with the odd number of its place is 1: one product, where `inv` would be thirty
unfoldable pub is_listed_inverse : ℕ → ℕ → Bool
is_listed_inverse i x = both (ltb x 65536) (eqb (mul (2 * i + 1) x) 1)

-- an element has no second inverse
only_inverse : (a x : ℕ) → Elem a → Elem x → mul a x ≡ 1 → x ≡ inv a
only_inverse a x ha hx e =
    let n : a ≡ 0 → ⊥ = λ z. absurd (let f : mul a x ≡ 0 = rw z (laws.zero-mul x) in omega arith) in
    let i = laws.inv-closed a ha in
    sym (laws.one-mul x hx)
    ∙ ap (λ (y : ℕ). mul y x) (sym (laws.inv-mul a ha n))
    ∙ laws.mul_assoc (inv a) a x i ha hx
    ∙ ap (λ (y : ℕ). mul (inv a) y) e
    ∙ laws.mul-one (inv a) i

is_inverse : (i x : ℕ) → Elem (2 * i + 1) → T (is_listed_inverse i x) → x ≡ inv (2 * i + 1)
unfolding is_listed_inverse
is_inverse i x h t =
    only_inverse (2 * i + 1) x h
    (ltb→lt x 65536 (both_left (ltb x 65536) (eqb (mul (2 * i + 1) x) 1) t))
    (eqb→eq (mul (2 * i + 1) x) 1 (both_right (ltb x 65536) (eqb (mul (2 * i + 1) x) 1) t))

pub lists_inverses : (xs : List ℕ) → T (both (ltb (length xs) 32768) (every is_listed_inverse 0 xs)) → ListsInverses xs
unfolding ListsInverses
lists_inverses xs t i h =
    let l : length xs < 32768 = ltb→lt (length xs) 32768 (both_left (ltb (length xs) 32768) (every is_listed_inverse 0 xs) t) in
    is_inverse i (get_or xs i 0) (omega arith) (every_entry is_listed_inverse xs (both_right (ltb (length xs) 32768) (every is_listed_inverse 0 xs) t) i h)

-- an odd number's inverse is in the list, at half its place
pub odd_inverse : (xs : List ℕ) (a : ℕ) → ListsInverses xs → a % 2 ≡ 1 → a / 2 < length xs → get_or xs (a / 2) 0 ≡ inv a
unfolding ListsInverses
odd_inverse xs a l o h = let e : 2 * (a / 2) + 1 ≡ a = omega arith in l (a / 2) h ∙ ap inv e

-- an even number's inverse is half of its half's
pub even_inverse : (a r : ℕ) → 0 < a → Elem a → a % 2 ≡ 0 → Elem r → mul r 2 ≡ inv (a / 2) → r ≡ inv a
even_inverse a r p ha o hr e =
    let x = a / 2 in
    let hx : Elem x = omega arith in
    let two : Elem 2 = omega arith in
    let d : a ≡ mul x 2 = sym (laws.mul_power x 1 (omega arith) ∙ omega arith) in
    only_inverse a r ha hr
    (ap (λ (y : ℕ). mul y r) d
    ∙ laws.mul_assoc x 2 r hx two hr
    ∙ ap (mul x) (laws.mul_comm 2 r two hr ∙ e)
    ∙ laws.mul-inv x hx (λ z. absurd (omega arith)))

-- a bit times one half, doubled
bit_halved : (b : ℕ) → b < 2 → mul (b * 0x8016) 2 ≡ b
bit_halved zero h = laws.zero-mul 2
bit_halved (suc zero) h = laws.mul_comm 0x8016 2 (omega arith) (omega arith) ∙ worked.c1
bit_halved (suc (suc b)) h = absurd (omega arith)

-- half the number, and one half where that leaves a rest, is the element whose double is a
pub doubled_half : (a : ℕ) → Elem a → mul (bit_xor (a / 2) (a % 2 * 0x8016)) 2 ≡ a
doubled_half a h =
    laws.add-mul (a / 2) (a % 2 * 0x8016) 2
    ∙ ap₂ bit_xor (laws.mul_power (a / 2) 1 (omega arith)) (bit_halved (a % 2) (omega arith))
    ∙ xor_shifted (a / 2) 1 (a % 2) (omega arith)
    ∙ omega arith
