-- Laws of the compression, which the proofs of its functions cite: a rotation by shifts, a half round from its four
-- mixing steps, seven rounds from their halves, words and blocks from bytes. Assumes nothing.
use Rattle.std.proofs.Common.{◌≡◌, ℕ, zero, suc, ◌+◌, ◌-◌, ◌*◌, ◌/◌, ◌%◌, ◌^◌, ◌<◌, ◌≤◌, List, [], ◌∷◌, ◌++◌, length, take, drop, set, get_or, sym, refl, subst, ap, ◌∙◌, append_assoc, add-zero, arith, shr_lt, drop-cons, length-drop, length-set, take_all, get_or-take}
use native.Mathlib.Decide.{ℕ_discrete}
use native.Mathlib.Nat.{mul-mod_left}
use Rattle.std.proofs.lemmas.List.{get_or-set_same, get_or-set_other}
use lib.Bits.{bit_or, bit_xor, or_shifted_r}
use Rattle.std.specs.Int.{rotate_right, from_le_bytes, to_le_bytes, w32}
use Rattle.std.proofs.Math.Seq.{take-suc}
use Rattle.std.proofs.lemmas.Nat.{xor_of_32}
use Rattle.std.proofs.lemmas.Slice.{take-put_mid}
use borrow.Rule.Slice.PartMut.{put_mid}
use lib.Pow.{mod-pow-add, shl-shr}
use Rattle.little.specs.Fields.{le, bytes_of}
use Rattle.little.proofs.Laws.{put_laws, byte_laws}
use Rattle.blake3.specs.Compress.{at, sum32, rotated, mixed, columns, diagonals, round, reordered, rounds, words_from, bytes_of_words}
use Rattle.blake3.specs.Tree.{block_words}

-- j + k bits rotated right by k
rotate : (x j k : ℕ) → x < 2 ^ (j + k) → bit_or (x / 2 ^ k) ((x * 2 ^ j) % 2 ^ (k + j)) ≡ x % 2 ^ k * 2 ^ j + x / 2 ^ k
rotate x j k h = rw (mod-pow-add (x * 2 ^ j) k j, shl-shr x j, mul-mod_left x (2 ^ j), add-zero (x % 2 ^ k * 2 ^ j)) (or_shifted_r (x % 2 ^ k) j (x / 2 ^ k) (shr_lt j k h))

pub rotate32 : (x k : ℕ) → x < 2 ^ 32 → k < 32 → bit_or (x / 2 ^ k) ((x * 2 ^ (32 - k)) % 2 ^ 32) ≡ x % 2 ^ k * 2 ^ (32 - k) + x / 2 ^ k
rotate32 x k h lt =
    let e : k + (32 - k) ≡ 32 = omega arith in
    let e' : (32 - k) + k ≡ 32 = omega arith in
    subst (λ (n : ℕ). bit_or (x / 2 ^ k) ((x * 2 ^ (32 - k)) % 2 ^ n) ≡ x % 2 ^ k * 2 ^ (32 - k) + x / 2 ^ k) e
    (rotate x (32 - k) k (subst (λ (n : ℕ). x < 2 ^ n) (sym e') h))

-- a rotation by the library's method
by_rotate_right : (x k : ℕ) {r : ℕ} → x < 2 ^ 32 → k < 32 → r ≡ bit_or (x / 2 ^ k) ((x * 2 ^ (32 - k)) % 2 ^ 32) → r ≡ rotated x k
unfolding rotated
by_rotate_right x k h lt e = e ∙ rotate32 x k h lt

mod32 : (x : ℕ) → x % 2 ^ 32 < 2 ^ 32
mod32 x = omega arith

-- the mixing step from its four rotations
pub mixed-made : (a b c d x y : ℕ) {d₁ b₁ d₂ b₂ : ℕ} → b < 2 ^ 32 → d < 2 ^ 32 → d₁ < 2 ^ 32 → b₁ < 2 ^ 32
    → d₁ ≡ rotate_right w32 (bit_xor d (sum32 (sum32 a b) x)) 16
    → b₁ ≡ rotate_right w32 (bit_xor b (sum32 c d₁)) 12
    → d₂ ≡ rotate_right w32 (bit_xor d₁ (sum32 (sum32 (sum32 (sum32 a b) x) b₁) y)) 8
    → b₂ ≡ rotate_right w32 (bit_xor b₁ (sum32 (sum32 c d₁) d₂)) 7
    → sum32 (sum32 (sum32 (sum32 a b) x) b₁) y ∷ b₂ ∷ sum32 (sum32 c d₁) d₂ ∷ d₂ ∷ [] ≡ mixed a b c d x y
unfolding mixed
mixed-made a b c d x y {d₁} {b₁} {d₂} {b₂} fb fd fd₁ fb₁ e₁ e₂ e₃ e₄ =
    let r₁ : d₁ ≡ rotated (bit_xor d (sum32 (sum32 a b) x)) 16 = by_rotate_right _ 16 (xor_of_32 _ _ fd (mod32 _)) (omega arith) e₁ in
    let r₂ : b₁ ≡ rotated (bit_xor b (sum32 c d₁)) 12 = by_rotate_right _ 12 (xor_of_32 _ _ fb (mod32 _)) (omega arith) e₂ in
    let r₃ : d₂ ≡ rotated (bit_xor d₁ (sum32 (sum32 (sum32 (sum32 a b) x) b₁) y)) 8 = by_rotate_right _ 8 (xor_of_32 _ _ fd₁ (mod32 _)) (omega arith) e₃ in
    let r₄ : b₂ ≡ rotated (bit_xor b₁ (sum32 (sum32 c d₁) d₂)) 7 = by_rotate_right _ 7 (xor_of_32 _ _ fb₁ (mod32 _)) (omega arith) e₄ in
    rw (r₄, r₃, r₂, r₁)

-- n elements of a list, from index j + k on
reads_from : ℕ → ℕ → ℕ → List ℕ → List ℕ
reads_from zero k j l = []
reads_from (suc n) k j l = at l (j + k) ∷ reads_from n (suc k) j l

reads_take : (n k j : ℕ) (l : List ℕ) → j + k + n ≤ length l → take n (drop (j + k) l) ≡ reads_from n k j l
unfolding reads_from
reads_take zero k j l h = refl
reads_take (suc n) k j l h =
    let lt : j + k < length l = omega arith in
    let e : suc (j + k) ≡ j + suc k = omega arith in
    let le : j + suc k + n ≤ length l = omega arith in
    ap (λ (r : List ℕ). take (suc n) r) (drop-cons l (j + k) 0 lt)
    ∙ ap (λ (r : List ℕ). at l (j + k) ∷ r) (ap (λ (m : ℕ). take n (drop m l)) e ∙ reads_take n (suc k) j l le)

-- eight words by their places: the first of a list, and those after them
pub first_eight : (l : List ℕ) → 8 ≤ length l → at l 0 ∷ at l 1 ∷ at l 2 ∷ at l 3 ∷ at l 4 ∷ at l 5 ∷ at l 6 ∷ at l 7 ∷ [] ≡ take 8 l
unfolding reads_from
first_eight l le = sym (reads_take 8 0 0 l le)

pub next_eight : (l : List ℕ) → length l ≡ 16 → at l 8 ∷ at l 9 ∷ at l 10 ∷ at l 11 ∷ at l 12 ∷ at l 13 ∷ at l 14 ∷ at l 15 ∷ [] ≡ drop 8 l
unfolding reads_from
next_eight l e =
    let d : length (drop 8 l) ≤ 8 = omega (arith, length-drop 8 l) in
    sym (sym (take_all 8 (drop 8 l) d) ∙ reads_take 8 0 8 l (omega arith))

pub all_eight : (l : List ℕ) → length l ≡ 8 → at l 0 ∷ at l 1 ∷ at l 2 ∷ at l 3 ∷ at l 4 ∷ at l 5 ∷ at l 6 ∷ at l 7 ∷ [] ≡ l
all_eight l e = first_eight l (omega arith) ∙ take_all 8 l (omega arith)

-- seven rounds from their fourteen half rounds, each with the message's words at the places that it takes them from
pub rounds-made : (m0 m1 m2 m3 m4 m5 m6 m7 m8 m9 m10 m11 m12 m13 m14 m15 : ℕ) (v c1 d1 c2 d2 c3 d3 c4 d4 c5 d5 c6 d6 c7 d7 : List ℕ)
    → c1 ≡ columns v (m0 ∷ m1 ∷ m2 ∷ m3 ∷ m4 ∷ m5 ∷ m6 ∷ m7 ∷ [])
    → d1 ≡ diagonals c1 (m8 ∷ m9 ∷ m10 ∷ m11 ∷ m12 ∷ m13 ∷ m14 ∷ m15 ∷ [])
    → c2 ≡ columns d1 (m2 ∷ m6 ∷ m3 ∷ m10 ∷ m7 ∷ m0 ∷ m4 ∷ m13 ∷ [])
    → d2 ≡ diagonals c2 (m1 ∷ m11 ∷ m12 ∷ m5 ∷ m9 ∷ m14 ∷ m15 ∷ m8 ∷ [])
    → c3 ≡ columns d2 (m3 ∷ m4 ∷ m10 ∷ m12 ∷ m13 ∷ m2 ∷ m7 ∷ m14 ∷ [])
    → d3 ≡ diagonals c3 (m6 ∷ m5 ∷ m9 ∷ m0 ∷ m11 ∷ m15 ∷ m8 ∷ m1 ∷ [])
    → c4 ≡ columns d3 (m10 ∷ m7 ∷ m12 ∷ m9 ∷ m14 ∷ m3 ∷ m13 ∷ m15 ∷ [])
    → d4 ≡ diagonals c4 (m4 ∷ m0 ∷ m11 ∷ m2 ∷ m5 ∷ m8 ∷ m1 ∷ m6 ∷ [])
    → c5 ≡ columns d4 (m12 ∷ m13 ∷ m9 ∷ m11 ∷ m15 ∷ m10 ∷ m14 ∷ m8 ∷ [])
    → d5 ≡ diagonals c5 (m7 ∷ m2 ∷ m5 ∷ m3 ∷ m0 ∷ m1 ∷ m6 ∷ m4 ∷ [])
    → c6 ≡ columns d5 (m9 ∷ m14 ∷ m11 ∷ m5 ∷ m8 ∷ m12 ∷ m15 ∷ m1 ∷ [])
    → d6 ≡ diagonals c6 (m13 ∷ m3 ∷ m0 ∷ m10 ∷ m2 ∷ m6 ∷ m4 ∷ m7 ∷ [])
    → c7 ≡ columns d6 (m11 ∷ m15 ∷ m5 ∷ m0 ∷ m1 ∷ m9 ∷ m8 ∷ m6 ∷ [])
    → d7 ≡ diagonals c7 (m14 ∷ m10 ∷ m2 ∷ m12 ∷ m3 ∷ m4 ∷ m7 ∷ m13 ∷ [])
    → d7 ≡ rounds 7 v (m0 ∷ m1 ∷ m2 ∷ m3 ∷ m4 ∷ m5 ∷ m6 ∷ m7 ∷ m8 ∷ m9 ∷ m10 ∷ m11 ∷ m12 ∷ m13 ∷ m14 ∷ m15 ∷ [])
unfolding rounds round reordered
rounds-made m0 m1 m2 m3 m4 m5 m6 m7 m8 m9 m10 m11 m12 m13 m14 m15 v c1 d1 c2 d2 c3 d3 c4 d4 c5 d5 c6 d6 c7 d7 f1 g1 f2 g2 f3 g3 f4 g4 f5 g5 f6 g6 f7 g7 = rw (g7, f7, g6, f6, g5, f5, g4, f4, g3, f3, g2, f2, g1, f1)

pub all_sixteen : (l : List ℕ) → length l ≡ 16
    → at l 0 ∷ at l 1 ∷ at l 2 ∷ at l 3 ∷ at l 4 ∷ at l 5 ∷ at l 6 ∷ at l 7 ∷ at l 8 ∷ at l 9 ∷ at l 10 ∷ at l 11 ∷ at l 12 ∷ at l 13 ∷ at l 14 ∷ at l 15 ∷ [] ≡ l
unfolding reads_from
all_sixteen l e = sym (reads_take 16 0 0 l (omega arith)) ∙ take_all 16 l (omega arith)

-- a word is its four bytes, each read in its own place
pub word-made : (xs : List ℕ) (j : ℕ) {r : ℕ} → r ≡ from_le_bytes w32 (at xs j ∷ at xs (j + 1) ∷ at xs (j + 2) ∷ at xs (j + 3) ∷ []) → r ≡ le xs j 4
unfolding le
word-made xs j e =
    let e₁ : j + 1 ≡ suc j = omega arith in
    let e₂ : j + 2 ≡ suc (suc j) = omega arith in
    let e₃ : j + 3 ≡ suc (suc (suc j)) = omega arith in
    rw (e, e₁, e₂, e₃) (omega arith)

pub block_made : (b : List ℕ) {a0 a1 a2 a3 a4 a5 a6 a7 a8 a9 a10 a11 a12 a13 a14 a15 : ℕ}
    → a0 ≡ le b 0 4 → a1 ≡ le b 4 4 → a2 ≡ le b 8 4 → a3 ≡ le b 12 4 → a4 ≡ le b 16 4 → a5 ≡ le b 20 4 → a6 ≡ le b 24 4 → a7 ≡ le b 28 4 → a8 ≡ le b 32 4 → a9 ≡ le b 36 4 → a10 ≡ le b 40 4 → a11 ≡ le b 44 4 → a12 ≡ le b 48 4 → a13 ≡ le b 52 4 → a14 ≡ le b 56 4 → a15 ≡ le b 60 4
    → a0 ∷ a1 ∷ a2 ∷ a3 ∷ a4 ∷ a5 ∷ a6 ∷ a7 ∷ a8 ∷ a9 ∷ a10 ∷ a11 ∷ a12 ∷ a13 ∷ a14 ∷ a15 ∷ [] ≡ block_words b
unfolding words_from
block_made b e0 e1 e2 e3 e4 e5 e6 e7 e8 e9 e10 e11 e12 e13 e14 e15 = rw (e0, e1, e2, e3, e4, e5, e6, e7, e8, e9, e10, e11, e12, e13, e14, e15)

-- words of two lists whose bytes are the same
words_same : (n j : ℕ) (xs ys : List ℕ) → ((k : ℕ) → k < j + 4 * n → get_or xs k 0 ≡ get_or ys k 0) → words_from n xs j ≡ words_from n ys j
unfolding words_from
words_same zero j xs ys f = refl
words_same (suc n) j xs ys f =
    rw (byte_laws.le_same 4 xs ys j j (λ k lt. f (j + k) (omega arith))) (ap (λ (ws : List ℕ). le ys j 4 ∷ ws) (words_same n (j + 4) xs ys (λ k lt. f k (omega arith))))

-- a block is read from its first bytes alone, and a short one as if zeros stood after it
pub block_front : (xs : List ℕ) → block_words (take 64 xs) ≡ block_words xs
block_front xs = words_same 16 0 (take 64 xs) xs (λ k lt. get_or-take 64 xs k 0 lt)

-- one element more is what the law of the list gives at its place
pub one_more : (ws : List ℕ) (f : ℕ → ℕ) (n j : ℕ) {v : ℕ} → length ws ≡ n → j < n → ((i : ℕ) → i < j → get_or ws i 0 ≡ f i) → v ≡ f j
    → (length (set ws j v) ≡ n) × ((i : ℕ) → i < j + 1 → get_or (set ws j v) i 0 ≡ f i)
one_more ws f n j {v} l lt before e = (length-set ws j v ∙ l, λ i below. go i below (ℕ_discrete i j))
  where
    go : (i : ℕ) → i < j + 1 → Dec (i ≡ j) → get_or (set ws j v) i 0 ≡ f i
    go i below (yes q) = let room : j < length ws = omega (arith, l, lt) in rw q (get_or-set_same ws j v 0 room ∙ e)
    go i below (no d) = get_or-set_other ws j i v 0 d ∙ before i (omega (arith, below, d))

-- ---- the bytes of words

words_append : (vs ws : List ℕ) → bytes_of_words (vs ++ ws) ≡ bytes_of_words vs ++ bytes_of_words ws
unfolding bytes_of_words
words_append [] ws = refl
words_append (v ∷ vs) ws = rw (words_append vs ws) (sym (append_assoc (bytes_of 4 v) (bytes_of_words vs) (bytes_of_words ws)))

le_bytes : (n : ℕ) → to_le_bytes w32 n ≡ bytes_of 4 n
unfolding bytes_of
le_bytes n =
    let e : n / 65536 ≡ n / 256 / 256 = omega arith in
    let e' : n / 16777216 ≡ n / 256 / 256 / 256 = omega arith in
    rw (e, e')

-- a turn of the loop that stores words one after the other: xs are the bytes before it, and ys the next word's
pub word_stored : (k : ℕ) (vs xs ys : List ℕ) → k < length vs → 4 * k ≤ length xs → ys ≡ to_le_bytes w32 (at vs k) → take (4 * k) xs ≡ bytes_of_words (take k vs)
    → take (4 * (k + 1)) (put_mid (4 * k) (4 * k + 4 - 4 * k) xs ys) ≡ bytes_of_words (take (k + 1) vs)
unfolding bytes_of_words bytes_of
word_stored k vs xs ys lt room ey inv =
    let ly : length ys ≡ 4 = ap (λ (l : List ℕ). length l) ey in
    let n : 4 * (k + 1) ≡ 4 * k + length ys = omega arith in
    let k₁ : k + 1 ≡ suc k = omega arith in
    take-put_mid (4 * k) (4 * k + 4 - 4 * k) xs ys (4 * (k + 1)) n room ∙ ap (λ (l : List ℕ). l ++ ys) inv
    ∙ rw (k₁, take-suc vs k 0 lt) (ap (λ (l : List ℕ). bytes_of_words (take k vs) ++ l) (ey ∙ le_bytes (at vs k)) ∙ sym (words_append (take k vs) (at vs k ∷ [])))

pub long_still : (k : ℕ) (xs ys : List ℕ) → 4 * k + 4 ≤ length xs → length ys ≡ 4 → length (put_mid (4 * k) (4 * k + 4 - 4 * k) xs ys) ≡ length xs
long_still k xs ys room ly = let e : 4 * k + 4 - 4 * k ≡ length ys = omega arith in rw e (put_laws.length-put xs (4 * k) ys (omega arith))

pub words_all : (k : ℕ) (vs xs : List ℕ) → 8 ≤ k → length vs ≡ 8 → length xs ≡ 32 → take (4 * k) xs ≡ bytes_of_words (take k vs) → xs ≡ bytes_of_words vs
words_all k vs xs end lv lx inv = sym (take_all (4 * k) xs (omega arith)) ∙ inv ∙ ap bytes_of_words (take_all k vs (omega arith))
