-- The law of big-endian fields over the width, and a turn of the loops that read and write one. Assumes nothing.
use Prim.Native.Nat.{ℕ, zero, suc, ◌+◌, ◌-◌, ◌*◌, ◌/◌, ◌%◌, ◌^◌, ◌<◌, ◌≤◌}
use mathlib.Core.Path.{◌≡◌, refl, sym, ap, ap₂, ◌∙◌}
use mathlib.Core.List.{List, [], ◌∷◌, ◌++◌, append-nil}
use native.Mathlib.Nat.{le_trans, pow-le-pow_right, pow-suc}
use native.Mathlib.Omega.{arith}
use lib.Dec.{lit<}
use lib.ListN.{length, get_or, set, take, drop, length-append, length-drop}
use lib.Seq.{get_or-append-add, get_or-drop, take-suc, append_snoc, drop-length, length-take-le, drop_at, drop-drop}
use Rattle.little.specs.Parts.{part, put}
use Rattle.little.specs.Fields.{Bytes}
use Rattle.little.proofs.Laws.{put_laws, part_laws}
use Rattle.sfc.specs.note.Note.{be, big_bytes}

-- ---- reading

pub be_bound : (width : ℕ) (b : List ℕ) → Bytes b → (at : ℕ) → be b at width < 256 ^ width
unfolding be
be_bound zero b h at = lit< tt
be_bound (suc width) b h at = rw pow-suc (omega (arith, h (at + width), be_bound width b h at))

pub be_most : (b : List ℕ) → Bytes b → (at : ℕ) {width most : ℕ} → width ≤ most → be b at width < 256 ^ most
be_most b h at {width} {most} k = le_trans (be_bound width b h at) (pow-le-pow_right (lit< tt) k)

-- two lists with the same bytes there say the same there
pub be-same : (width : ℕ) (b c : List ℕ) (at at' : ℕ) → ((k : ℕ) → k < width → get_or b (at + k) 0 ≡ get_or c (at' + k) 0)
    → be b at width ≡ be c at' width
unfolding be
be-same zero b c at at' h = refl
be-same (suc width) b c at at' h =
    ap₂ (λ (r x : ℕ). r * 256 + x) (be-same width b c at at' (λ k u. h k (omega arith))) (h width (omega arith))

-- a field after a list of n bytes
pub be_skip : (a b : List ℕ) (n at width : ℕ) → length a ≡ n → be (a ++ b) (n + at) width ≡ be b at width
be_skip a b n at width e =
    be-same width (a ++ b) b (n + at) at
    (λ k u.
    let f : n + at + k ≡ length a + (at + k) = omega arith in
    ap (λ (j : ℕ). get_or (a ++ b) j 0) f ∙ get_or-append-add a b (at + k) 0)

-- ---- the bytes of a value

pub length_big : (width v : ℕ) → length (big_bytes width v) ≡ width
unfolding big_bytes
length_big zero v = refl
length_big (suc width) v = length-append (big_bytes width (v / 256)) (v % 256 ∷ []) ∙ omega (arith, length_big width (v / 256))

-- a value's bytes give it back, if the width holds it
pub value_back : (width v : ℕ) → v < 256 ^ width → (tail : List ℕ) → be (big_bytes width v ++ tail) 0 width ≡ v
unfolding be big_bytes
value_back zero v h tail = omega arith
value_back (suc width) v h tail =
    let p : 256 ^ suc width ≡ 256 ^ width * 256 = pow-suc _ _ in
    let l = length_big width (v / 256) in
    let e : (big_bytes width (v / 256) ++ (v % 256 ∷ [])) ++ tail ≡ big_bytes width (v / 256) ++ v % 256 ∷ tail = append_snoc (big_bytes width (v / 256)) (v % 256) tail in
    let f : 0 + width ≡ length (big_bytes width (v / 256)) + 0 = omega arith in
    let g : get_or (big_bytes width (v / 256) ++ v % 256 ∷ tail) (0 + width) 0 ≡ v % 256 = ap (λ (j : ℕ). get_or (big_bytes width (v / 256) ++ v % 256 ∷ tail) j 0) f ∙ get_or-append-add (big_bytes width (v / 256)) (v % 256 ∷ tail) 0 0 in
    let x : List ℕ = (big_bytes width (v / 256) ++ (v % 256 ∷ [])) ++ tail in
    let high : be x 0 width ≡ v / 256 = ap (λ (l : List ℕ). be l 0 width) e ∙ value_back width (v / 256) (omega arith) (v % 256 ∷ tail) in
    let low : get_or x (0 + width) 0 ≡ v % 256 = ap (λ (l : List ℕ). get_or l (0 + width) 0) e ∙ g in
    omega (arith, high, low)

-- a value read has the bytes that it was read from
pub bytes_back : (width : ℕ) (b : List ℕ) → Bytes b → (at : ℕ) → at + width ≤ length b → big_bytes width (be b at width) ≡ part b at width
unfolding be big_bytes
bytes_back zero b h at k = refl
bytes_back (suc width) b h at k =
    let x : get_or b (at + width) 0 < 256 = h (at + width) in
    let d : (be b at width * 256 + get_or b (at + width) 0) / 256 ≡ be b at width = omega arith in
    let m : (be b at width * 256 + get_or b (at + width) 0) % 256 ≡ get_or b (at + width) 0 = omega arith in
    let t = take-suc (drop at b) width 0 (omega (arith, length-drop at b)) in
    rw (d, m) (ap₂ (λ (l : List ℕ) (x : ℕ). l ++ (x ∷ [])) (bytes_back width b h at (omega arith)) (sym (get_or-drop at b width 0)) ∙ sym t)

-- ---- the loops

pub read_turn : (b : List ℕ) (at i v : ℕ) → v ≡ be b at i → v * 256 + get_or b (at + i) 0 ≡ be b at (i + 1)
unfolding be
read_turn b at i v e = let f : i + 1 ≡ suc i = omega arith in rw (f, e)

pub read_fits : (b : List ℕ) → Bytes b → (at i width v : ℕ) → i < width → width ≤ 4 → v ≡ be b at i → v < 256 ^ 3
read_fits b h at i width v k l e = rw e (be_most b h at {most = 3} (omega arith))

big_suc : (i v : ℕ) → big_bytes (suc i) v ≡ big_bytes i (v / 256) ++ (v % 256 ∷ [])
unfolding big_bytes
big_suc i v = refl

-- one byte stored, for a loop that counts i down: what is left to do and what is done are the whole
pub fill_turn : (d whole : List ℕ) (i rest : ℕ) → 0 < i → i ≤ length d → big_bytes i rest ++ drop i d ≡ whole
    → big_bytes (i - 1) (rest / 256) ++ drop (i - 1) (set d (i - 1) (rest % 256)) ≡ whole
fill_turn d whole zero rest h k e = absurd (omega arith)
fill_turn d whole (suc i) rest h k e =
    let f : suc i - 1 ≡ i = omega arith in
    let g : i + 1 ≡ suc i = omega arith in
    rw (f, put_laws.drop-set d i (rest % 256) (omega arith), g) (sym (append_snoc (big_bytes i (rest / 256)) (rest % 256) (drop (suc i) d)) ∙ (rw (big_suc i rest) at e))

pub fill_start : (d : List ℕ) (v : ℕ) → big_bytes (length d) v ++ drop (length d) d ≡ big_bytes (length d) v
fill_start d v = rw drop-length (append-nil _)

pub fill_end : (d whole : List ℕ) (i rest : ℕ) → i ≤ 0 → big_bytes i rest ++ drop i d ≡ whole → d ≡ whole
unfolding big_bytes
fill_end d whole zero rest h e = e
fill_end d whole (suc i) rest h e = absurd (omega arith)

-- a lent part that came back filled
pub put-filled : (xs ys : List ℕ) (at width v n : ℕ) → at + width ≤ length xs → n ≡ at + width - at → ys ≡ big_bytes (length (part xs at n)) v
    → take at xs ++ (ys ++ drop n (drop at xs)) ≡ put xs at (big_bytes width v)
put-filled xs ys at width v n h en ey =
    let e : n ≡ width = omega arith in
    let l : length (part xs at n) ≡ width = ap (λ (k : ℕ). length (part xs at k)) e ∙ part_laws.length_part xs at width h in
    let y : ys ≡ big_bytes width v = ey ∙ ap (λ (k : ℕ). big_bytes k v) l in
    put_laws.lent xs ys at n (ap length y ∙ length_big width v ∙ sym e) ∙ ap (λ (b : List ℕ). put xs at b) y

-- ---- an output, from a place on

pub drop-put : (xs : List ℕ) (at : ℕ) (ys : List ℕ) → at ≤ length xs → drop at (put xs at ys) ≡ ys ++ drop (at + length ys) xs
drop-put xs at ys h =
    drop_at (take at xs) (ys ++ drop (length ys) (drop at xs)) at (length-take-le at xs h)
    ∙ ap (λ (r : List ℕ). ys ++ r) (drop-drop (length ys) at xs)

pub drop_big : (xs xs' : List ℕ) (at width v next : ℕ) → at + width ≡ next → next ≤ length xs → xs' ≡ put xs at (big_bytes width v)
    → drop at xs' ≡ big_bytes width v ++ drop next xs
drop_big xs xs' at width v next e h f =
    let g : at + length (big_bytes width v) ≡ next = omega (arith, length_big width v) in
    ap (drop at) f ∙ drop-put xs at (big_bytes width v) (omega arith) ∙ ap (λ (n : ℕ). big_bytes width v ++ drop n xs) g

pub length-put_big : (xs xs' : List ℕ) (at width v : ℕ) → at + width ≤ length xs → xs' ≡ put xs at (big_bytes width v) → length xs' ≡ length xs
length-put_big xs xs' at width v h f = ap length f ∙ put_laws.length-put xs at (big_bytes width v) (omega (arith, length_big width v))
