-- The code over flat byte stores: N blocks of S = 2 W bytes, word w of block i at the bytes i S + 2 w and i S + 2 w + 1, low byte first. Column w is word w of each block,
-- and each column is coded by itself.
use mathlib.Core.Path.{◌≡◌, refl, sym, ◌∙◌, ap, ap₂}
use mathlib.Core.List.{List, [], ◌∷◌}
use Prim.Native.Nat.{ℕ, zero, suc, ◌+◌, ◌*◌, ◌/◌, ◌%◌, ◌≤◌, ◌<◌}
use native.Mathlib.Nat.{add-zero, zero-add, add_assoc, mod-lt, div-add-mod', div-lt_iff_lt-mul, mul-le-mul_right}
use native.Mathlib.Omega.{arith}
use lib.Arith.{digits_div, digits_mod}
use lib.ListN.{length, get_or}
use lib.Seq.{ext_get_or}
use Rattle.cauchy.proofs.algebra.WordCode.{NatOps, WordLaws, code_word, Agree, FitAt}
use Rattle.cauchy.specs.Decode.{count}
use Rattle.cauchy.specs.inner.Promises.{Below}
use Rattle.cauchy.proofs.algebra.WordCode
use Rattle.cauchy.specs.Code.{word_at}
use Rattle.cauchy.specs.Calls.{build}
use Rattle.cauchy.proofs.blocks.WordBytes.{byte_any, word_is, word_lt}

-- word w of the blocks i, i + 1, … : n of them
unfoldable pub column_from : ℕ → ℕ → ℕ → ℕ → List ℕ → List ℕ
column_from S w i zero s = []
column_from S w i (suc n) s = word_at s (i * S + 2 * w) ∷ column_from S w (suc i) n s

abbrev pub column : ℕ → ℕ → ℕ → List ℕ → List ℕ
column S w n s = column_from S w 0 n s

pub length-column : (S w i n : ℕ) (s : List ℕ) → length (column_from S w i n s) ≡ n
unfolding column_from
length-column S w i zero s = refl
length-column S w i (suc n) s = ap suc (length-column S w (suc i) n s)

get_or-column_from : (S w i n : ℕ) (s : List ℕ) (k : ℕ) → k < n → get_or (column_from S w i n s) k 0 ≡ word_at s ((i + k) * S + 2 * w)
unfolding column_from
get_or-column_from S w i zero s k h = absurd (omega arith)
get_or-column_from S w i (suc n) s zero h = ap (λ (j : ℕ). word_at s (j * S + 2 * w)) (omega arith)
get_or-column_from S w i (suc n) s (suc k) h = get_or-column_from S w (suc i) n s k (omega arith) ∙ ap (λ (j : ℕ). word_at s (j * S + 2 * w)) (omega arith)

pub get_or-column : (S w n : ℕ) (s : List ℕ) (k : ℕ) → k < n → get_or (column S w n s) k 0 ≡ word_at s (k * S + 2 * w)
get_or-column S w n s k h = get_or-column_from S w 0 n s k h ∙ ap (λ (j : ℕ). word_at s (j * S + 2 * w)) (omega arith)

pub below_column : (S w n : ℕ) (s : List ℕ) → Below 256 s → Below 65536 (column S w n s)
below_column S w n s h k m =
    let m' : k < n = omega (arith, length-column S w 0 n s) in
    rw (get_or-column S w n s k m') (word_lt s (k * S + 2 * w) h)

word_low : (a b a' b' : ℕ) → a < 256 → a' < 256 → a + 256 * b ≡ a' + 256 * b' → a ≡ a'
word_low a b a' b' h h' e = omega arith

word_high : (a b a' b' : ℕ) → a < 256 → a' < 256 → a + 256 * b ≡ a' + 256 * b' → b ≡ b'
word_high a b a' b' h h' e = omega arith

-- ---- a byte's place

pub record Place (S W N q : ℕ) : Type 0 where
  pub i : ℕ
  pub w : ℕ
  pub h : ℕ
  pub i_lt : i < N
  pub w_lt : w < W
  pub h_lt : h < 2
  pub at : q ≡ i * S + (2 * w + h)

factor_pos : (S N q : ℕ) → q < N * S → 0 < S
factor_pos zero N q m = absurd (omega arith)
factor_pos (suc S) N q m = omega arith

pub place : (S W N q : ℕ) → S ≡ 2 * W → q < N * S → Place S W N q
place S W N q e m = record {
  i = q / S;
  w = q % S / 2;
  h = q % S % 2;
  i_lt = (div-lt_iff_lt-mul pos).1 m;
  w_lt = omega (arith, mod-lt q pos);
  h_lt = omega arith;
  at = omega (arith, div-add-mod' q S);
}
  where
    pos : 0 < S
    pos = factor_pos S N q m

-- ---- two stores with the same columns are one

pub same-columns : (S W N : ℕ) (s s' : List ℕ) → S ≡ 2 * W → length s ≡ N * S → length s' ≡ N * S → Below 256 s → Below 256 s'
    → ((w : ℕ) → w < W → column S w N s ≡ column S w N s') → s ≡ s'
same-columns S W N s s' e l l' b b' f = ext_get_or 0 s s' (l ∙ sym l') (λ q m. at_place q (place S W N q e (omega arith)))
  where
    same_word : (i w : ℕ) → i < N → w < W
        → get_or s (i * S + 2 * w) 0 + 256 * get_or s (i * S + 2 * w + 1) 0 ≡ get_or s' (i * S + 2 * w) 0 + 256 * get_or s' (i * S + 2 * w + 1) 0
    same_word i w hi hw =
        sym (word_is s (i * S + 2 * w)) ∙ sym (get_or-column S w N s i hi) ∙ ap (λ (l : List ℕ). get_or l i 0) (f w hw) ∙ get_or-column S w N s' i hi
        ∙ word_is s' (i * S + 2 * w)

    at_byte : (i w h : ℕ) → i < N → w < W → h < 2 → get_or s (i * S + 2 * w + h) 0 ≡ get_or s' (i * S + 2 * w + h) 0
    at_byte i w zero hi hw hh = rw (add-zero (i * S + 2 * w)) (word_low _ _ _ _ (byte_any s b (i * S + 2 * w)) (byte_any s' b' (i * S + 2 * w)) (same_word i w hi hw))
    at_byte i w (suc zero) hi hw hh = word_high _ _ _ _ (byte_any s b (i * S + 2 * w)) (byte_any s' b' (i * S + 2 * w)) (same_word i w hi hw)
    at_byte i w (suc (suc h)) hi hw hh = absurd (omega arith)

    at_place : (q : ℕ) → Place S W N q → get_or s q 0 ≡ get_or s' q 0
    at_place q p = rw (p.at ∙ sym (add_assoc (p.i * S) (2 * p.w) p.h)) (at_byte p.i p.w p.h p.i_lt p.w_lt p.h_lt)

-- ---- a store from its columns

pub length-build : (g : ℕ → ℕ) (c n : ℕ) → length (build g c n) ≡ n
unfolding build
length-build g c zero = refl
length-build g c (suc n) = ap suc (length-build g (suc c) n)

pub get_or-build : (g : ℕ → ℕ) (c n i : ℕ) → i < n → get_or (build g c n) i 0 ≡ g (c + i)
unfolding build
get_or-build g c zero i h = absurd (omega arith)
get_or-build g c (suc n) zero h = ap g (omega arith)
get_or-build g c (suc n) (suc i) h = get_or-build g (suc c) n i (omega arith) ∙ ap g (omega arith)

-- byte h of a word
half : ℕ → ℕ → ℕ
half zero x = x % 256
half (suc h) x = x / 256

byte_from : ℕ → (ℕ → List ℕ) → ℕ → ℕ
byte_from S cols q = half (q % S % 2) (get_or (cols (q % S / 2)) (q / S) 0)

byte_from_at : (S W : ℕ) (cols : ℕ → List ℕ) (i w h : ℕ) → S ≡ 2 * W → w < W → h < 2 → byte_from S cols (i * S + (2 * w + h)) ≡ half h (get_or (cols w) i 0)
unfolding byte_from
byte_from_at S W cols i w h e hw hh =
    let r : 2 * w + h < S = omega arith in
    ap₂ (λ (u v : ℕ). half (u % 2) (get_or (cols (u / 2)) v 0)) (digits_mod i r) (digits_div i r)
    ∙ ap₂ (λ (u v : ℕ). half u (get_or (cols v) i 0)) (omega arith) (omega arith)

pub stored : ℕ → ℕ → (ℕ → List ℕ) → List ℕ
stored S N cols = build (byte_from S cols) 0 (N * S)

length-stored : (S N : ℕ) (cols : ℕ → List ℕ) → length (stored S N cols) ≡ N * S
unfolding stored
length-stored S N cols = length-build (byte_from S cols) 0 (N * S)

inside : (S W N i w h : ℕ) → S ≡ 2 * W → i < N → w < W → h < 2 → i * S + (2 * w + h) < N * S
inside S W N i w h e hi hw hh = omega (arith, mul-le-mul_right S hi)

get_or-stored : (S W N : ℕ) (cols : ℕ → List ℕ) (i w h : ℕ) → S ≡ 2 * W → i < N → w < W → h < 2 → get_or (stored S N cols) (i * S + (2 * w + h)) 0 ≡ half h (get_or (cols w) i 0)
unfolding stored
get_or-stored S W N cols i w h e hi hw hh =
    get_or-build (byte_from S cols) 0 (N * S) (i * S + (2 * w + h)) (inside S W N i w h e hi hw hh) ∙ ap (byte_from S cols) (zero-add (i * S + (2 * w + h))) ∙ byte_from_at S W cols i w h e hw hh

word_stored : (S W N : ℕ) (cols : ℕ → List ℕ) (i w : ℕ) → S ≡ 2 * W → i < N → w < W → word_at (stored S N cols) (i * S + 2 * w) ≡ get_or (cols w) i 0
unfolding half
word_stored S W N cols i w e hi hw =
    word_is (stored S N cols) (i * S + 2 * w)
    ∙ ap₂ (λ (x y : ℕ). x + 256 * y)
    (ap (λ (q : ℕ). get_or (stored S N cols) q 0) (omega arith) ∙ get_or-stored S W N cols i w 0 e hi hw (omega arith))
    (ap (λ (q : ℕ). get_or (stored S N cols) q 0) (omega arith) ∙ get_or-stored S W N cols i w 1 e hi hw (omega arith))
    ∙ omega arith

column-stored : (S W N : ℕ) (cols : ℕ → List ℕ) (w : ℕ) → S ≡ 2 * W → w < W → length (cols w) ≡ N → column S w N (stored S N cols) ≡ cols w
column-stored S W N cols w e hw l =
    ext_get_or 0 (column S w N (stored S N cols)) (cols w) (length-column S w 0 N (stored S N cols) ∙ sym l)
    (λ i m. let m' : i < N = omega (arith, length-column S w 0 N (stored S N cols)) in get_or-column S w N (stored S N cols) i m' ∙ word_stored S W N cols i w e m' hw)

half_lt : (h x : ℕ) → x < 65536 → half h x < 256
unfolding half
half_lt zero x m = omega arith
half_lt (suc h) x m = omega arith

below_stored : (S W N : ℕ) (cols : ℕ → List ℕ) → S ≡ 2 * W → ((w : ℕ) → w < W → (length (cols w) ≡ N) × Below 65536 (cols w)) → Below 256 (stored S N cols)
below_stored S W N cols e f q m = go (place S W N q e (omega (arith, length-stored S N cols)))
  where
    go : Place S W N q → get_or (stored S N cols) q 0 < 256
    go p =
        let g : (length (cols p.w) ≡ N) × Below 65536 (cols p.w) = f p.w p.w_lt in
        rw p.at (rw (get_or-stored S W N cols p.i p.w p.h e p.i_lt p.w_lt p.h_lt) (half_lt p.h (get_or (cols p.w) p.i 0) (g.1 p.i (omega (arith, g.0, p.i_lt)))))

-- ---- the theorems, over stores

-- the stores s and s' of N data blocks give the same code words in each column, at each block that is held
abbrev pub SameHeld : NatOps → ℕ → ℕ → ℕ → ℕ → List ℕ → List ℕ → List ℕ → Type 0
SameHeld A S W N M ms s s' = (w : ℕ) → w < W → Agree A M N ms (column S w N s) (column S w N s')

-- the store s of N data blocks has the held blocks of the store t of N + M blocks
abbrev pub FitsStore : NatOps → ℕ → ℕ → ℕ → ℕ → List ℕ → List ℕ → List ℕ → Type 0
FitsStore A S W N M ms t s = (w : ℕ) → w < W → (i : ℕ) → i < N + M → 0 < get_or ms i 0 → code_word A M (column S w N s) i ≡ word_at t (i * S + 2 * w)

module _ (A : NatOps) (L : WordLaws A 65536) (S W N M : ℕ) (e : S ≡ 2 * W) (h : M + N ≤ 65536) (ms : List ℕ) (lm : length ms ≡ N + M) where
  -- a store of N blocks of bytes
  abbrev pub Blocks : List ℕ → Type 0
  Blocks s = (length s ≡ N * S) × Below 256 s

  pub known_store : (s s' : List ℕ) → Blocks s → Blocks s' → N ≤ count ms → SameHeld A S W N M ms s s' → s ≡ s'
  known_store s s' b b' c a =
      same-columns S W N s s' e b.0 b'.0 b.1 b'.1 λ w hw.
      WordCode.known A 65536 L M N h ms lm (column S w N s) (column S w N s') (length-column S w 0 N s) (length-column S w 0 N s') (below_column S w N s b.1) (below_column S w N s' b'.1) c (a w hw)

  pub known_store-fits : (t s s' : List ℕ) → Blocks s → Blocks s' → N ≤ count ms → FitsStore A S W N M ms t s → FitsStore A S W N M ms t s' → s ≡ s'
  known_store-fits t s s' b b' c f f' = known_store s s' b b' c (λ w hw i m q. f w hw i m q ∙ sym (f' w hw i m q))

  -- at most N blocks of t are held: some data have them
  pub some_store : (t : List ℕ) → length t ≡ (N + M) * S → Below 256 t → count ms ≤ N → (s : List ℕ) × Blocks s × FitsStore A S W N M ms t s
  some_store t l b c = (
    stored S N cols,
    (length-stored S N cols, below_stored S W N cols e (λ w hw. ((col_at w).size, (col_at w).below))),
    λ w hw i m q. rw (column-stored S W N cols w e hw (col_at w).size) ((col_at w).fits i m q ∙ get_or-column S w (N + M) t i m),
  )
    where
      found : (w : ℕ) → (ds : List ℕ) × FitAt A 65536 L M N h ms lm (column S w (N + M) t) ds
      found w = WordCode.some A 65536 L M N h ms lm (column S w (N + M) t) (length-column S w 0 (N + M) t) (below_column S w (N + M) t b) c

      cols : ℕ → List ℕ
      cols w = (found w).0

      col_at : (w : ℕ) → FitAt A 65536 L M N h ms lm (column S w (N + M) t) (cols w)
      col_at w = (found w).1
