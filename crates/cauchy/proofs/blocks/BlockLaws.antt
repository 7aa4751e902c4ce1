-- Blocks as bytes and as words, and the code's blocks by the words of a column. Assumes nothing.
use mathlib.Core.Path.{◌≡◌, refl, sym, ◌∙◌, ap, ap₂}
use mathlib.Core.Bool.{Bool, cond}
use mathlib.Core.List.{List, [], ◌∷◌, ◌++◌}
use Prim.Native.Nat.{ℕ, zero, suc, ◌+◌, ◌-◌, ◌*◌, ◌/◌, ◌%◌, ◌≤◌, ◌<◌, suc-le-suc}
use native.Mathlib.Decide.{dec_lt}
use native.Mathlib.Omega.{arith}
use lib.ListN.{length, get_or}
use lib.Dec.{ltb}
use lib.Bits.{bit_xor}
use borrow.Author.Tests.{lt-ltb, le-ltb}
use Rattle.little.specs.Fields.{le, bytes_of}
use Rattle.little.specs.Parts.{block}
use Rattle.little.specs.Runs.{zeros}
use Rattle.little.proofs.Laws.{part_laws, block_laws, byte_laws}
use Rattle.cauchy.specs.Code.{word_at, joined, word_bytes, field_sum, share, recovery_word, recovery_block, code_block, Blocks}
use Rattle.cauchy.specs.inner.Promises.{Below}
use Rattle.cauchy.proofs.algebra.WordCode.{row_from, code_word, code_data}
use Rattle.cauchy.proofs.blocks.WordBytes.{two_back, word_lt}
use Rattle.cauchy.proofs.algebra.RowLaws.{row_lt}
use Rattle.cauchy.proofs.algebra.GfLaws.{gf, gf_laws}
use Rattle.cauchy.proofs.blocks.Store.{column, column_from, same-columns, length-column, get_or-column, below_column}

-- ---- words as bytes

joined_from : (f g : ℕ → List ℕ) (c n : ℕ) → ((w : ℕ) → w < n → f (c + w) ≡ g (c + w)) → joined f c n ≡ joined g c n
unfolding joined
joined_from f g c zero h = refl
joined_from f g c (suc n) h =
    let e₀ : c + 0 ≡ c = omega arith in
    ap₂ (λ (x l : List ℕ). x ++ l) (rw e₀ at (h 0 (omega arith)))
    (joined_from f g (suc c) n (λ w m. let e₁ : suc c + w ≡ c + suc w = omega arith in rw e₁ (h (suc w) (suc-le-suc m))))

pub joined_ext : (f g : ℕ → List ℕ) (n : ℕ) → ((w : ℕ) → w < n → f w ≡ g w) → joined f 0 n ≡ joined g 0 n
joined_ext f g n h = joined_from f g 0 n (λ w m. let e : 0 + w ≡ w = omega arith in rw e (h w m))

pub word_bytes_ext : (f g : ℕ → ℕ) (n : ℕ) → ((w : ℕ) → w < n → f w ≡ g w) → word_bytes f 0 n ≡ word_bytes g 0 n
word_bytes_ext f g n h = joined_ext (λ w. bytes_of 2 (f w)) (λ w. bytes_of 2 (g w)) n (λ w m. ap (bytes_of 2) (h w m))

pub length-word_bytes : (f : ℕ → ℕ) (c n : ℕ) → length (word_bytes f c n) ≡ 2 * n
unfolding joined bytes_of
length-word_bytes f c zero = refl
length-word_bytes f c (suc n) = omega (arith, length-word_bytes f (suc c) n)

-- zeros are the bytes of words that are 0
zeros_from : (c n : ℕ) → zeros (2 * n) ≡ word_bytes (λ _. 0) c n
unfolding joined bytes_of
zeros_from c zero = refl
zeros_from c (suc n) =
    let e : 2 * suc n ≡ suc (suc (2 * n)) = omega arith in
    ap zeros e ∙ ap (λ (l : List ℕ). 0 ∷ 0 ∷ l) (zeros_from (suc c) n)

pub zero-words : (n : ℕ) → n % 2 ≡ 0 → zeros n ≡ word_bytes (λ _. 0) 0 (n / 2)
zero-words n even =
    let e : n ≡ 2 * (n / 2) = omega arith in
    ap zeros e ∙ zeros_from 0 (n / 2)

word_two : (x y : ℕ) (l : List ℕ) (q : ℕ) → word_at (x ∷ y ∷ l) (suc (suc q)) ≡ word_at l q
unfolding le
word_two x y l q = refl

word_first : (v : ℕ) (l : List ℕ) → word_at (v % 256 ∷ v / 256 % 256 ∷ l) 0 ≡ v % 65536
unfolding le
word_first v l = two_back v

word_from : (f : ℕ → ℕ) (c n w : ℕ) → w < n → word_at (word_bytes f c n) (2 * w) ≡ f (c + w) % 65536
unfolding joined bytes_of
word_from f c zero w h = absurd (omega arith)
word_from f c (suc n) zero h = let e : c + 0 ≡ c = omega arith in rw e (word_first (f c) (word_bytes f (suc c) n))
word_from f c (suc n) (suc w) h =
    let e : 2 * suc w ≡ suc (suc (2 * w)) = omega arith in
    let k : suc c + w ≡ c + suc w = omega arith in
    ap (word_at (f c % 256 ∷ f c / 256 % 256 ∷ word_bytes f (suc c) n)) e
    ∙ word_two (f c % 256) (f c / 256 % 256) (word_bytes f (suc c) n) (2 * w) ∙ word_from f (suc c) n w (omega arith) ∙ ap (λ (x : ℕ). f x % 65536) k

-- a word is read back as far as 16 bits hold it
pub word_back : (f : ℕ → ℕ) (n w : ℕ) → w < n → word_at (word_bytes f 0 n) (2 * w) ≡ f w % 65536
word_back f n w h = word_from f 0 n w h ∙ ap (λ (x : ℕ). f x % 65536) (omega arith)

pub word_back_small : (f : ℕ → ℕ) (n w : ℕ) → w < n → f w < 65536 → word_at (word_bytes f 0 n) (2 * w) ≡ f w
word_back_small f n w h k = word_back f n w h ∙ omega arith

bytes_from : (f : ℕ → ℕ) (c n : ℕ) → Below 256 (word_bytes f c n)
unfolding joined bytes_of
bytes_from f c zero i m = absurd (omega arith)
bytes_from f c (suc n) zero m = omega arith
bytes_from f c (suc n) (suc zero) m = omega arith
bytes_from f c (suc n) (suc (suc i)) m = bytes_from f (suc c) n i (omega arith)

pub below_word_bytes : (f : ℕ → ℕ) (n : ℕ) → Below 256 (word_bytes f 0 n)
below_word_bytes f n = bytes_from f 0 n

-- bytes with the same words are the same
pub words_same : (W : ℕ) (l r : List ℕ) → length l ≡ 2 * W → length r ≡ 2 * W → Below 256 l → Below 256 r
    → ((w : ℕ) → w < W → word_at l (2 * w) ≡ word_at r (2 * w)) → l ≡ r
unfolding column_from
words_same W l r el er bl br f =
    same-columns (2 * W) W 1 l r refl (omega arith) (omega arith) bl br
    (λ w m. let e : 0 * (2 * W) + 2 * w ≡ 2 * w = omega arith in rw e (ap (λ (x : ℕ). x ∷ []) (f w m)))

-- ---- a block of a store

pub length-block : (n s : ℕ) (store : List ℕ) (i : ℕ) → length store ≡ n * s → i < n → length (block s store i) ≡ s
length-block n s store i l h = block_laws.length-block s n store l i h

pub word_block : (s W : ℕ) (store : List ℕ) (i w : ℕ) → s ≡ 2 * W → w < W → word_at (block s store i) (2 * w) ≡ word_at store (i * s + 2 * w)
word_block s W store i w e h = byte_laws.le-part 2 store (i * s) s (2 * w) (omega arith)

pub below_block : (n s : ℕ) (store : List ℕ) (i : ℕ) → Blocks n s store → i < n → Below 256 (block s store i)
below_block n s store i b h r m =
    let m' : r < s = omega (arith, length-block n s store i b.0 h) in
    rw (part_laws.get_or-part store (i * s) s r m') (b.1 (i * s + r))

-- a block, from its words
pub block_of_words : (n s W : ℕ) (store : List ℕ) (i : ℕ) (f : ℕ → ℕ) → s ≡ 2 * W → Blocks n s store → i < n
    → ((w : ℕ) → w < W → f w ≡ word_at store (i * s + 2 * w)) → block s store i ≡ word_bytes f 0 W
block_of_words n s W store i f e b h g =
    words_same W (block s store i) (word_bytes f 0 W) (length-block n s store i b.0 h ∙ e) (length-word_bytes f 0 W) (below_block n s store i b h) (below_word_bytes f W)
    (λ w m. word_block s W store i w e m ∙ sym (word_back_small f W w m (rw (g w m) (word_lt store (i * s + 2 * w) (λ q _. b.1 q))) ∙ g w m))

-- ---- a recovery word, by the column

row-sum : (m s k w : ℕ) (blocks : List ℕ) (c n : ℕ) → field_sum (λ j. share m s blocks k w j) c n ≡ row_from gf k (m + c) (column_from s w c n blocks)
unfolding field_sum row_from column_from
row-sum m s k w blocks c zero = refl
row-sum m s k w blocks c (suc n) =
    let e : m + suc c ≡ suc (m + c) = omega arith in
    ap (bit_xor (share m s blocks k w c)) (row-sum m s k w blocks (suc c) n ∙ ap (λ (x : ℕ). row_from gf k x (column_from s w (suc c) n blocks)) e)

pub recovery_row : (n m s : ℕ) (blocks : List ℕ) (k w : ℕ) → recovery_word n m s blocks k w ≡ row_from gf k m (column s w n blocks)
unfolding recovery_word
recovery_row n m s blocks k w = let e : m + 0 ≡ m = omega arith in row-sum m s k w blocks 0 n ∙ ap (λ (x : ℕ). row_from gf k x (column s w n blocks)) e

pub recovery_lt : (n m s : ℕ) (blocks : List ℕ) (k w : ℕ) → m + n ≤ 65536 → Below 256 blocks → k < m → recovery_word n m s blocks k w < 65536
recovery_lt n m s blocks k w h b hk =
    rw (recovery_row n m s blocks k w)
    (row_lt gf 65536 gf_laws k m (column s w n blocks) (omega arith) (omega (arith, length-column s w 0 n blocks)) (below_column s w n blocks b))

-- ---- the code's blocks and the code's words

at_data : (n m s W : ℕ) (blocks : List ℕ) (i w : ℕ) → s ≡ 2 * W → w < W → i < n → word_at (code_block n m s blocks i) (2 * w) ≡ code_word gf m (column s w n blocks) i
unfolding code_block
at_data n m s W blocks i w e h q =
    ap (λ (t : Bool). word_at (cond t (block s blocks i) (recovery_block n m s blocks (i - n))) (2 * w)) (lt-ltb i n q)
    ∙ word_block s W blocks i w e h
    ∙ sym (code_data gf m (column s w n blocks) i (omega (arith, length-column s w 0 n blocks)) ∙ get_or-column s w n blocks i q)

at_recovery : (n m s W : ℕ) (blocks : List ℕ) (i w : ℕ) → s ≡ 2 * W → m + n ≤ 65536 → Below 256 blocks → w < W → n ≤ i → i < n + m
    → word_at (code_block n m s blocks i) (2 * w) ≡ code_word gf m (column s w n blocks) i
unfolding code_block code_word recovery_block
at_recovery n m s W blocks i w e hm b h q hi =
    ap (λ (t : Bool). word_at (cond t (block s blocks i) (recovery_block n m s blocks (i - n))) (2 * w)) (le-ltb i n q)
    ∙ word_back_small (λ w. recovery_word n m s blocks (i - n) w) (s / 2) w (omega arith) (recovery_lt n m s blocks (i - n) w hm b (omega arith))
    ∙ recovery_row n m s blocks (i - n) w
    ∙ sym (ap (λ (k : ℕ). cond (ltb i k) (get_or (column s w n blocks) i 0) (row_from gf (i - k) m (column s w n blocks))) (length-column s w 0 n blocks)
    ∙ ap (λ (t : Bool). cond t (get_or (column s w n blocks) i 0) (row_from gf (i - n) m (column s w n blocks))) (le-ltb i n q))

pub word_code : (n m s W : ℕ) (blocks : List ℕ) (i w : ℕ) → s ≡ 2 * W → m + n ≤ 65536 → Below 256 blocks → w < W → i < n + m
    → word_at (code_block n m s blocks i) (2 * w) ≡ code_word gf m (column s w n blocks) i
word_code n m s W blocks i w e hm b h hi = go (dec_lt i n)
  where
    go : Dec (i < n) → word_at (code_block n m s blocks i) (2 * w) ≡ code_word gf m (column s w n blocks) i
    go (yes q) = at_data n m s W blocks i w e h q
    go (no q) = at_recovery n m s W blocks i w e hm b h (omega arith) hi
