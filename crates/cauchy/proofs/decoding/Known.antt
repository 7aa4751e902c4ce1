-- What is held determines the data, or leaves them free: the theorems over words, taken to blocks of bytes. Assumes nothing.
use mathlib.Core.Path.{◌≡◌, refl, sym, ◌∙◌, ap, ap₂}
use mathlib.Core.Bool.{Bool, true, false, cond}
use mathlib.Core.List.{List, [], ◌∷◌, map}
use Prim.Native.Nat.{ℕ, zero, suc, ◌+◌, ◌-◌, ◌*◌, ◌/◌, ◌≤◌, ◌<◌}
use native.Mathlib.Decide.{dec_lt, ℕ_discrete}
use native.Mathlib.Omega.{arith}
use lib.ListN.{length, get_or, take, drop, set, length-set, length-drop}
use lib.Seq.{take-take, get_or-take, get_or-drop, length-take-le, get_or-set_same, get_or-set_other}
use lib.Dec.{ltb, eqb}
use lib.Bits.{bit_xor, xor_zero_l}
use borrow.Author.Tests.{lt-ltb, le-ltb, eq-eqb, ne_eqb}
use Rattle.gf16.specs.Field.{mul, inv}
use Rattle.gf16.proofs.Laws.{laws}
use Rattle.cauchy.proofs.algebra.GfLaws.{gf_laws, gf}
use Rattle.cauchy.proofs.blocks.BlockLaws.{below_word_bytes, words_same, length-block, word_block, below_block, block_of_words, word_code}
use Rattle.cauchy.proofs.algebra.WordCode.{row_from, code_word, code_data, code_row, Ascending}
use Rattle.cauchy.specs.Decode.{count, missing, held, holding, present, rows_used, held_sum, side, sides, found_words, rank, decode}
use Rattle.cauchy.specs.inner.Promises.{Below}
use Rattle.little.specs.Fields.{Bytes}
use Rattle.cauchy.specs.Code.{field_sum, share, word_at, word_bytes, recovery_word, recovery_block, code_block, Blocks, Held, Fits}
use Rattle.cauchy.proofs.blocks.Store.{column, column_from, length-column, get_or-column, below_column, FitsStore, known_store-fits, some_store}
use Rattle.cauchy.specs.Theorems.{Shape, Known, One, Some, Free}
use Rattle.cauchy.proofs.algebra.WordCode
use Rattle.little.specs.Parts.{block, put_block}
use Rattle.little.proofs.Laws.{block_laws, byte_laws}
use Rattle.cauchy.proofs.blocks.CodeLaws.{length_code}
use Rattle.cauchy.proofs.blocks.WordBytes.{byte_any}

-- ---- marks

pub length-held : (ms : List ℕ) → length (held ms) ≡ length ms
unfolding held
length-held [] = refl
length-held (a ∷ ms) = ap suc (length-held ms)

pub get_or-held : (ms : List ℕ) (i : ℕ) → get_or (held ms) i 0 ≡ cond (eqb (get_or ms i 0) 1) 1 0
unfolding held
get_or-held [] i = refl
get_or-held (a ∷ ms) zero = refl
get_or-held (a ∷ ms) (suc i) = get_or-held ms i

pub held_one : (ms : List ℕ) (i : ℕ) → get_or ms i 0 ≡ 1 → get_or (held ms) i 0 ≡ 1
held_one ms i e = get_or-held ms i ∙ ap (λ (t : Bool). cond t 1 0) (eq-eqb (get_or ms i 0) 1 e)

pub held_none : (ms : List ℕ) (i : ℕ) → (get_or ms i 0 ≡ 1 → ⊥) → get_or (held ms) i 0 ≡ 0
held_none ms i f = get_or-held ms i ∙ ap (λ (t : Bool). cond t 1 0) (ne_eqb (get_or ms i 0) 1 f)

pub one-held : (ms : List ℕ) (i : ℕ) → 0 < get_or (held ms) i 0 → get_or ms i 0 ≡ 1
one-held ms i h = go (ℕ_discrete (get_or ms i 0) 1)
  where
    go : Dec (get_or ms i 0 ≡ 1) → get_or ms i 0 ≡ 1
    go (yes e) = e
    go (no f) = absurd (omega (arith, held_none ms i f))

pub held-take : (n : ℕ) (ms : List ℕ) → held (take n ms) ≡ take n (held ms)
unfolding held
held-take zero [] = refl
held-take zero (a ∷ ms) = refl
held-take (suc n) [] = refl
held-take (suc n) (a ∷ ms) = ap (◌∷◌ (cond (eqb a 1) 1 0)) (held-take n ms)

pub held-drop : (n : ℕ) (ms : List ℕ) → held (drop n ms) ≡ drop n (held ms)
unfolding held
held-drop zero [] = refl
held-drop zero (a ∷ ms) = refl
held-drop (suc n) [] = refl
held-drop (suc n) (a ∷ ms) = held-drop n ms

pub count_split : (n : ℕ) (ms : List ℕ) → count ms ≡ count (take n ms) + count (drop n ms)
unfolding count
count_split zero [] = refl
count_split (suc n) [] = refl
count_split zero (zero ∷ ms) = count_split zero ms
count_split zero (suc a ∷ ms) = omega (arith, count_split zero ms)
count_split (suc n) (zero ∷ ms) = count_split n ms
count_split (suc n) (suc a ∷ ms) = omega (arith, count_split n ms)

pub length-missing : (c : ℕ) (ms : List ℕ) → length (missing c ms) + count ms ≡ length ms
unfolding missing count
length-missing c [] = refl
length-missing c (zero ∷ ms) = omega (arith, length-missing (suc c) ms)
length-missing c (suc a ∷ ms) = omega (arith, length-missing (suc c) ms)

pub length-present : (c : ℕ) (ms : List ℕ) → length (present c ms) ≡ count ms
unfolding present count
length-present c [] = refl
length-present c (zero ∷ ms) = length-present (suc c) ms
length-present c (suc a ∷ ms) = ap suc (length-present (suc c) ms)

-- what the places of the held marks are
pub record PresentAt (c : ℕ) (ms : List ℕ) (i : ℕ) : Type 0 where
  pub from : c ≤ get_or (present c ms) i 0
  pub to : get_or (present c ms) i 0 < c + length ms
  pub is : 0 < get_or ms (get_or (present c ms) i 0 - c) 0

pub present-at : (c : ℕ) (ms : List ℕ) (i : ℕ) → i < length (present c ms) → PresentAt c ms i
unfolding present
present-at c [] i h = absurd (omega arith)
present-at c (zero ∷ ms) i h =
    let p : PresentAt (suc c) ms i = present-at (suc c) ms i h in
    let e : get_or (present (suc c) ms) i 0 - c ≡ suc (get_or (present (suc c) ms) i 0 - suc c) = omega (arith, p.from) in
    record { from = omega (arith, p.from); to = omega (arith, p.to); is = rw e p.is }
present-at c (suc a ∷ ms) zero h = let e : c - c ≡ 0 = omega arith in record { from = omega arith; to = omega arith; is = rw e (omega arith) }
present-at c (suc a ∷ ms) (suc i) h =
    let p : PresentAt (suc c) ms i = present-at (suc c) ms i (omega arith) in
    let e : get_or (present (suc c) ms) i 0 - c ≡ suc (get_or (present (suc c) ms) i 0 - suc c) = omega (arith, p.from) in
    record { from = omega (arith, p.from); to = omega (arith, p.to); is = rw e p.is }

present_rises : (c : ℕ) (ms : List ℕ) (i : ℕ) → suc i < length (present c ms) → get_or (present c ms) i 0 < get_or (present c ms) (suc i) 0
unfolding present
present_rises c [] i h = absurd (omega arith)
present_rises c (zero ∷ ms) i h = present_rises (suc c) ms i h
present_rises c (suc a ∷ ms) zero h = let p : PresentAt (suc c) ms 0 = present-at (suc c) ms 0 (omega arith) in omega (arith, p.from)
present_rises c (suc a ∷ ms) (suc i) h = present_rises (suc c) ms i (omega arith)

-- a missing index stands at the place of its rank
pub missing_at : (c c' : ℕ) (ms : List ℕ) (j : ℕ) → j < length ms → get_or ms j 0 ≡ 0
    → (get_or (missing c ms) (length (missing c' (take j ms))) 0 ≡ c + j) × (length (missing c' (take j ms)) < length (missing c ms))
unfolding missing
missing_at c c' [] j h e = absurd (omega arith)
missing_at c c' (zero ∷ ms) zero h e = (omega arith, omega arith)
missing_at c c' (zero ∷ ms) (suc j) h e =
    let p : (get_or (missing (suc c) ms) (length (missing (suc c') (take j ms))) 0 ≡ suc c + j) × (length (missing (suc c') (take j ms)) < length (missing (suc c) ms)) =
    missing_at (suc c) (suc c') ms j (omega arith) e in
    (p.0 ∙ omega arith, omega (arith, p.1))
missing_at c c' (suc a ∷ ms) zero h e = absurd (omega arith)
missing_at c c' (suc a ∷ ms) (suc j) h e =
    let p : (get_or (missing (suc c) ms) (length (missing (suc c') (take j ms))) 0 ≡ suc c + j) × (length (missing (suc c') (take j ms)) < length (missing (suc c) ms)) =
    missing_at (suc c) (suc c') ms j (omega arith) e in
    (p.0 ∙ omega arith, p.1)

get_d_map : (f : ℕ → ℕ) (l : List ℕ) (i : ℕ) → i < length l → get_or (map f l) i 0 ≡ f (get_or l i 0)
get_d_map f [] i h = absurd (omega arith)
get_d_map f (x ∷ l) zero h = refl
get_d_map f (x ∷ l) (suc i) h = get_d_map f l i (omega arith)

-- ---- the sum over what is held is the sum with 0 for each other word

pub blanked : List ℕ → List ℕ → List ℕ
blanked [] ds = []
blanked (a ∷ ms) [] = []
blanked (zero ∷ ms) (d ∷ ds) = 0 ∷ blanked ms ds
blanked (suc a ∷ ms) (d ∷ ds) = d ∷ blanked ms ds

length_blanked : (ms ds : List ℕ) → length ds ≡ length ms → length (blanked ms ds) ≡ length ms
unfolding blanked
length_blanked [] ds h = refl
length_blanked (a ∷ ms) [] h = absurd (omega arith)
length_blanked (zero ∷ ms) (d ∷ ds) h = ap suc (length_blanked ms ds (omega arith))
length_blanked (suc a ∷ ms) (d ∷ ds) h = ap suc (length_blanked ms ds (omega arith))

blanked_held : (ms ds : List ℕ) (j : ℕ) → length ds ≡ length ms → 0 < get_or ms j 0 → get_or (blanked ms ds) j 0 ≡ get_or ds j 0
unfolding blanked
blanked_held [] ds j l h = absurd (omega arith)
blanked_held (a ∷ ms) [] j l h = absurd (omega arith)
blanked_held (zero ∷ ms) (d ∷ ds) zero l h = absurd (omega arith)
blanked_held (zero ∷ ms) (d ∷ ds) (suc j) l h = blanked_held ms ds j (omega arith) h
blanked_held (suc a ∷ ms) (d ∷ ds) zero l h = refl
blanked_held (suc a ∷ ms) (d ∷ ds) (suc j) l h = blanked_held ms ds j (omega arith) h

blanked_lost : (ms ds : List ℕ) (j : ℕ) → j < length ms → get_or ms j 0 ≡ 0 → get_or (blanked ms ds) j 0 ≡ 0
unfolding blanked
blanked_lost [] ds j m h = refl
blanked_lost (a ∷ ms) [] j m h = refl
blanked_lost (zero ∷ ms) (d ∷ ds) zero m h = refl
blanked_lost (zero ∷ ms) (d ∷ ds) (suc j) m h = blanked_lost ms ds j (omega arith) h
blanked_lost (suc a ∷ ms) (d ∷ ds) zero m h = absurd (omega arith)
blanked_lost (suc a ∷ ms) (d ∷ ds) (suc j) m h = blanked_lost ms ds j (omega arith) h

-- the sum over the held j of one over (k + (c + j)) times word j, by the lists
unfoldable pub held_row : ℕ → ℕ → List ℕ → List ℕ → ℕ
held_row k c [] ds = 0
held_row k c (a ∷ ms) [] = 0
held_row k c (zero ∷ ms) (d ∷ ds) = held_row k (suc c) ms ds
held_row k c (suc a ∷ ms) (d ∷ ds) = bit_xor (mul (inv (bit_xor k c)) d) (held_row k (suc c) ms ds)

no_row : (k c n : ℕ) (ds : List ℕ) → held_row k c (held (take n [])) ds ≡ 0
unfolding held_row held
no_row k c zero ds = refl
no_row k c (suc n) ds = refl

module _ (m s k w : ℕ) (store : List ℕ) where
  -- what block j brings if t says that it is held
  abbrev maybe : ℕ → Bool → ℕ
  maybe j t = cond t (share m s store k w j) 0

  sum-rest : (F : ℕ → ℕ) (c n : ℕ) (t : Bool) (ms : List ℕ) → F c ≡ maybe c t → field_sum F (suc c) n ≡ held_row k (m + suc c) ms (column_from s w (suc c) n store)
      → field_sum F c (suc n) ≡ held_row k (m + c) (cond t 1 0 ∷ ms) (column_from s w c (suc n) store)
  unfolding field_sum held_row column_from
  sum-rest F c n true ms e r = let q : m + suc c ≡ suc (m + c) = omega arith in ap₂ bit_xor e (rw q at r)
  sum-rest F c n false ms e r =
      let q : m + suc c ≡ suc (m + c) = omega arith in
      ap (λ (x : ℕ). bit_xor x (field_sum F (suc c) n)) e ∙ xor_zero_l (field_sum F (suc c) n) ∙ (rw q at r)

  sum_row : (F : ℕ → ℕ) (c n : ℕ) (ms : List ℕ) → ((j : ℕ) → F (c + j) ≡ maybe (c + j) (eqb (get_or ms j 0) 1))
      → field_sum F c n ≡ held_row k (m + c) (held (take n ms)) (column_from s w c n store)
  unfolding field_sum held_row held
  sum_row F c zero ms h = refl
  sum_row F c (suc n) [] h =
      let z : c + 0 ≡ c = omega arith in
      ap₂ bit_xor (rw z at (h 0))
      (sum_row F (suc c) n [] (λ j. let e : suc c + j ≡ c + suc j = omega arith in rw e (h (suc j))) ∙ no_row k (m + suc c) n (column_from s w (suc c) n store))
  sum_row F c (suc n) (a ∷ ms) h =
      let z : c + 0 ≡ c = omega arith in
      sum-rest F c n (eqb a 1) (held (take n ms)) (rw z at (h 0))
      (sum_row F (suc c) n ms (λ j. let e : suc c + j ≡ c + suc j = omega arith in rw e (h (suc j))))

pub held-sum : (n m s : ℕ) (marks store : List ℕ) (k w : ℕ) → held_sum n m s marks store k w ≡ held_row k m (held (take n marks)) (column s w n store)
unfolding held_sum
held-sum n m s marks store k w =
    let e : m + 0 ≡ m = omega arith in
    sum_row m s k w store (λ j. cond (eqb (get_or marks j 0) 1) (share m s store k w j) 0) 0 n marks (λ j. let z : 0 + j ≡ j = omega arith in rw z)
    ∙ ap (λ (x : ℕ). held_row k x (held (take n marks)) (column s w n store)) e

held-row : (k c : ℕ) (ms ds : List ℕ) → held_row k c ms ds ≡ row_from gf k c (blanked ms ds)
unfolding blanked held_row row_from
held-row k c [] ds = refl
held-row k c (a ∷ ms) [] = refl
held-row k c (zero ∷ ms) (d ∷ ds) =
    held-row k (suc c) ms ds ∙ sym (ap (λ (x : ℕ). bit_xor x (row_from gf k (suc c) (blanked ms ds))) (laws.mul-zero (inv (bit_xor k c))) ∙ xor_zero_l (row_from gf k (suc c) (blanked ms ds)))
held-row k c (suc a ∷ ms) (d ∷ ds) = ap (bit_xor (mul (inv (bit_xor k c)) d)) (held-row k (suc c) ms ds)

-- ---- the right sides

pub length-sides : (n m s : ℕ) (marks store : List ℕ) (w : ℕ) (ks : List ℕ) → length (sides n m s marks store w ks) ≡ length ks
unfolding sides
length-sides n m s marks store w [] = refl
length-sides n m s marks store w (k ∷ ks) = ap suc (length-sides n m s marks store w ks)

pub get_or-sides : (n m s : ℕ) (marks store : List ℕ) (w : ℕ) (ks : List ℕ) (i : ℕ) → i < length ks → get_or (sides n m s marks store w ks) i 0 ≡ side n m s marks store w (get_or ks i 0)
unfolding sides
get_or-sides n m s marks store w [] i h = absurd (omega arith)
get_or-sides n m s marks store w (k ∷ ks) zero h = refl
get_or-sides n m s marks store w (k ∷ ks) (suc i) h = get_or-sides n m s marks store w ks i (omega arith)

-- ---- the rows used

pub record UsedRows (n m : ℕ) (marks : List ℕ) : Type 0 where
  pub size : length (rows_used n marks) ≡ length (missing 0 (held (take n marks)))
  pub below : (i : ℕ) → i < length (rows_used n marks) → get_or (rows_used n marks) i 0 < m
  pub is : (i : ℕ) → i < length (rows_used n marks) → get_or marks (n + get_or (rows_used n marks) i 0) 0 ≡ 1
  pub rises : Ascending (rows_used n marks)

pub rows_used_lem : (n m : ℕ) (marks : List ℕ) → length marks ≡ n + m → n ≤ holding marks → UsedRows n m marks
unfolding rows_used
rows_used_lem n m marks l h = record {
  size = size;
  below = λ i q. let q' : i < e = omega (arith, size) in let p : PresentAt 0 (held (drop n marks)) i = present-at 0 (held (drop n marks)) i (omega (arith, enough)) in
      rw (get_or-take e ps i 0 q') (omega (arith, p.to, ld));
  is = λ i q. let q' : i < e = omega (arith, size) in let p : PresentAt 0 (held (drop n marks)) i = present-at 0 (held (drop n marks)) i (omega (arith, enough)) in
      let z : get_or ps i 0 - 0 ≡ get_or ps i 0 = omega arith in
      rw (get_or-take e ps i 0 q') (sym (get_or-drop n marks (get_or ps i 0) 0) ∙ one-held (drop n marks) (get_or ps i 0) (rw z at p.is));
  rises = λ i q. let q' : suc i < e = omega (arith, size) in rw (get_or-take e ps i 0 (omega arith), get_or-take e ps (suc i) 0 q') (present_rises 0 (held (drop n marks)) i (omega (arith, enough)));
}
  where
    ps : List ℕ
    ps = present 0 (held (drop n marks))

    e : ℕ
    e = length (missing 0 (held (take n marks)))

    ld : length (held (drop n marks)) ≡ m
    ld = length-held (drop n marks) ∙ length-drop n marks ∙ omega arith

    lt : length (held (take n marks)) ≡ n
    lt = length-held (take n marks) ∙ length-take-le n marks (omega arith)

    halves : holding marks ≡ count (held (take n marks)) + count (held (drop n marks))
    halves = count_split n (held marks) ∙ ap₂ (λ (x y : List ℕ). count x + count y) (sym (held-take n marks)) (sym (held-drop n marks))

    enough : e ≤ length ps
    enough = omega (arith, halves, length-missing 0 (held (take n marks)), length-present 0 (held (drop n marks)), lt)

    size : length (take e ps) ≡ e
    size = length-take-le e ps enough

-- ---- fitting, by words and by blocks

pub fits-words : (n m s W : ℕ) (marks store blocks : List ℕ) → s ≡ 2 * W → m + n ≤ 65536 → Bytes blocks → Fits n m s marks store blocks
    → FitsStore gf s W n m (held marks) store blocks
fits-words n m s W marks store blocks e h b f w hw i hi hm =
    sym (word_code n m s W blocks i w e h (λ q _. b q) hw hi) ∙ ap (λ (l : List ℕ). word_at l (2 * w)) (f i hi (one-held marks i hm)) ∙ word_block s W store i w e hw

below_code : (n m s : ℕ) (blocks : List ℕ) (i : ℕ) → m + n ≤ 65536 → Blocks n s blocks → i < n + m → Below 256 (code_block n m s blocks i)
unfolding code_block recovery_block
below_code n m s blocks i h b hi = go (dec_lt i n)
  where
    go : Dec (i < n) → Below 256 (cond (ltb i n) (block s blocks i) (recovery_block n m s blocks (i - n)))
    go (yes q) = rw (lt-ltb i n q) (below_block n s blocks i b q)
    go (no q) = rw (le-ltb i n (omega arith)) (below_word_bytes (λ w. recovery_word n m s blocks (i - n) w) (s / 2))

pub words_fit : (n m s W : ℕ) (marks store blocks : List ℕ) → s ≡ 2 * W → m + n ≤ 65536 → Blocks (n + m) s store → Blocks n s blocks → FitsStore gf s W n m (held marks) store blocks → Fits n m s marks store blocks
words_fit n m s W marks store blocks e h bt bs f i hi hm =
    words_same W (code_block n m s blocks i) (block s store i) (length_code n m s blocks i (omega arith) bs.0 ∙ e) (length-block (n + m) s store i bt.0 hi ∙ e)
    (below_code n m s blocks i h bs hi) (below_block (n + m) s store i bt hi)
    (λ w hw. word_code n m s W blocks i w e h (λ q _. bs.1 q) hw hi ∙ f w hw i hi (omega (arith, held_one marks i hm)) ∙ sym (word_block s W store i w e hw))

-- ---- known

side-made : (n m s : ℕ) (marks store blocks : List ℕ) (w k : ℕ) → word_at store ((n + k) * s + 2 * w) ≡ code_word gf m (column s w n blocks) (n + k)
    → side n m s marks store w k ≡ bit_xor (row_from gf k m (blanked (held (take n marks)) (column s w n store))) (row_from gf k m (column s w n blocks))
unfolding side
side-made n m s marks store blocks w k e =
    ap₂ bit_xor (held-sum n m s marks store k w ∙ held-row k m (held (take n marks)) (column s w n store))
    (e ∙ ap (λ (i : ℕ). code_word gf m (column s w n blocks) (i + k)) (sym (length-column s w 0 n blocks)) ∙ code_row gf m (column s w n blocks) k)

code_is : (n m s : ℕ) (blocks : List ℕ) (j : ℕ) → j < n → code_block n m s blocks j ≡ block s blocks j
unfolding code_block
code_is n m s blocks j h = ap (λ (t : Bool). cond t (block s blocks j) (recovery_block n m s blocks (j - n))) (lt-ltb j n h)

pub ranked : (n m : ℕ) (marks : List ℕ) (j : ℕ) → length marks ≡ n + m → j < n → (get_or marks j 0 ≡ 1 → ⊥)
    → (get_or (missing 0 (held (take n marks))) (length (missing 0 (held (take j marks)))) 0 ≡ 0 + j) × (length (missing 0 (held (take j marks))) < length (missing 0 (held (take n marks))))
ranked n m marks j l h o =
    let lt : length (held (take n marks)) ≡ n = length-held (take n marks) ∙ length-take-le n marks (omega arith) in
    let z : get_or (held (take n marks)) j 0 ≡ 0 = held_none (take n marks) j (λ e. o (sym (get_or-take n marks j 0 h) ∙ e)) in
    let t : held (take j marks) ≡ take j (held (take n marks)) = ap held (sym (take-take j n marks (omega arith))) ∙ held-take j (take n marks) in
    rw t (missing_at 0 0 (held (take n marks)) j (omega arith) z)

-- one column: the words found are the words of the missing blocks
pub found : (n m s W : ℕ) (marks store blocks : List ℕ) → s ≡ 2 * W → Shape n m s marks store → Blocks n s blocks → Fits n m s marks store blocks → n ≤ holding marks
    → (w : ℕ) → w < W → found_words n m s marks store w ≡ map (λ j. get_or (column s w n blocks) j 0) (missing 0 (held (take n marks)))
unfolding found_words
found n m s W marks store blocks e g b f h w hw = WordCode.recover gf 65536 gf_laws m n ms ds zs ks (sides n m s marks store w ks) (record {
  marks = lt;
  size = length-column s w 0 n blocks;
  small = below_column s w n blocks (λ q _. b.1 q);
  fits = g.small;
  held-size = length_blanked ms hs (ls ∙ sym lt) ∙ lt;
  held = λ j hj q. blanked_held ms hs j (ls ∙ sym lt) q ∙ get_or-column s w n store j hj ∙ sym (get_or-column s w n blocks j hj ∙ at_held j hj q);
  lost-zero = λ j hj q. blanked_lost ms hs j (omega (arith, lt)) q;
  rows = r.below;
  ascend = r.rises;
  enough = omega (arith, length-missing 0 ms, lt, r.size);
  sides-size = length-sides n m s marks store w ks;
  sides = λ i hi. get_or-sides n m s marks store w ks i hi ∙ side_is (get_or ks i 0) (r.below i hi) (r.is i hi);
})
  where
    ms : List ℕ
    ms = held (take n marks)

    ds : List ℕ
    ds = column s w n blocks

    hs : List ℕ
    hs = column s w n store

    zs : List ℕ
    zs = blanked ms hs

    ks : List ℕ
    ks = rows_used n marks

    r : UsedRows n m marks
    r = rows_used_lem n m marks g.marks-size h

    lt : length (held (take n marks)) ≡ n
    lt = length-held (take n marks) ∙ length-take-le n marks (omega (arith, g.marks-size))

    ls : length (column s w n store) ≡ n
    ls = length-column s w 0 n store

    fw : FitsStore gf s W n m (held marks) store blocks
    fw = fits-words n m s W marks store blocks e g.small b.1 f

    at_held : (j : ℕ) → j < n → 0 < get_or (held (take n marks)) j 0 → word_at blocks (j * s + 2 * w) ≡ word_at store (j * s + 2 * w)
    at_held j hj q =
        let o : get_or marks j 0 ≡ 1 = sym (get_or-take n marks j 0 hj) ∙ one-held (take n marks) j q in
        sym (code_data gf m (column s w n blocks) j (omega (arith, length-column s w 0 n blocks)) ∙ get_or-column s w n blocks j hj) ∙ fw w hw j (omega arith) (omega (arith, held_one marks j o))

    side_is : (k : ℕ) → k < m → get_or marks (n + k) 0 ≡ 1 → side n m s marks store w k ≡ bit_xor (row_from gf k m (blanked (held (take n marks)) (column s w n store))) (row_from gf k m (column s w n blocks))
    side_is k hk o = side-made n m s marks store blocks w k (sym (fw w hw (n + k) (omega arith) (omega (arith, held_one marks (n + k) o))))

pub known : Known
unfolding decode rank
known n m s marks store blocks g b f h j hj = go (ℕ_discrete (get_or marks j 0) 1)
  where
    W : ℕ
    W = s / 2

    e : s ≡ 2 * (s / 2)
    e = omega (arith, g.even)

    go : Dec (get_or marks j 0 ≡ 1)
        → block s blocks j ≡ cond (eqb (get_or marks j 0) 1) (block s store j) (word_bytes (λ w. get_or (found_words n m s marks store w) (length (missing 0 (held (take j marks)))) 0) 0 (s / 2))
    go (yes o) = rw (eq-eqb (get_or marks j 0) 1 o) (sym (code_is n m s blocks j hj) ∙ f j (omega arith) o)
    go (no o) = rw (ne_eqb (get_or marks j 0) 1 o) (block_of_words n s (s / 2) blocks j _ e b hj word)
      where
        place : (get_or (missing 0 (held (take n marks))) (length (missing 0 (held (take j marks)))) 0 ≡ 0 + j) × (length (missing 0 (held (take j marks))) < length (missing 0 (held (take n marks))))
        place = ranked n m marks j g.marks-size hj o

        word : (w : ℕ) → w < s / 2 → get_or (found_words n m s marks store w) (length (missing 0 (held (take j marks)))) 0 ≡ word_at blocks (j * s + 2 * w)
        word w hw =
            ap (λ (l : List ℕ). get_or l (length (missing 0 (held (take j marks)))) 0) (found n m s (s / 2) marks store blocks e g b f h w hw)
            ∙ get_d_map (λ j. get_or (column s w n blocks) j 0) (missing 0 (held (take n marks))) (length (missing 0 (held (take j marks)))) place.1
            ∙ ap (λ (i : ℕ). get_or (column s w n blocks) i 0) (place.0 ∙ omega arith)
            ∙ get_or-column s w n blocks j hj

pub one : One
one n m s marks store blocks others g b b' f f' h =
    let e : s ≡ 2 * (s / 2) = omega (arith, g.even) in
    known_store-fits gf gf_laws s (s / 2) n m e g.small (held marks) (length-held marks ∙ g.marks-size) store blocks others
    (b.0, λ q _. b.1 q) (b'.0, λ q _. b'.1 q) h
    (fits-words n m s (s / 2) marks store blocks e g.small b.1 f) (fits-words n m s (s / 2) marks store others e g.small b'.1 f')

-- ---- free

pub some : Some
some n m s marks store g h =
    let e : s ≡ 2 * (s / 2) = omega (arith, g.even) in
    let r = some_store gf gf_laws s (s / 2) n m e g.small (held marks) (length-held marks ∙ g.marks-size) store g.store-blocks.0 (λ q _. g.store-blocks.1 q) h in
    let b : Blocks n s r.0 = (r.1.0, byte_any r.0 r.1.1) in
    (r.0, b, words_fit n m s (s / 2) marks store r.0 e g.small g.store-blocks b r.2)

-- one mark more
holding_more : (marks : List ℕ) (j : ℕ) → j < length marks → ¬ (Held marks j) → holding (set marks j 1) ≡ suc (holding marks)
unfolding held count
holding_more [] j h o = absurd (omega arith)
holding_more (a ∷ marks) zero h o = rw (ne_eqb a 1 o)
holding_more (a ∷ marks) (suc j) h o = more (eqb a 1) (held (set marks j 1)) (held marks) (holding_more marks j (omega arith) o)
  where
    more : (t : Bool) (l r : List ℕ) → count l ≡ suc (count r) → count (cond t 1 0 ∷ l) ≡ suc (count (cond t 1 0 ∷ r))
    more true l r e = ap suc e
    more false l r e = e

pub free : Free
free n m s marks store g h j hj o bytes bb = (r.0, r.1, old, sym (code_is n m s r.0 j hj) ∙ r.2 j (omega arith) here ∙ block_laws.block-put s (n + m) store g.store-blocks.0 j (omega arith) bytes lb)
  where
    lb : length bytes ≡ s
    lb = bb.0 ∙ omega arith

    wanted : Shape n m s (set marks j 1) (put_block s store j bytes)
    wanted = record {
      even = g.even;
      small = g.small;
      marks-size = length-set marks j 1 ∙ g.marks-size;
      store-blocks = (block_laws.length-put_block s (n + m) store g.store-blocks.0 j (omega arith) bytes lb, byte_laws.bytes_put store (j * s) bytes g.store-blocks.1 bb.1);
    }

    r : (blocks : List ℕ) × Blocks n s blocks × Fits n m s (set marks j 1) (put_block s store j bytes) blocks
    r = some n m s (set marks j 1) (put_block s store j bytes) wanted (omega (arith, holding_more marks j (omega (arith, g.marks-size)) o))

    here : Held (set marks j 1) j
    here = get_or-set_same marks j 1 0 (omega (arith, g.marks-size))

    old : Fits n m s marks store r.0
    old i hi q =
        let ne : i ≡ j → ⊥ = λ e. o (sym (ap (λ (x : ℕ). get_or marks x 0) e) ∙ q) in
        let en : j ≡ i → ⊥ = λ e. ne (sym e) in
        r.2 i hi (get_or-set_other marks j i 1 0 ne ∙ q) ∙ block_laws.block-put-other s (n + m) store g.store-blocks.0 j (omega arith) bytes lb i hi en
