-- What a turn of the loops over the data blocks finds, whether it hashes or copies: the block from where it lies, cut where
-- the content ends. Assumes nothing.
use Prim.Native.Nat.{ℕ, zero, suc, ◌+◌, ◌-◌, ◌*◌, ◌^◌, ◌<◌, ◌≤◌}
use mathlib.Core.Path.{◌≡◌, refl, sym, ◌∙◌, ap, ap₂}
use mathlib.Core.Logic.{◌⊎◌, inl, inr, ⊎_elim}
use mathlib.Core.List.{List, [], ◌∷◌, ◌++◌, append-nil}
use native.Mathlib.Omega.{arith}
use native.Mathlib.Numerals.{add-one}
use native.Mathlib.Nat.{mul-le-mul_right}
use native.Mathlib.Decide.{ℕ_discrete}
use borrow.Author.Tests.{eq-eqb, ne_eqb}
use lib.ListN.{length, get_or, take, drop}
use lib.Seq.{take_all, take-take, get_or-take, length-take-le}
use Rattle.std.specs.Prelude.{Ok}
use Rattle.little.specs.Parts.{part, put, block}
use Rattle.little.proofs.Laws.{test_laws, put_laws, part_laws, block_laws}
use Rattle.blake3.specs.Tree.{hash}
use Rattle.blake3.specs.Running.{with_bytes, fresh, finished}
use Rattle.blake3.specs.declared.running.Running.{Running}
use Rattle.blake3.proofs.Laws.{feed_laws}
use Rattle.cauchy.specs.Code.{joined}
use Rattle.cauchy.specs.Decode.{held, missing, missing_data, rank, decode}
use Rattle.cauchy.proofs.Laws.{missing_laws}
use Rattle.sfc.proofs.session.HeldLaws.{decode-held}
use Rattle.sfc.specs.give.Turns.{piece_of, joined_bytes}
use Rattle.sfc.specs.inner.Gather.{Restored, Gatherable, Cut}

-- ---- how many blocks before block j are missing

pub rank_none : (marks : List ℕ) → rank 0 marks ≡ 0
unfolding rank missing held
rank_none marks = refl

rank-taken : (marks : List ℕ) (j : ℕ) → rank j marks ≡ length (missing 0 (take j (held marks)))
unfolding rank
rank-taken marks j = ap (λ (x : List ℕ). length (missing 0 x)) (missing_laws.held-take j marks)

pub rank-held : (marks : List ℕ) (j : ℕ) → get_or marks j 0 ≡ 1 → rank (j + 1) marks ≡ rank j marks
rank-held marks j e =
    let h : 0 < get_or (held marks) j 0 = omega (arith, missing_laws.held_one marks j e) in
    ap (λ (k : ℕ). rank k marks) (add-one j) ∙ rank-taken marks (suc j) ∙ missing_laws.missing-same 0 (held marks) j h ∙ sym (rank-taken marks j)

pub rank-lost : (marks : List ℕ) (j : ℕ) → j < length marks → (get_or marks j 0 ≡ 1 → ⊥) → rank (j + 1) marks ≡ rank j marks + 1
rank-lost marks j h e =
    let l : j < length (held marks) = omega (arith, missing_laws.length-held marks) in
    ap (λ (k : ℕ). rank k marks) (add-one j) ∙ rank-taken marks (suc j) ∙ missing_laws.missing_more 0 (held marks) j l (missing_laws.held_none marks j e)
    ∙ ap suc (sym (rank-taken marks j)) ∙ sym (add-one (rank j marks))

rank_within : (n : ℕ) (marks : List ℕ) (j : ℕ) → j ≤ n → rank j marks ≡ length (missing 0 (take j (held (take n marks))))
unfolding rank
rank_within n marks j h = ap (λ (x : List ℕ). length (missing 0 x)) (ap held (sym (take-take j n marks h)) ∙ missing_laws.held-take j (take n marks))

-- a missing block stands in the list of them at the place that its rank says
rank-place : (n : ℕ) (marks : List ℕ) (j : ℕ) → n ≤ length marks → j < n → (get_or marks j 0 ≡ 1 → ⊥)
    → (get_or (missing_data n marks) (rank j marks) 0 ≡ j) × (rank j marks < length (missing_data n marks))
rank-place n marks j hn hj e =
    let z : get_or (held (take n marks)) j 0 ≡ 0 = missing_laws.held_none (take n marks) j (λ q. e (sym (get_or-take n marks j 0 hj) ∙ q)) in
    let l : j < length (held (take n marks)) = omega (arith, missing_laws.length-held (take n marks), length-take-le n marks hn) in
    let t : rank j marks ≡ length (missing 0 (take j (held (take n marks)))) = rank_within n marks j (omega arith) in
    let p = missing_laws.missing_at 0 0 (held (take n marks)) j l z in
    (ap (λ (k : ℕ). get_or (missing_data n marks) k 0) t ∙ p.0 ∙ omega arith, omega (arith, t, p.1))

-- ---- the content from block j on

take-append : (k : ℕ) (xs ys : List ℕ) → take k (xs ++ ys) ≡ take k xs ++ take (k - length xs) ys
take-append zero xs ys = let e : 0 - length xs ≡ 0 = omega arith in rw e
take-append (suc k) [] ys = let e : suc k - 0 ≡ suc k = omega arith in rw e
take-append (suc k) (x ∷ xs) ys =
    let e : suc k - suc (length xs) ≡ k - length xs = omega arith in
    ap (λ (r : List ℕ). x ∷ r) (take-append k xs ys) ∙ ap (λ (i : ℕ). x ∷ (take k xs ++ take i ys)) (sym e)

length-take_most : (k : ℕ) (xs : List ℕ) → length (take k xs) ≤ k
length-take_most zero xs = omega arith
length-take_most (suc k) [] = omega arith
length-take_most (suc k) (x ∷ xs) = omega (arith, length-take_most k xs)

unfoldable pub rest : ℕ → ℕ → ℕ → List ℕ → List ℕ → List ℕ → ℕ → List ℕ
rest size n s marks store scratch j = take (size - j * s) (joined (λ i. piece_of s store marks scratch i) j (n - j))

pub rest_all : (size n s : ℕ) (marks store scratch : List ℕ) → rest size n s marks store scratch 0 ≡ joined_bytes size n s store marks scratch
unfolding rest joined_bytes
rest_all size n s marks store scratch = let a : size - 0 * s ≡ size = omega arith in let b : n - 0 ≡ n = omega arith in rw (a, b)

pub rest_none : (size n s : ℕ) (marks store scratch : List ℕ) (j : ℕ) → n ≤ j → rest size n s marks store scratch j ≡ []
unfolding rest joined
rest_none size n s marks store scratch j h = let z : n - j ≡ 0 = omega arith in rw z (take_all (size - j * s) [] (omega arith))

rest_past : (size n s : ℕ) (marks store scratch : List ℕ) (j : ℕ) → size ≤ j * s → rest size n s marks store scratch j ≡ []
unfolding rest
rest_past size n s marks store scratch j h = let z : size - j * s ≡ 0 = omega arith in rw z

pub rest_next : (size n s : ℕ) (marks store scratch : List ℕ) (j : ℕ) → j < n → length (piece_of s store marks scratch j) ≡ s
    → rest size n s marks store scratch j ≡ take (size - j * s) (piece_of s store marks scratch j) ++ rest size n s marks store scratch (j + 1)
unfolding rest joined
rest_next size n s marks store scratch j h l =
    let a : n - j ≡ suc (n - (j + 1)) = omega arith in
    let b : size - j * s - length (piece_of s store marks scratch j) ≡ size - (j + 1) * s = omega arith in
    ap (λ (c : ℕ). take (size - j * s) (joined (λ i. piece_of s store marks scratch i) j c)) a
    ∙ take-append (size - j * s) (piece_of s store marks scratch j) (joined (λ i. piece_of s store marks scratch i) (suc j) (n - (j + 1)))
    ∙ ap₂ (λ (k i : ℕ). take (size - j * s) (piece_of s store marks scratch j) ++ take k (joined (λ i. piece_of s store marks scratch i) i (n - (j + 1)))) b (sym (add-one j))

-- ---- a turn's block, from where it lies

-- what the smaller of two numbers is
abbrev pub Least : ℕ → ℕ → ℕ → Type 0
Least r a b = ((r ≡ a) × (r ≤ b)) ⊎ ((r ≡ b) × (r ≤ a))

least_first : (r a b : ℕ) → Least r a b → r ≤ a
least_first r a b (inl e) = omega (arith, e.0)
least_first r a b (inr e) = e.1

least_second : (r a b : ℕ) → Least r a b → r ≤ b
least_second r a b (inl e) = e.1
least_second r a b (inr e) = omega (arith, e.0)

cut-same : (r a b : ℕ) (xs : List ℕ) → length xs ≡ a → Least r a b → take r xs ≡ take b xs
cut-same r a b xs l (inl e) = take_all r xs (omega (arith, e.0)) ∙ sym (take_all b xs (omega (arith, e.0, e.1)))
cut-same r a b xs l (inr e) = ap (λ (k : ℕ). take k xs) e.0

-- the first `count` bytes of block i of a store
cut-block : (store : List ℕ) (i s count : ℕ) → count ≤ s → part store (i * s) (i * s + count - i * s) ≡ take count (block s store i)
cut-block store i s count h = let e : i * s + count - i * s ≡ count = omega arith in rw e (sym (take-take count s (drop (i * s) store) h))

-- a missing data block lies in scratch at the place of its rank
module _ (n s : ℕ) (marks store scratch : List ℕ) (w : Gatherable n s marks store scratch) (j : ℕ) (h : j < n) (lost : get_or marks j 0 ≡ 1 → ⊥) where
  pub row_in : (row : ℕ) → row ≡ rank j marks → row * s + s ≤ length scratch
  row_in row e = rw e (omega (arith, w.room, block_laws.block_inside s (length (missing_data n marks)) (rank j marks) (rank-place n marks j w.marks_long h lost).1))

  pub piece-lost : piece_of s store marks scratch j ≡ block s scratch (rank j marks)
  piece-lost = rw (ne_eqb (get_or marks j 0) 1 lost)

pub piece-held : (s : ℕ) (store marks scratch : List ℕ) (j : ℕ) → get_or marks j 0 ≡ 1 → piece_of s store marks scratch j ≡ block s store j
piece-held s store marks scratch j e = rw (eq-eqb (get_or marks j 0) 1 e)

pub length-piece : (n s : ℕ) (marks store scratch : List ℕ) → Gatherable n s marks store scratch → (j : ℕ) → j < n → length (piece_of s store marks scratch j) ≡ s
length-piece n s marks store scratch w j h = go (ℕ_discrete (get_or marks j 0) 1)
  where
    go : Dec (get_or marks j 0 ≡ 1) → length (piece_of s store marks scratch j) ≡ s
    go (yes e) = ap length (piece-held s store marks scratch j e) ∙ part_laws.length_part store (j * s) s (omega (arith, w.store_long, block_laws.block_inside s n j h))
    go (no e) =
        ap length (piece-lost n s marks store scratch w j h e)
        ∙ part_laws.length_part scratch (rank j marks * s) s (row_in n s marks store scratch w j h e (rank j marks) refl)

-- where what lies in scratch is what the code rebuilds, so is the piece
pub restored_gathers : (n m s : ℕ) (marks store scratch : List ℕ) → Restored n m s marks store scratch → Gatherable n s marks store scratch
restored_gathers n m s marks store scratch w =
    record { marks_long = omega (arith, w.marks_long); store_long = omega (arith, w.store_long, mul-le-mul_right {m = n} {n = n + m} s (omega arith)); room = w.room }

pub piece_restored : (n m s : ℕ) (marks store scratch : List ℕ) → Restored n m s marks store scratch → (j : ℕ) → j < n
    → piece_of s store marks scratch j ≡ decode n m s marks store j
piece_restored n m s marks store scratch w j h = go (ℕ_discrete (get_or marks j 0) 1)
  where
    go : Dec (get_or marks j 0 ≡ 1) → piece_of s store marks scratch j ≡ decode n m s marks store j
    go (yes e) = piece-held s store marks scratch j e ∙ sym (decode-held n m s marks store j e)
    go (no e) =
        let p = rank-place n marks j (omega (arith, w.marks_long)) h e in
        piece-lost n s marks store scratch (restored_gathers n m s marks store scratch w) j h e
        ∙ w.found (rank j marks) p.1 ∙ ap (λ (i : ℕ). decode n m s marks store i) p.0

pub block_small : (size n s : ℕ) → Cut size n s → (j : ℕ) → j < n → j * s + s ≤ 2 ^ 32
block_small size n s w j h = omega (arith, w.small, block_laws.block_inside s n j h)

pub before-end : (size n s : ℕ) → Cut size n s → (j : ℕ) → j < n → j * s ≤ size
before-end size n s w j h = omega (arith, mul-le-mul_right {m = j} {n = n - 1} s (omega arith), w.least)

module _ (size n s : ℕ) (marks store scratch : List ℕ) (w : Cut size n s × Gatherable n s marks store scratch) (j : ℕ) (h : j < n) (count : ℕ) (least : Least count s (size - j * s)) where
  long : length (piece_of s store marks scratch j) ≡ s
  long = length-piece n s marks store scratch w.1 j h

  pub count_most : count ≤ s
  count_most = least_first count s (size - j * s) least

  pub next_from : rest size n s marks store scratch j ≡ take count (piece_of s store marks scratch j) ++ rest size n s marks store scratch (j + 1)
  next_from =
      rest_next size n s marks store scratch j h long
      ∙ ap (λ (x : List ℕ). x ++ rest size n s marks store scratch (j + 1)) (sym (cut-same count s (size - j * s) (piece_of s store marks scratch j) long least))

  length_cut : length (take count (piece_of s store marks scratch j)) ≡ count
  length_cut = length-take-le count (piece_of s store marks scratch j) (omega (arith, long, count_most))

  -- the block is cut only where nothing comes after it
  pub next_place : (length (take count (piece_of s store marks scratch j)) ≡ s) ⊎ (rest size n s marks store scratch (j + 1) ≡ [])
  next_place = go least
    where
      go : Least count s (size - j * s) → (length (take count (piece_of s store marks scratch j)) ≡ s) ⊎ (rest size n s marks store scratch (j + 1) ≡ [])
      go (inl e) = inl (length_cut ∙ e.0)
      go (inr e) = ⊎_elim (λ f. inl (length_cut ∙ omega (arith, e.0, e.1, f))) (λ f. inr (rest_past size n s marks store scratch (j + 1) (omega (arith, e.0, f)))) (test_laws.below_or s (count + 1))

  pub cut_most : length (take count (piece_of s store marks scratch j)) ≤ s
  cut_most = omega (arith, length-take_most count (piece_of s store marks scratch j), count_most)

  pub block_in_store : j * s + s ≤ length store
  block_in_store = omega (arith, w.1.store_long, block_laws.block_inside s n j h)

  pub in_store : j * s + count ≤ length store
  in_store = omega (arith, block_in_store, count_most)

  pub in_cut : j * s + count ≤ size
  in_cut = omega (arith, before-end size n s w.0 j h, least_second count s (size - j * s) least)

  pub in_out : (out : List ℕ) → j * s + count ≤ length out → j * s + length (take count (piece_of s store marks scratch j)) ≤ length out
  in_out out f = omega (arith, length_cut)

  pub held_long : length (part store (j * s) (j * s + count - j * s)) ≡ count
  held_long = part_laws.cut_long store (j * s) count in_store

  pub held-part : get_or marks j 0 ≡ 1 → part store (j * s) (j * s + count - j * s) ≡ take count (piece_of s store marks scratch j)
  held-part e = cut-block store j s count count_most ∙ ap (take count) (sym (piece-held s store marks scratch j e))

  module _ (lost : get_or marks j 0 ≡ 1 → ⊥) (row : ℕ) (row_is : row ≡ rank j marks) where
    pub in_scratch : row * s + count ≤ length scratch
    in_scratch = omega (arith, row_in n s marks store scratch w.1 j h lost row row_is, count_most)

    pub lost_long : length (part scratch (row * s) (row * s + count - row * s)) ≡ count
    lost_long = part_laws.cut_long scratch (row * s) count in_scratch

    pub lost-part : part scratch (row * s) (row * s + count - row * s) ≡ take count (piece_of s store marks scratch j)
    lost-part =
        cut-block scratch row s count count_most
        ∙ ap (take count) (ap (block s scratch) row_is ∙ sym (piece-lost n s marks store scratch w.1 j h lost))

-- and so few bytes may be fed
pub few_enough : (xs : List ℕ) (at k fed most : ℕ) → fed + k ≤ most → fed + length (part xs at k) ≤ most
few_enough xs at k fed most h = omega (arith, part_laws.length_cut xs at k)

-- ---- hashing: what is fed and what is still to be fed make up the content

pub record Feeding (size n s : ℕ) (marks store scratch : List ℕ) (state : Running) (row j : ℕ) : Type 0 where
  pub to : j ≤ n
  pub row_is : row ≡ rank j marks
  pub low : row ≤ j
  pub few : state.fed ≤ j * s
  pub all : with_bytes state (rest size n s marks store scratch j) ≡ with_bytes fresh (rest size n s marks store scratch 0)

pub feeding_start : (size n s : ℕ) (marks store scratch : List ℕ) (state : Running) → state ≡ fresh → Feeding size n s marks store scratch state 0 0
feeding_start size n s marks store scratch state e = record {
  to = omega arith;
  row_is = sym (rank_none marks);
  low = omega arith;
  few = omega (arith, ap (λ (r : Running). r.fed) e);
  all = ap (λ (r : Running). with_bytes r (rest size n s marks store scratch 0)) e;
}

pub feeding_next : (size n s : ℕ) (marks store scratch : List ℕ) (state : Running) (row j : ℕ) (p : List ℕ) → length p ≤ s → j < n
    → rest size n s marks store scratch j ≡ p ++ rest size n s marks store scratch (j + 1) → Feeding size n s marks store scratch state row j
    → (row' : ℕ) → row' ≡ rank (j + 1) marks → row' ≤ j + 1 → Feeding size n s marks store scratch (with_bytes state p) row' (j + 1)
feeding_next size n s marks store scratch state row j p l h e f row' r b = record {
  to = omega arith;
  row_is = r;
  low = b;
  few = omega (arith, f.few, (feed_laws.fed_bytes p).count state);
  all = sym (feed_laws.with_both state p (rest size n s marks store scratch (j + 1))) ∙ ap (with_bytes state) (sym e) ∙ f.all;
}

joined_most : (size n s : ℕ) (store marks scratch : List ℕ) → length (joined_bytes size n s store marks scratch) ≤ size
unfolding joined_bytes
joined_most size n s store marks scratch = length-take_most size (joined (λ j. piece_of s store marks scratch j) 0 n)

pub feeding_end : (size n s : ℕ) (marks store scratch : List ℕ) (state : Running) (row j : ℕ) → n ≤ j → size ≤ 2 ^ 32 → Feeding size n s marks store scratch state row j
    → finished state ≡ Ok (hash (joined_bytes size n s store marks scratch))
unfolding with_bytes
feeding_end size n s marks store scratch state row j h small f =
    let z : state ≡ with_bytes fresh (joined_bytes size n s store marks scratch)
    = ap (with_bytes state) (sym (rest_none size n s marks store scratch j h)) ∙ f.all ∙ ap (with_bytes fresh) (rest_all size n s marks store scratch) in
    ap (λ (r : Running). finished r) z ∙ (feed_laws.fed_bytes (joined_bytes size n s store marks scratch)).ends (omega (arith, joined_most size n s store marks scratch))

-- ---- copying: what is still to be copied, put into the output, gives the promised one

pub record Copying (size n s : ℕ) (marks store scratch out₀ out : List ℕ) (row j : ℕ) : Type 0 where
  pub to : j ≤ n
  pub row_is : row ≡ rank j marks
  pub low : row ≤ j
  pub long : length out ≡ length out₀
  pub all : put out (j * s) (rest size n s marks store scratch j) ≡ put out₀ 0 (rest size n s marks store scratch 0)

pub copying_start : (size n s : ℕ) (marks store scratch out : List ℕ) → Copying size n s marks store scratch out out 0 0
copying_start size n s marks store scratch out =
    let z : 0 * s ≡ 0 = omega arith in
    record { to = omega arith; row_is = sym (rank_none marks); low = omega arith; long = refl; all = ap (λ (k : ℕ). put out k (rest size n s marks store scratch 0)) z }

copying_put : (size n s : ℕ) (marks store scratch out₀ out : List ℕ) (row j : ℕ) (p : List ℕ) → j * s + length p ≤ length out → j < n
    → (length p ≡ s) ⊎ (rest size n s marks store scratch (j + 1) ≡ [])
    → rest size n s marks store scratch j ≡ p ++ rest size n s marks store scratch (j + 1) → Copying size n s marks store scratch out₀ out row j
    → (row' : ℕ) → row' ≡ rank (j + 1) marks → row' ≤ j + 1 → Copying size n s marks store scratch out₀ (put out (j * s) p) row' (j + 1)
copying_put size n s marks store scratch out₀ out row j p l h k e f row' r b = record {
  to = omega arith;
  row_is = r;
  low = b;
  long = put_laws.length-put out (j * s) p l ∙ f.long;
  all = ⊎_elim whole last k ∙ ap (put out (j * s)) (sym e) ∙ f.all;
}
  where
    R : List ℕ
    R = rest size n s marks store scratch (j + 1)

    whole : length p ≡ s → put (put out (j * s) p) ((j + 1) * s) R ≡ put out (j * s) (p ++ R)
    whole q = let w : (j + 1) * s ≡ j * s + length p = omega arith in ap (λ (i : ℕ). put (put out (j * s) p) i R) w ∙ put_laws.put_next out (j * s) p R (omega (arith, l))

    last : R ≡ [] → put (put out (j * s) p) ((j + 1) * s) R ≡ put out (j * s) (p ++ R)
    last q =
        ap (put (put out (j * s) p) ((j + 1) * s)) q ∙ put_laws.put_none (put out (j * s) p) ((j + 1) * s)
        ∙ ap (put out (j * s)) (sym (append-nil p)) ∙ ap (λ (x : List ℕ). put out (j * s) (p ++ x)) (sym q)

-- a turn: src is copied over its place, and is the part of block j that belongs to the content
pub copying_next : (size n s : ℕ) (marks store scratch : List ℕ) (w : Cut size n s × Gatherable n s marks store scratch) (j : ℕ) (h : j < n) (count : ℕ) (least : Least count s (size - j * s))
    (out₀ out : List ℕ) (row : ℕ) → j * s + count ≤ length out → Copying size n s marks store scratch out₀ out row j
    → (src : List ℕ) → length src ≡ count → src ≡ take count (piece_of s store marks scratch j)
    → (ys out' : List ℕ) → out' ≡ take (j * s) out ++ (ys ++ drop (j * s + count - j * s) (drop (j * s) out))
    → ys ≡ src → (row' : ℕ) → row' ≡ rank (j + 1) marks → row' ≤ j + 1 → Copying size n s marks store scratch out₀ out' row' (j + 1)
copying_next size n s marks store scratch w j h count least out₀ out row fits f src ls es ys out' eo ey row' r b =
    let long_is : length src ≡ j * s + count - j * s = omega (arith, ls) in
    let e : out' ≡ put out (j * s) (take count (piece_of s store marks scratch j)) =
    eo ∙ ap (λ (y : List ℕ). take (j * s) out ++ (y ++ drop (j * s + count - j * s) (drop (j * s) out))) ey ∙ put_laws.lent out src (j * s) (j * s + count - j * s) long_is
    ∙ ap (put out (j * s)) es in
    rw e
    (copying_put size n s marks store scratch out₀ out row j (take count (piece_of s store marks scratch j))
    (in_out size n s marks store scratch w j h count least out fits) h (next_place size n s marks store scratch w j h count least) (next_from size n s marks store scratch w j h count least) f row' r b)

pub copying_end : (size n s : ℕ) (marks store scratch out₀ out : List ℕ) (row j : ℕ) → n ≤ j → Copying size n s marks store scratch out₀ out row j
    → out ≡ put out₀ 0 (joined_bytes size n s store marks scratch)
copying_end size n s marks store scratch out₀ out row j h f =
    sym (put_laws.put_none out (j * s)) ∙ ap (put out (j * s)) (sym (rest_none size n s marks store scratch j h)) ∙ f.all ∙ ap (put out₀ 0) (rest_all size n s marks store scratch)
