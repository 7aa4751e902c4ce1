-- What `decode` gives has all that it uses: there is a list with just that, and it can be no other. Assumes nothing.
use mathlib.Core.Path.{◌≡◌, refl, sym, ◌∙◌, ap, ap₂}
use mathlib.Core.Bool.{Bool, true, false, cond}
use mathlib.Core.List.{List, [], ◌∷◌, ◌++◌, append-nil}
use Prim.Native.Nat.{ℕ, zero, suc, ◌+◌, ◌*◌, ◌/◌, ◌≤◌, ◌<◌}
use native.Mathlib.Omega.{arith}
use lib.ListN.{length, get_or, take, drop, length-append, length-drop, drop_of_length-le}
use lib.Seq.{get_or-take, length-take-le, take-take, take-append-le, drop-append-add}
use lib.Dec.{eqb}
use lib.Bits.{bit_xor}
use Rattle.little.specs.Parts.{block}
use Rattle.cauchy.specs.Code.{joined, word_bytes, word_of}
use Rattle.cauchy.specs.Decode.{held, count, missing, present, holding, missing_data, rows_used, side, sides, found_words, rank, decode, decoded, first_held, used_marks}
use Rattle.cauchy.specs.Theorems.{Shape, Used, UsedOne}
use Rattle.cauchy.proofs.blocks.Store.{column}
use Rattle.cauchy.proofs.blocks.BlockLaws.{joined_ext}
use Rattle.cauchy.proofs.decoding.Known.{length-held, held-take, held-drop, count_split, length-missing, length-present, held_row, held-sum, known, some}
use Rattle.cauchy.proofs.decoding.Decoded.{in_blocks}
use Rattle.cauchy.specs.Laws.{Enough}
use Rattle.cauchy.proofs.columns.EndLaws.{enough}

-- ---- the first held marks

length-first : (e : ℕ) (ms : List ℕ) → length (first_held e ms) ≡ length ms
unfolding first_held
length-first e [] = refl
length-first zero (a ∷ ms) = ap suc (length-first zero ms)
length-first (suc e) (a ∷ ms) = either (eqb a 1) (length-first e ms) (length-first (suc e) ms)
  where
    either : (t : Bool) → length (first_held e ms) ≡ length ms → length (first_held (suc e) ms) ≡ length ms
        → length (cond t (1 ∷ first_held e ms) (0 ∷ first_held (suc e) ms)) ≡ suc (length ms)
    either true p q = ap suc p
    either false p q = ap suc q

present-first : (e c : ℕ) (ms : List ℕ) → present c (held (first_held e ms)) ≡ take e (present c (held ms))
unfolding first_held held present
present-first zero c [] = refl
present-first (suc e) c [] = refl
present-first zero c (a ∷ ms) = present-first zero (suc c) ms
present-first (suc e) c (a ∷ ms) = either (eqb a 1) (present-first e (suc c) ms) (present-first (suc e) (suc c) ms)
  where
    either : (t : Bool) → present (suc c) (held (first_held e ms)) ≡ take e (present (suc c) (held ms))
        → present (suc c) (held (first_held (suc e) ms)) ≡ take (suc e) (present (suc c) (held ms))
        → present c (held (cond t (1 ∷ first_held e ms) (0 ∷ first_held (suc e) ms))) ≡ take (suc e) (present c (cond t 1 0 ∷ held ms))
    either true p q = ap (λ (l : List ℕ). c ∷ l) p
    either false p q = q

count-first : (e : ℕ) (ms : List ℕ) → e ≤ count (held ms) → count (held (first_held e ms)) ≡ e
count-first e ms h =
    sym (length-present 0 (held (first_held e ms))) ∙ ap length (present-first e 0 ms) ∙ length-take-le e (present 0 (held ms)) (omega (arith, length-present 0 (held ms)))

-- ---- what is used is what decides

module _ (n m : ℕ) (marks : List ℕ) (lm : length marks ≡ n + m) (h : n ≤ holding marks) where
  lt : length (take n marks) ≡ n
  lt = length-take-le n marks (omega arith)

  same_data : take n (used_marks n marks) ≡ take n marks
  unfolding used_marks
  same_data =
      take-append-le n (take n marks) (first_held (length (missing_data n marks)) (drop n marks)) (omega (arith, lt)) ∙ take-take n n marks (omega arith)

  same_rest : drop n (used_marks n marks) ≡ first_held (length (missing_data n marks)) (drop n marks)
  unfolding used_marks
  same_rest =
      let e : n ≡ length (take n marks) + 0 = omega (arith, lt) in
      ap (λ (x : ℕ). drop x (take n marks ++ first_held (length (missing_data n marks)) (drop n marks))) e
      ∙ drop-append-add (take n marks) (first_held (length (missing_data n marks)) (drop n marks)) 0

  used_size : length (used_marks n marks) ≡ n + m
  unfolding used_marks
  used_size =
      length-append (take n marks) (first_held (length (missing_data n marks)) (drop n marks))
      ∙ omega (arith, lt, length-first (length (missing_data n marks)) (drop n marks), length-drop n marks)

  used_holding : holding (used_marks n marks) ≡ n
  used_holding =
      let q : Enough n m marks = enough n m marks lm h in
      let e : length (missing_data n marks) ≤ count (held (drop n marks)) = omega (arith, q.rows, q.same, length-present 0 (held (drop n marks))) in
      count_split n (held (used_marks n marks))
      ∙ ap₂ (λ (x y : List ℕ). count x + count y) (sym (held-take n (used_marks n marks)) ∙ ap held same_data) (sym (held-drop n (used_marks n marks)) ∙ ap held same_rest)
      ∙ omega (arith, count-first (length (missing_data n marks)) (drop n marks) e, length-missing 0 (held (take n marks)), length-held (take n marks), lt)

  same_rows : rows_used n (used_marks n marks) ≡ rows_used n marks
  unfolding rows_used
  same_rows =
      ap₂ (λ (x y : List ℕ). take (length (missing 0 (held x))) (present 0 (held y))) same_data same_rest
      ∙ ap (take (length (missing_data n marks))) (present-first (length (missing_data n marks)) 0 (drop n marks))
      ∙ take-take (length (missing_data n marks)) (length (missing_data n marks)) (present 0 (held (drop n marks))) (omega arith)

  same-mark : (j : ℕ) → j < n → get_or (used_marks n marks) j 0 ≡ get_or marks j 0
  same-mark j hj = sym (get_or-take n (used_marks n marks) j 0 hj) ∙ ap (λ (x : List ℕ). get_or x j 0) same_data ∙ get_or-take n marks j 0 hj

  same-front : (j : ℕ) → j < n → take j (used_marks n marks) ≡ take j marks
  same-front j hj = sym (take-take j n (used_marks n marks) (omega arith)) ∙ ap (take j) same_data ∙ take-take j n marks (omega arith)

  module _ (s : ℕ) (store : List ℕ) where
    same-sides : (w : ℕ) (ks : List ℕ) → sides n m s (used_marks n marks) store w ks ≡ sides n m s marks store w ks
    unfolding sides side
    same-sides w [] = refl
    same-sides w (k ∷ ks) =
        ap₂ ◌∷◌
        (ap (λ (x : ℕ). bit_xor x (word_of s store (n + k) w))
        (held-sum n m s (used_marks n marks) store k w ∙ ap (λ (x : List ℕ). held_row k m (held x) (column s w n store)) same_data ∙ sym (held-sum n m s marks store k w)))
        (same-sides w ks)

    same-words : (w : ℕ) → found_words n m s (used_marks n marks) store w ≡ found_words n m s marks store w
    unfolding found_words
    same-words w = rw (same_rows, same_data, same-sides w (rows_used n marks))

    same-decode : (j : ℕ) → j < n → decode n m s (used_marks n marks) store j ≡ decode n m s marks store j
    unfolding decode rank
    same-decode j hj =
        ap₂ (λ (x : ℕ) (y : List ℕ). cond (eqb x 1) (block s store j) (word_bytes (λ w. get_or (found_words n m s (used_marks n marks) store w) (length (missing 0 (held y))) 0) 0 (s / 2)))
        (same-mark j hj) (same-front j hj)
        ∙ ap (λ (f : ℕ → List ℕ). cond (eqb (get_or marks j 0) 1) (block s store j) (word_bytes (λ w. get_or (f w) (length (missing 0 (held (take j marks)))) 0) 0 (s / 2)))
        (λ i w. same-words w i)

-- ---- all of it

-- a list is `decoded` if each of its blocks is `decode`
pub as_decoded : (n m s : ℕ) (marks store blocks : List ℕ) → length blocks ≡ n * s
    → ((j : ℕ) → j < n → block s blocks j ≡ decode n m s marks store j) → blocks ≡ decoded n m s marks store
unfolding decoded
as_decoded n m s marks store blocks l same =
    let z : 0 * s ≡ 0 = omega arith in
    let k : 0 + n ≡ n = omega arith in
    (rw (z, k) at (in_blocks s blocks 0 n))
    ∙ ap₂ (λ (x y : List ℕ). x ++ y) (joined_ext (λ j. block s blocks j) (λ j. decode n m s marks store j) n same)
    (drop_of_length-le blocks {i = n * s} (omega arith))
    ∙ append-nil (joined (λ j. decode n m s marks store j) 0 n)

used_shape : (n m s : ℕ) (marks store : List ℕ) → Shape n m s marks store → n ≤ holding marks → Shape n m s (used_marks n marks) store
used_shape n m s marks store g h =
    record { even = g.even; small = g.small; marks-size = used_size n m marks g.marks-size h; store-blocks = g.store-blocks }

pub used_one : UsedOne
used_one n m s marks store blocks g h b f =
    let hn : holding (used_marks n marks) ≡ n = used_holding n m marks g.marks-size h in
    as_decoded n m s marks store blocks b.0
    (λ j hj.
    known n m s (used_marks n marks) store blocks (used_shape n m s marks store g h) b f (omega (arith, hn)) j hj
    ∙ same-decode n m marks g.marks-size h s store j hj)

pub used : Used
used n m s marks store g h =
    let hn : holding (used_marks n marks) ≡ n = used_holding n m marks g.marks-size h in
    let r = some n m s (used_marks n marks) store (used_shape n m s marks store g h) (omega (arith, hn)) in
    rw (sym (used_one n m s marks store r.0 g h r.1 r.2)) (r.1, r.2)
