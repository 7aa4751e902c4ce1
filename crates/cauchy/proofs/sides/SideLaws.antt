-- The right sides, row by row: a word of the sums and the recovery block's own word. Assumes nothing.
use mathlib.Core.Path.{◌≡◌, refl, sym, subst, ap, ap₂, ◌∙◌}
use mathlib.Core.Bool.{Bool, cond}
use mathlib.Core.List.{List, ◌++◌}
use Prim.Native.Nat.{ℕ, ◌+◌, ◌-◌, ◌*◌, ◌/◌, ◌%◌, ◌≤◌, ◌<◌}
use native.Mathlib.Nat.{mul-le-mul_right}
use native.Mathlib.Omega.{arith}
use native.Mathlib.Decide.{dec_lt}
use lib.ListN.{length, get_or, take, drop, length-take, get_or-eq_default}
use lib.Seq.{get_or-take, length-take-le}
use lib.Bits.{bit_xor, xor_lt, xor_zero_l}
use borrow.Author.Tests.{ne_eqb}
use Rattle.little.specs.Fields.{Bytes}
use Rattle.little.proofs.Laws.{part_laws, byte_laws, little_laws}
use Rattle.gf16.proofs.Laws.{laws}
use Rattle.cauchy.specs.Code.{word_at, word_of, word_bytes, share}
use Rattle.cauchy.specs.Decode.{held_sum, side, sides}
use Rattle.cauchy.specs.Calls.{filled}
use Rattle.cauchy.specs.declared.sides.Damaged.{Damaged}
use Rattle.cauchy.specs.inner.Promises.{Below, Room}
use Rattle.cauchy.proofs.blocks.BlockLaws.{length-word_bytes, word_bytes_ext, word_back_small, below_word_bytes, words_same}
use Rattle.cauchy.proofs.blocks.CodeLaws.{sum_none}
use Rattle.cauchy.proofs.blocks.WordBytes.{word_lt}
use Rattle.cauchy.proofs.blocks.Filled.{put-filled, filled_ext}
use Rattle.cauchy.proofs.tables.SummedLaws.{summed_words}
use Rattle.cauchy.proofs.ranges.RangeLaws.{none_filled, ltb_other}
use Rattle.cauchy.proofs.decoding.Known.{length-sides, get_or-sides}
use Rattle.cauchy.specs.inner.Packed.{Sums, SumsFor, unit_of, row_bytes, held_rows, Summed}
use Rattle.cauchy.specs.inner.Ranges.{Columns, sides_scratch}
use Rattle.cauchy.proofs.encode.FourLaws.{word_out}
use Rattle.cauchy.proofs.sides.HeldLaws.{held_share, held_below}

-- a row of the sums, with a block added
pub side-put : (r : ℕ) (acc block mid out : List ℕ) → Bytes mid → Bytes block → mid ≡ row_bytes r acc → Summed mid block out
    → out ≡ word_bytes (λ w. bit_xor (get_or acc w 0 / unit_of r % 65536) (word_at block (2 * w))) 0 (length acc)
unfolding row_bytes
side-put r acc block mid out bm bb em eo =
    summed_words mid block out bm bb eo (length acc) (λ w. bit_xor (f w) (word_at block (2 * w))) (ap length em ∙ length-word_bytes f 0 (length acc))
    (λ w m. xor_lt 16 (f w) (word_at block (2 * w)) (omega arith) ((little_laws 2).bound block bb (2 * w)))
    (λ w m. ap (λ (x : ℕ). bit_xor x (word_at block (2 * w))) (ap (λ (x : List ℕ). word_at x (2 * w)) em ∙ word_back_small f (length acc) w m (omega arith)))
  where
    f : ℕ → ℕ
    f w = get_or acc w 0 / unit_of r % 65536

-- word w of the right side of row l
abbrev pub side_at : ℕ → ℕ → ℕ → List ℕ → List ℕ → List ℕ → ℕ → ℕ → ℕ
side_at n m s marks rows store l w = side n m s marks store w (get_or rows l 0)

-- the first i rows are done
abbrev pub Sided : ℕ → ℕ → ℕ → ℕ → ℕ → List ℕ → List ℕ → List ℕ → List ℕ → ℕ → List ℕ → Type 0
Sided n m s first count marks rows store base i F = F ≡ filled s first count i (side_at n m s marks rows store) base

-- where none is held, nothing is taken off
none_held : (n m s : ℕ) (marks store : List ℕ) (k w : ℕ) → ((j : ℕ) → j < n → get_or marks j 0 ≡ 1 → ⊥) → held_sum n m s marks store k w ≡ 0
unfolding held_sum
none_held n m s marks store k w none =
    sum_none (held_share m s marks store k w) 0 n
    (λ j h. let e : 0 + j ≡ j = omega arith in rw e (ap (λ (t : Bool). cond t (share m s store k w j) 0) (ne_eqb (get_or marks j 0) 1 (none j h))))

-- bytes are the bytes of their own words
own-words : (l : List ℕ) (n : ℕ) → length l ≡ 2 * n → Below 256 l → l ≡ word_bytes (λ w. word_at l (2 * w)) 0 n
own-words l n e b =
    words_same n l (word_bytes (λ w. word_at l (2 * w)) 0 n) e (length-word_bytes (λ w. word_at l (2 * w)) 0 n) b (below_word_bytes (λ w. word_at l (2 * w)) n)
    (λ w h. sym (word_back_small (λ w. word_at l (2 * w)) n w h (word_lt l (2 * w) b)))

module _ (n m s first count e part size : ℕ) (marks rows store base : List ℕ) (room : Room s first count e part size) where
  pub sided_start : Sided n m s first count marks rows store base 0 base
  sided_start = none_filled s first count (side_at n m s marks rows store) base

  row_put : (i at width : ℕ) (F out : List ℕ) → i < e → length base ≡ size → at ≡ i * s + 2 * first → width ≡ 2 * count
      → Sided n m s first count marks rows store base i F → out ≡ word_bytes (λ v. side_at n m s marks rows store i (first + v)) 0 count
      → Sided n m s first count marks rows store base (i + 1) (take at F ++ (out ++ drop width (drop at F)))
  row_put i at width F out hi lb ea ew here eo =
      ap (λ (x : ℕ). take x F ++ (out ++ drop width (drop x F))) ea
      ∙ put-filled s first count room.words i (i + 1) (side_at n m s marks rows store) (side_at n m s marks rows store) base F out i width
      (omega (arith, room.least)) (omega arith) (omega (arith, room.inside, mul-le-mul_right {m = i + 1} {n = e} s (omega arith))) ew (λ l q. ltb_other l i q) (λ l w q h. refl) here eo

  own_word : (i from wide w : ℕ) → w < count → from ≡ (n + get_or rows i 0) * s + 2 * first → wide ≡ 2 * count
      → word_at (take wide (drop from store)) (2 * w) ≡ word_of s store (n + get_or rows i 0) (first + w)
  own_word i from wide w h ef ev =
      let q : from + 2 * w ≡ (n + get_or rows i 0) * s + 2 * (first + w) = omega arith in
      byte_laws.le-part 2 store from wide (2 * w) (omega arith) ∙ ap (word_at store) q

  -- row i, from the sums of the four rows among which it is
  pub sided_turn : (i from at wide width : ℕ) (acc F out : List ℕ) → m + n ≤ 65536 → ((j : ℕ) → get_or rows j 0 < 65536) → i < e → length base ≡ size
      → from ≡ (n + get_or rows i 0) * s + 2 * first → at ≡ i * s + 2 * first → wide ≡ 2 * count → width ≡ 2 * count
      → Sums (held_rows n m s first marks rows store) (i - i % 4) count acc → Sided n m s first count marks rows store base i F
      → out ≡ word_bytes (λ w. bit_xor (get_or acc w 0 / unit_of (i % 4) % 65536) (word_at (take wide (drop from store)) (2 * w))) 0 (length acc)
      → Sided n m s first count marks rows store base (i + 1) (take at F ++ (out ++ drop width (drop at F)))
  unfolding side
  sided_turn i from at wide width acc F out hm small hi lb ef ea ev ew sums here eo =
      row_put i at width F out hi lb ea ew here
      (eo ∙ ap (word_bytes (λ w. bit_xor (get_or acc w 0 / unit_of (i % 4) % 65536) (word_at (take wide (drop from store)) (2 * w))) 0) sums.size
      ∙ word_bytes_ext _ (λ v. side_at n m s marks rows store i (first + v)) count (λ w h. ap₂ bit_xor (held w h) (own_word i from wide w h ef ev)))
    where
      held : (w : ℕ) → w < count → get_or acc w 0 / unit_of (i % 4) % 65536 ≡ held_sum n m s marks store (get_or rows i 0) (first + w)
      held w h =
          let q : i - i % 4 + i % 4 ≡ i = omega arith in
          ap (λ (x : ℕ). x / unit_of (i % 4) % 65536) (sums.made w h)
          ∙ word_out (λ j. held_rows n m s first marks rows store j w) (i - i % 4) (i % 4) (omega arith) (λ j _. held_below n m s marks store (get_or rows j 0) (first + w) (small j) hm)
          ∙ ap (λ (j : ℕ). held_rows n m s first marks rows store j w) q

  -- row i, where no data block is held: the words of its recovery block as they are
  pub sided_copied : (i from at wide width : ℕ) (F out : List ℕ) → ((j : ℕ) → j < n → get_or marks j 0 ≡ 1 → ⊥) → Bytes store → i < e → length base ≡ size
      → from ≡ (n + get_or rows i 0) * s + 2 * first → at ≡ i * s + 2 * first → wide ≡ 2 * count → width ≡ 2 * count → from + wide ≤ length store
      → Sided n m s first count marks rows store base i F → out ≡ take wide (drop from store)
      → Sided n m s first count marks rows store base (i + 1) (take at F ++ (out ++ drop width (drop at F)))
  unfolding side
  sided_copied i from at wide width F out none bytes hi lb ef ea ev ew hs here eo =
      row_put i at width F out hi lb ea ew here
      (eo ∙ own-words (take wide (drop from store)) count (part_laws.length_part store from wide hs ∙ ev) (λ k h. byte_laws.bytes_part store from wide bytes k)
      ∙ word_bytes_ext (λ v. word_at (take wide (drop from store)) (2 * v)) (λ v. side_at n m s marks rows store i (first + v)) count
      (λ w h. own_word i from wide w h ef ev
      ∙ sym (ap (λ (x : ℕ). bit_xor x (word_of s store (n + get_or rows i 0) (first + w))) (none_held n m s marks store (get_or rows i 0) (first + w) none) ∙ xor_zero_l (word_of s store (n + get_or rows i 0) (first + w)))))

  pub sided_end : (i : ℕ) (F : List ℕ) → i ≡ e → e ≤ length rows → Sided n m s first count marks rows store base i F → F ≡ sides_scratch n m s first count e marks rows store base
  sided_end i F ei he here =
      here ∙ ap (λ (x : ℕ). filled s first count x (side_at n m s marks rows store) base) ei
      ∙ filled_ext s first count e (side_at n m s marks rows store) (λ l w. get_or (sides n m s marks store w (take e rows)) l 0) base
      (λ l w h _ _.
      sym (get_or-sides n m s marks store w (take e rows) l (omega (arith, length-take-le e rows he)) ∙ ap (side n m s marks store w) (get_or-take e rows l 0 h)))

-- the right sides are columns of words
side_below : (n m s : ℕ) (marks store : List ℕ) (w k : ℕ) → k < 65536 → m + n ≤ 65536 → Bytes store → side n m s marks store w k < 65536
unfolding side
side_below n m s marks store w k hk hm bytes =
    laws.add-closed _ (word_of s store (n + k) w) (held_below n m s marks store k w hk hm) ((little_laws 2).bound store bytes ((n + k) * s + 2 * w))

pub sides-columns : (n m s e : ℕ) (marks store xs : List ℕ) → m + n ≤ 65536 → Bytes store → ((i : ℕ) → get_or xs i 0 < 65536) → length xs ≡ e
    → Columns e (λ w. sides n m s marks store w xs)
sides-columns n m s e marks store xs hm bytes bx l = record {
  size = λ w. length-sides n m s marks store w xs ∙ l;
  below = λ w i h. rw (get_or-sides n m s marks store w xs i (omega (arith, length-sides n m s marks store w xs))) (side_below n m s marks store w (get_or xs i 0) (bx i) hm bytes);
}

-- what a damaged store tells
pub room_in : (d : Damaged) (part size : ℕ) → part ≡ 2 * d.range.count → d.e * d.code.s ≤ size → Room d.code.s d.range.first d.range.count d.e part size
room_in d part size whole inside = record {
  least = d.code.s_least;
  most = d.code.s_most;
  even = d.code.even;
  words = omega (arith, d.range.words, d.same);
  few = d.few;
  inside = inside;
  whole = whole;
}

-- the sums of a row are those of the four rows among which it is
module _ (n m s first W : ℕ) (marks rows store : List ℕ) where
  abbrev pub SumsAt : ℕ → List ℕ → Type 0
  SumsAt i acc = Sums (held_rows n m s first marks rows store) (i - i % 4) W acc

  pub sums_new : (i : ℕ) (acc : List ℕ) → i % 4 ≡ 0 → Sums (held_rows n m s first marks rows store) i W acc → SumsAt i acc
  sums_new i acc e h = let k : i ≡ i - i % 4 = omega arith in subst (λ (x : ℕ). Sums (held_rows n m s first marks rows store) x W acc) k h

  pub sums_here : (i : ℕ) (acc acc' : List ℕ) → length acc ≡ W → (0 < i % 4 → SumsAt i acc) → SumsFor n m s first i marks rows store acc acc' → SumsAt i acc'
  sums_here i acc acc' e old new = subst (λ (x : ℕ). Sums (held_rows n m s first marks rows store) (i - i % 4) x acc') e (new (λ p. subst (λ (x : ℕ). Sums (held_rows n m s first marks rows store) (i - i % 4) x acc) (sym e) (old p)))

  pub sums_next : (i : ℕ) (acc : List ℕ) → SumsAt i acc → 0 < (i + 1) % 4 → SumsAt (i + 1) acc
  sums_next i acc h p = let k : i - i % 4 ≡ i + 1 - (i + 1) % 4 = omega arith in subst (λ (x : ℕ). Sums (held_rows n m s first marks rows store) x W acc) k h

-- the first e of words are words
pub taken_below : (e : ℕ) (xs : List ℕ) → ((i : ℕ) → get_or xs i 0 < 65536) → (i : ℕ) → get_or (take e xs) i 0 < 65536
taken_below e xs h i = go (dec_lt i e)
  where
    go : Dec (i < e) → get_or (take e xs) i 0 < 65536
    go (yes m) = rw (get_or-take e xs i 0 m) (h i)
    go (no m) = rw (get_or-eq_default (take e xs) 0 {n = i} (omega (arith, length-take e xs))) (omega arith)
