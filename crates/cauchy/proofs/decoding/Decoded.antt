-- What is rebuilt is `decode`. Assumes nothing.
use mathlib.Core.Path.{◌≡◌, refl, sym, ◌∙◌, ap, ap₂}
use mathlib.Core.Bool.{Bool, true, false, cond, ◌&&◌}
use mathlib.Core.List.{List, [], ◌∷◌, ◌++◌, append_assoc}
use Prim.Native.Nat.{ℕ, zero, suc, ◌+◌, ◌-◌, ◌*◌, ◌/◌, ◌%◌, ◌≤◌, ◌<◌}
use native.Mathlib.Nat.{mul-le-mul_right, div-lt_iff_lt-mul, suc-mul}
use native.Mathlib.Decide.{dec_lt}
use native.Mathlib.Omega.{arith}
use lib.ListN.{length, get_or, take, drop, replicate, length-drop, take-append-drop}
use lib.Seq.{get_or-take, get_or-drop, length-take-le, take-take, drop-drop, ext_get_or}
use lib.Dec.{ltb, leb}
use borrow.Author.Tests.{ne_eqb, le-ltb, ltb-false}
use Rattle.cauchy.proofs.blocks.BlockLaws.{joined_ext, word_bytes_ext, word_back}
use Rattle.cauchy.proofs.decoding.Known.{length-held, held-take, held_one}
use Rattle.cauchy.proofs.blocks.Filled.{read_filled, length-filled, else_filled}
use Rattle.cauchy.proofs.ranges.RangeLaws.{word_part}
use Rattle.cauchy.specs.Laws.{Enough}
use Rattle.cauchy.proofs.columns.EndLaws.{enough, fine}
use Rattle.cauchy.proofs.shape.ShapeLaws.{right}
use Rattle.little.proofs.Laws.{test_laws}
use Rattle.std.specs.Prelude.{Ok}
use Rattle.cauchy.specs.Decode.{missing, missing_data, held, holding, found_words, rank, decode}
use Rattle.cauchy.specs.Code.{joined, word_bytes, word_at}
use Rattle.cauchy.specs.Calls.{wrong_shape, wrong_memory, in_range, filled, Rebuilt, rebuilt_scratch, rebuild_spec, decoded_scratch, rebuild_all_spec}
use Rattle.cauchy.specs.Theorems.{Decodes, DecodesWords}
use Rattle.little.specs.Parts.{block}

-- a byte after the first e blocks
byte_after : (s first count e q : ℕ) → 0 < s → e * s ≤ q → in_range s first count e q ≡ false
unfolding in_range
byte_after s first count e q hs h = go (dec_lt (q / s) e)
  where
    go : Dec (q / s < e) → (ltb (q / s) e && (leb (2 * first) (q % s) && ltb (q % s) (2 * (first + count)))) ≡ false
    go (yes y) = absurd (let k : q < e * s = (div-lt_iff_lt-mul hs).0 y in omega arith)
    go (no o) = rw (le-ltb (q / s) e (omega arith))

-- what the l-th missing index is
record MissingAt (c c' : ℕ) (ms : List ℕ) (l : ℕ) : Type 0 where
  from : c ≤ get_or (missing c ms) l 0
  to : get_or (missing c ms) l 0 < c + length ms
  is : get_or ms (get_or (missing c ms) l 0 - c) 0 ≡ 0
  place : length (missing c' (take (get_or (missing c ms) l 0 - c) ms)) ≡ l

missing_of : (c c' : ℕ) (ms : List ℕ) (l : ℕ) → l < length (missing c ms) → MissingAt c c' ms l
unfolding missing
missing_of c c' [] l h = absurd (omega arith)
missing_of c c' (zero ∷ ms) zero h = let e : c - c ≡ 0 = omega arith in record { from = omega arith; to = omega arith; is = rw e; place = rw e }
missing_of c c' (zero ∷ ms) (suc l) h =
    let p : MissingAt (suc c) (suc c') ms l = missing_of (suc c) (suc c') ms l (omega arith) in
    let e : get_or (missing (suc c) ms) l 0 - c ≡ suc (get_or (missing (suc c) ms) l 0 - suc c) = omega (arith, p.from) in
    record { from = omega (arith, p.from); to = omega (arith, p.to); is = rw e p.is; place = rw e (ap suc p.place) }
missing_of c c' (suc a ∷ ms) l h =
    let p : MissingAt (suc c) (suc c') ms l = missing_of (suc c) (suc c') ms l h in
    let e : get_or (missing (suc c) ms) l 0 - c ≡ suc (get_or (missing (suc c) ms) l 0 - suc c) = omega (arith, p.from) in
    record { from = omega (arith, p.from); to = omega (arith, p.to); is = rw e p.is; place = rw e p.place }

-- the l-th missing block, by the words found
lost-block : (n m s : ℕ) (marks store : List ℕ) (l : ℕ) → length marks ≡ n + m → l < length (missing_data n marks)
    → decode n m s marks store (get_or (missing_data n marks) l 0) ≡ word_bytes (λ w. get_or (found_words n m s marks store w) l 0) 0 (s / 2)
unfolding decode rank
lost-block n m s marks store l lm hl =
    let lt : length (held (take n marks)) ≡ n = length-held (take n marks) ∙ length-take-le n marks (omega arith) in
    let p : MissingAt 0 0 (held (take n marks)) l = missing_of 0 0 (held (take n marks)) l hl in
    let z : get_or (missing_data n marks) l 0 - 0 ≡ get_or (missing_data n marks) l 0 = omega arith in
    let hj : get_or (missing_data n marks) l 0 < n = omega (arith, p.to) in
    let o : get_or marks (get_or (missing_data n marks) l 0) 0 ≡ 1 → ⊥ = λ q. absent (get_or (missing_data n marks) l 0) hj (rw z at p.is) q in
    let t : held (take (get_or (missing_data n marks) l 0) marks) ≡ take (get_or (missing_data n marks) l 0) (held (take n marks)) =
    ap held (sym (take-take (get_or (missing_data n marks) l 0) n marks (omega arith))) ∙ held-take (get_or (missing_data n marks) l 0) (take n marks) in
    ap (λ (b : Bool). cond b (block s store (get_or (missing_data n marks) l 0)) (word_bytes (λ w. get_or (found_words n m s marks store w) (length (missing 0 (held (take (get_or (missing_data n marks) l 0) marks)))) 0) 0 (s / 2)))
    (ne_eqb (get_or marks (get_or (missing_data n marks) l 0) 0) 1 o)
    ∙ ap (λ (i : ℕ). word_bytes (λ w. get_or (found_words n m s marks store w) i 0) 0 (s / 2)) (ap (λ (x : List ℕ). length (missing 0 x)) t ∙ (rw z at p.place))
  where
    absent : (j : ℕ) → j < n → get_or (held (take n marks)) j 0 ≡ 0 → get_or marks j 0 ≡ 1 → ⊥
    absent j hj e q = let o : get_or (held (take n marks)) j 0 ≡ 1 = held_one (take n marks) j (get_or-take n marks j 0 hj ∙ q) in omega arith

fits_in : (n m s : ℕ) (marks : List ℕ) → length marks ≡ n + m → n ≤ holding marks → length (missing_data n marks) * s ≤ m * s
fits_in n m s marks lm h =
    let g : Enough n m marks = enough n m marks lm h in
    mul-le-mul_right {m = length (missing_data n marks)} {n = m} s (omega (arith, g.few, g.same))

-- each block is made whole, whatever lay there
pub all-rebuilt : (n m s : ℕ) (marks store scratch : List ℕ) → 2 ≤ s → s % 2 ≡ 0 → length marks ≡ n + m → length scratch ≡ m * s → n ≤ holding marks
    → (l : ℕ) → l < length (missing_data n marks) → block s (rebuilt_scratch n m s marks store 0 (s / 2) scratch) l ≡ decode n m s marks store (get_or (missing_data n marks) l 0)
unfolding rebuilt_scratch
all-rebuilt n m s marks store scratch hs ev lm lsc h l hl =
    let w : s ≡ 2 * (s / 2) = omega arith in
    let a : l * s + 2 * 0 ≡ l * s = omega arith in
    (rw a at (read_filled s 0 (s / 2) (omega arith) (length (missing_data n marks)) (λ l w. get_or (found_words n m s marks store w) l 0) scratch l s hl (omega (arith, fits_in n m s marks lm h)) w))
    ∙ word_bytes_ext _ (λ w. get_or (found_words n m s marks store w) l 0) (s / 2) (λ v _. ap (λ (x : ℕ). get_or (found_words n m s marks store x) l 0) (omega arith))
    ∙ sym (lost-block n m s marks store l lm hl)

-- a store is its first blocks, and the rest of it
pub in_blocks : (s : ℕ) (store : List ℕ) (c n : ℕ) → drop (c * s) store ≡ joined (λ l. block s store l) c n ++ drop ((c + n) * s) store
unfolding joined
in_blocks s store c zero = let e : c + 0 ≡ c = omega arith in rw e
in_blocks s store c (suc n) =
    let e : suc c + n ≡ c + suc n = omega arith in
    let k : c * s + s ≡ suc c * s = omega (arith, suc-mul c s) in
    sym (take-append-drop s (drop (c * s) store))
    ∙ ap (λ (x : List ℕ). block s store c ++ x)
    (drop-drop s (c * s) store ∙ ap (λ (x : ℕ). drop x store) k ∙ in_blocks s store (suc c) n ∙ ap (λ (x : ℕ). joined (λ l. block s store l) (suc c) n ++ drop (x * s) store) e)
    ∙ sym (append_assoc (block s store c) (joined (λ l. block s store l) (suc c) n) (drop ((c + suc n) * s) store))

-- after the blocks that are filled nothing changes
rest-same : (s e : ℕ) (g : ℕ → ℕ → ℕ) (base : List ℕ) → 0 < s → drop (e * s) (filled s 0 (s / 2) e g base) ≡ drop (e * s) base
rest-same s e g base hs =
    let lf : length (filled s 0 (s / 2) e g base) ≡ length base = length-filled s 0 (s / 2) e g base in
    ext_get_or 0 (drop (e * s) (filled s 0 (s / 2) e g base)) (drop (e * s) base) (length-drop (e * s) (filled s 0 (s / 2) e g base) ∙ ap (λ (x : ℕ). x - e * s) lf ∙ sym (length-drop (e * s) base))
    (λ i m.
    get_or-drop (e * s) (filled s 0 (s / 2) e g base) i 0
    ∙ else_filled s 0 (s / 2) e g base (e * s + i) (byte_after s 0 (s / 2) e (e * s + i) hs (omega arith)) ∙ sym (get_or-drop (e * s) base i 0))

pub all-columns : (n m s : ℕ) (marks store scratch : List ℕ) → 2 ≤ s → s % 2 ≡ 0 → length marks ≡ n + m → length scratch ≡ m * s → n ≤ holding marks
    → rebuilt_scratch n m s marks store 0 (s / 2) scratch ≡ decoded_scratch n m s marks store scratch
unfolding decoded_scratch rebuilt_scratch
all-columns n m s marks store scratch hs ev lm lsc h =
    let e : ℕ = length (missing_data n marks) in
    let z : 0 * s ≡ 0 = omega arith in
    let k : 0 + length (missing_data n marks) ≡ length (missing_data n marks) = omega arith in
    (rw (z, k) at (in_blocks s (rebuilt_scratch n m s marks store 0 (s / 2) scratch) 0 (length (missing_data n marks))))
    ∙ ap₂ (λ (x y : List ℕ). x ++ y)
    (joined_ext (λ l. block s (rebuilt_scratch n m s marks store 0 (s / 2) scratch) l) (λ l. decode n m s marks store (get_or (missing_data n marks) l 0)) (length (missing_data n marks))
    (λ l hl. all-rebuilt n m s marks store scratch hs ev lm lsc h l hl))
    (rest-same s (length (missing_data n marks)) (λ l w. get_or (found_words n m s marks store w) l 0) scratch (omega arith))

pub decodes : Decodes
decodes n m s marks store scratch hs ev lm lsc h l hl =
    ap (λ (x : List ℕ). block s x l) (sym (all-columns n m s marks store scratch hs ev lm lsc h)) ∙ all-rebuilt n m s marks store scratch hs ev lm lsc h l hl

-- so the call for all columns is the call for every column, by name
either : (A : Type 0) (t u : Bool) (a b c d : A) → (t ≡ false → u ≡ false → c ≡ d) → cond t a (cond u b c) ≡ cond t a (cond u b d)
either A true u a b c d f = refl
either A false true a b c d f = refl
either A false false a b c d f = f refl refl

pub all_is : (n m s : ℕ) (marks store scratch numbers : List ℕ) → rebuild_spec n m s marks store scratch numbers 0 (s / 2) ≡ rebuild_all_spec n m s marks store scratch numbers
unfolding rebuild_spec rebuild_all_spec
all_is n m s marks store scratch numbers =
    either Rebuilt _ _ _ _ _ _
    (λ p q.
    let o = test_laws.or-false (wrong_shape n m s) (wrong_memory n m s (length marks) (length store) (length scratch) (length numbers) 0 (s / 2)) p in
    let f = fine n m s (length marks) (length store) (length scratch) (length numbers) 0 (s / 2) o.1 in
    let g = right n m s o.0 in
    λ i. record {
      scratch = all-columns n m s marks store scratch g.s_least g.even f.marks_long f.scratch_long (ltb-false (holding marks) n q) i;
      numbers = replicate 1024 0;
      answer = Ok tt;
    })

pub decodes_words : DecodesWords
unfolding rebuilt_scratch
decodes_words n m s marks store scratch first count hs ev lm lsc h room l w hl h₁ h₂ =
    let e : ℕ = length (missing_data n marks) in
    let F : List ℕ = filled s first count (length (missing_data n marks)) (λ l w. get_or (found_words n m s marks store w) l 0) scratch in
    let k : first + (w - first) ≡ w = omega arith in
    sym (word_part (filled s first count (length (missing_data n marks)) (λ l w. get_or (found_words n m s marks store w) l 0) scratch) l s first count (2 * count) w refl h₁ h₂)
    ∙ ap (λ (x : List ℕ). word_at x (2 * (w - first)))
    (read_filled s first count room (length (missing_data n marks)) (λ l w. get_or (found_words n m s marks store w) l 0) scratch l (2 * count) hl (omega (arith, fits_in n m s marks lm h)) refl)
    ∙ word_back (λ v. get_or (found_words n m s marks store (first + v)) l 0) count (w - first) (omega arith)
    ∙ ap (λ (x : ℕ). get_or (found_words n m s marks store x) l 0 % 65536) k
    ∙ sym (ap (λ (x : List ℕ). word_at x (2 * w)) (lost-block n m s marks store l lm hl) ∙ word_back (λ w. get_or (found_words n m s marks store w) l 0) (s / 2) w (omega arith))
