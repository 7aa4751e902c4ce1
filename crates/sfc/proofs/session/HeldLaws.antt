-- What is held, in the words of the code: V, the shape that the code's theorems ask for, the length of what is decoded.
-- Assumes nothing.
use Prim.Native.Nat.{ℕ, zero, suc, ◌+◌, ◌*◌, ◌/◌, ◌%◌, ◌<◌, ◌≤◌}
use mathlib.Core.Path.{◌≡◌, ap, ◌∙◌}
use mathlib.Core.Bool.{Bool, true, false, cond}
use mathlib.Core.List.{List, ◌++◌}
use native.Mathlib.Omega.{arith}
use borrow.Author.Tests.{eq-eqb}
use lib.Dec.{eqb}
use lib.ListN.{length, get_or}
use lib.Seq.{length-take-le, take_at}
use Rattle.little.specs.Fields.{Bytes}
use Rattle.little.specs.Parts.{part, block}
use Rattle.little.proofs.Laws.{block_laws, part_laws}
use Rattle.cauchy.specs.Code.{joined, word_bytes, Held}
use Rattle.cauchy.specs.Decode.{rank, found_words, decode, decoded}
use Rattle.cauchy.specs.Theorems.{Shape}
use Rattle.cauchy.proofs.Laws.{code_laws}
use Rattle.sfc.specs.session.Lent.{lent_wrong}
use Rattle.sfc.specs.give.HandOut.{content_of}
use Rattle.sfc.specs.declared.format.header.Head.{Head}
use Rattle.sfc.proofs.format.LimitLaws.{wanted_holds}
use Rattle.sfc.proofs.writing.LengthLaws.{length-joined}
use Rattle.sfc.proofs.session.SessionLaws.{right_lent}

-- what 71 lets through has the code's shape
pub right_code : (size n m s : ℕ) (store marks : List ℕ) → lent_wrong size n m s store marks ≡ false → Bytes store → Shape n m s marks store
right_code size n m s store marks e b =
    let r = right_lent size n m s store marks e in
    record {
      even = r.shape.s_even;
      small = omega (arith, r.shape.n_most, r.shape.m_most);
      marks-size = r.marks_long;
      store-blocks = (r.store_long, b);
    }

-- a held data block is decoded to itself
pub decode-held : (n m s : ℕ) (marks store : List ℕ) (j : ℕ) → Held marks j → decode n m s marks store j ≡ block s store j
unfolding decode
decode-held n m s marks store j o = rw (eq-eqb (get_or marks j 0) 1 o)

-- ---- lengths

pub length-decode : (n m s : ℕ) (marks store : List ℕ) (j : ℕ) → s % 2 ≡ 0 → length store ≡ (n + m) * s → j < n → length (decode n m s marks store j) ≡ s
unfolding decode
length-decode n m s marks store j even long hj = go (eqb (get_or marks j 0) 1)
  where
    go : (b : Bool) → length (cond b (block s store j) (word_bytes (λ w. get_or (found_words n m s marks store w) (rank j marks) 0) 0 (s / 2))) ≡ s
    go true = block_laws.length-block s (n + m) store long j (omega arith)
    go false = code_laws.length-word_bytes (λ w. get_or (found_words n m s marks store w) (rank j marks) 0) 0 (s / 2) ∙ omega arith

pub length-decoded : (n m s : ℕ) (marks store : List ℕ) → s % 2 ≡ 0 → length store ≡ (n + m) * s → length (decoded n m s marks store) ≡ n * s
unfolding decoded
length-decoded n m s marks store even long =
    length-joined (λ j. decode n m s marks store j) 0 n s (λ j h. length-decode n m s marks store (0 + j) even long (omega arith))

-- ---- a block of what is decoded

pub block-joined : (s : ℕ) (f : ℕ → List ℕ) (c k j : ℕ) → ((i : ℕ) → c ≤ i → i < c + k → length (f i) ≡ s) → j < k → block s (joined f c k) j ≡ f (c + j)
unfolding joined
block-joined s f c zero j long q = absurd (omega arith)
block-joined s f c (suc k) zero long q =
    let z : 0 * s ≡ 0 = omega arith in
    let e : c + 0 ≡ c = omega arith in
    rw (z, e) (take_at (f c) (joined f (suc c) k) s (long c (omega arith) (omega arith)))
block-joined s f c (suc k) (suc j) long q =
    let e : suc j * s ≡ length (f c) + j * s = omega (arith, long c (omega arith) (omega arith)) in
    let n : suc c + j ≡ c + suc j = omega arith in
    ap (λ (at : ℕ). part (f c ++ joined f (suc c) k) at s) e ∙ part_laws.part-append_right (f c) (joined f (suc c) k) (j * s) s
    ∙ block-joined s f (suc c) k j (λ i a b. long i (omega arith) (omega arith)) (omega arith) ∙ ap f n

pub block-decoded : (n m s : ℕ) (marks store : List ℕ) (j : ℕ) → s % 2 ≡ 0 → length store ≡ (n + m) * s → j < n
    → block s (decoded n m s marks store) j ≡ decode n m s marks store j
unfolding decoded
block-decoded n m s marks store j even long q =
    let e : 0 + j ≡ j = omega arith in
    rw e at (block-joined s (λ i. decode n m s marks store i) 0 n j (λ i a b. length-decode n m s marks store i even long (omega arith)) q)

-- ---- the content

pub length_content : (h : Head) (store marks : List ℕ) → lent_wrong h.size h.n h.m h.s store marks ≡ false → length (content_of h store marks) ≡ h.size
unfolding content_of
length_content h store marks e =
    let r = right_lent h.size h.n h.m h.s store marks e in
    length-take-le h.size (decoded h.n h.m h.s marks store)
    (omega (
      arith,
      length-decoded h.n h.m h.s marks store r.shape.s_even r.store_long,
      (wanted_holds h.size h.s (omega (arith, r.shape.s_least))).1,
      ap (λ (x : ℕ). x * h.s) r.shape.wanted,
    ))
