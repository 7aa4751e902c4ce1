-- Columns in ranges of blocks: a block read, a block put, a step after a step. Assumes nothing.
use mathlib.Core.Path.{◌≡◌, refl, sym, ap, ◌∙◌}
use mathlib.Core.List.{List, ◌++◌}
use Prim.Native.Nat.{ℕ, ◌+◌, ◌*◌, ◌/◌, ◌≤◌, ◌<◌}
use native.Mathlib.Omega.{arith}
use lib.ListN.{length, get_or, take, drop, set}
use lib.Seq.{get_or-set_same, get_or-set_other}
use Rattle.cauchy.specs.Code.{word_bytes}
use Rattle.cauchy.specs.inner.System.{field, solve}
use Rattle.cauchy.proofs.blocks.BlockLaws.{word_bytes_ext}
use Rattle.cauchy.proofs.blocks.Filled.{length-filled, read_filled, put-filled, filled_ext}
use Rattle.cauchy.specs.inner.Ranges.{columned, Steps, Solves}

module _ (s first count e : ℕ) (words : first + count ≤ s / 2) where
  length-columned : (cs : ℕ → List ℕ) (base : List ℕ) → length (columned s first count e cs base) ≡ length base
  length-columned cs base = length-filled s first count e (λ l w. get_or (cs w) l 0) base

  module _ (cs : ℕ → List ℕ) (base F : List ℕ) (k at width : ℕ) (here : F ≡ columned s first count e cs base)
      (hk : k < e) (inside : e * s ≤ length F) (ea : at ≡ k * s + 2 * first) (ew : width ≡ 2 * count) where
    room : e * s ≤ length base
    room = omega (arith, ap length here ∙ length-columned cs base)

    -- the words asked for of block k
    pub read_block : take width (drop at F) ≡ word_bytes (λ v. get_or (cs (first + v)) k 0) 0 count
    read_block =
        ap (λ (x : ℕ). take width (drop x F)) ea ∙ ap (λ (x : List ℕ). take width (drop (k * s + 2 * first) x)) here
        ∙ read_filled s first count words e (λ l w. get_or (cs w) l 0) base k width hk room ew

    -- other words there
    pub put-block : (h : ℕ → ℕ) (ys : List ℕ) → 0 < s → ((w : ℕ) → length (cs w) ≡ e) → ys ≡ word_bytes (λ v. h (first + v)) 0 count
        → take at F ++ (ys ++ drop width (drop at F)) ≡ columned s first count e (λ w. set (cs w) k (h w)) base
    put-block h ys hs size ey =
        ap (λ (x : ℕ). take x F ++ (ys ++ drop width (drop x F))) ea
        ∙ put-filled s first count words e e (λ l w. get_or (cs w) l 0) (λ l w. get_or (set (cs w) k (h w)) l 0) base F ys k width hs hk room ew
        (λ l n. refl) (λ l w n m. sym (get_or-set_other (cs w) k l (h w) 0 n)) here
        (ey ∙ word_bytes_ext (λ v. h (first + v)) (λ v. get_or (set (cs (first + v)) k (h (first + v))) k 0) count
        (λ v m. sym (get_or-set_same (cs (first + v)) k (h (first + v)) 0 (omega (arith, size (first + v))))))

  -- ---- steps

  module _ (R : List ℕ → List ℕ → Type 0) where
    pub steps_start : (old : List ℕ) → ((a : List ℕ) → length a ≡ e → R a a) → Steps R s first count e old old
    steps_start old r cs base whole here = record { made = cs; whole = whole; here = here; each = λ w. r (cs w) (whole.size w) }

    -- what R tells
    pub steps_so : (Q : List ℕ → List ℕ → Type 0) (old new : List ℕ) → ((a b : List ℕ) → length a ≡ e → R a b → Q a b)
        → Steps R s first count e old new → Steps Q s first count e old new
    steps_so Q old new q one cs base whole here =
        let p = one cs base whole here in
        record { made = p.made; whole = p.whole; here = p.here; each = λ w. q (cs w) (p.made w) (whole.size w) (p.each w) }

    -- a step S, and what comes of both
    pub steps_then : (S Q : List ℕ → List ℕ → Type 0) (old mid new : List ℕ) → ((a b c : List ℕ) → length a ≡ e → R a b → S b c → Q a c)
        → Steps R s first count e old mid → Steps S s first count e mid new → Steps Q s first count e old new
    steps_then S Q old mid new q one two cs base whole here =
        let p = one cs base whole here in
        let r = two p.made base p.whole p.here in
        record { made = r.made; whole = r.whole; here = r.here; each = λ w. q (cs w) (p.made w) (r.made w) (whole.size w) (p.each w) (r.each w) }

-- a step that makes of each column its unknowns
pub steps_solve : (s first count : ℕ) (xs ys old new : List ℕ)
    → Steps (λ a a'. a' ≡ solve field xs ys a) s first count (length xs) old new → Solves s first count xs ys old new
steps_solve s first count xs ys old new steps cs base whole here =
    let p = steps cs base whole here in
    p.here
    ∙ filled_ext s first count (length xs) (λ l w. get_or (p.made w) l 0) (λ l w. get_or (solve field xs ys (cs w)) l 0) base
    (λ l w _ _ _. ap (λ (x : List ℕ). get_or x l 0) (p.each w))
