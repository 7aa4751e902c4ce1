-- Ranges of words: none filled, one more filled, and where they lie. Assumes nothing.
use mathlib.Core.Path.{◌≡◌, sym, ◌∙◌, ap}
use mathlib.Core.List.{List}
use Prim.Native.Nat.{ℕ, ◌+◌, ◌-◌, ◌*◌, ◌/◌, ◌≤◌, ◌<◌}
use native.Mathlib.Nat.{mul-le-mul_right}
use native.Mathlib.Omega.{arith}
use native.Mathlib.Decide.{dec_lt}
use lib.ListN.{take, drop}
use lib.Dec.{ltb}
use borrow.Author.Tests.{lt-ltb, le-ltb}
use Rattle.little.proofs.Laws.{byte_laws}
use Rattle.cauchy.specs.Code.{word_at}
use Rattle.cauchy.specs.Calls.{filled, in_range}
use Rattle.cauchy.specs.declared.ranges.Range.{Range}
use Rattle.cauchy.specs.inner.Promises.{Room}
use Rattle.cauchy.proofs.blocks.Filled.{same-filled}

-- ---- nothing filled, and one block more

pub none_filled : (s first count : ℕ) (g : ℕ → ℕ → ℕ) (base : List ℕ) → base ≡ filled s first count 0 g base
unfolding in_range
none_filled s first count g base = sym (same-filled s first count 0 g base (λ q. rw (le-ltb (q / s) 0 (omega arith))))

pub ltb_other : (l t : ℕ) → (l ≡ t → ⊥) → ltb l t ≡ ltb l (t + 1)
ltb_other l t n = go (dec_lt l t)
  where
    go : Dec (l < t) → ltb l t ≡ ltb l (t + 1)
    go (yes h) = lt-ltb l t h ∙ sym (lt-ltb l (t + 1) (omega arith))
    go (no h) = le-ltb l t (omega arith) ∙ sym (le-ltb l (t + 1) (omega arith))

-- ---- places

pub range_in : (s first count e p q t : ℕ) → Room s first count e p q → t < e → t * s + 2 * first + 2 * count ≤ e * s
range_in s first count e p q t r h = omega (arith, mul-le-mul_right {m = t + 1} {n = e} s (omega arith), r.words)

-- the room of the range's own words in e blocks
pub room_of : (g : Range) (e part size : ℕ) → e ≤ 32 → part ≡ 2 * g.count → e * g.s ≤ size → Room g.s g.first g.count e part size
room_of g e part size few whole inside = record { least = g.s_least; most = g.s_most; even = g.even; words = g.words; few = few; inside = inside; whole = whole }

-- a word of a part that begins at word `first`
pub word_part : (store : List ℕ) (b s first count width w : ℕ) → width ≡ 2 * count → first ≤ w → w < first + count
    → word_at (take width (drop (b * s + 2 * first) store)) (2 * (w - first)) ≡ word_at store (b * s + 2 * w)
word_part store b s first count width w ew h k =
    let e : b * s + 2 * first + 2 * (w - first) ≡ b * s + 2 * w = omega arith in
    byte_laws.le-part 2 store (b * s + 2 * first) width (2 * (w - first)) (omega arith) ∙ ap (λ (q : ℕ). word_at store q) e
