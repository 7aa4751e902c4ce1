-- The words of a block come into four sums, one after the other. Assumes nothing.
use mathlib.Core.Path.{◌≡◌, sym, ap, ap₂, ◌∙◌}
use mathlib.Core.List.{List}
use Prim.Native.Nat.{ℕ, ◌+◌, ◌*◌, ◌≤◌, ◌<◌}
use native.Mathlib.Decide.{dec_lt}
use native.Mathlib.Omega.{arith}
use lib.ListN.{length, get_or, set, length-set}
use lib.Seq.{get_or-set_same, get_or-set_other}
use lib.Bits.{bit_xor}
use Rattle.gf16.specs.Field.{Elem, mul}
use Rattle.cauchy.specs.Code.{word_at}
use Rattle.cauchy.proofs.blocks.WordBytes.{word_is}
use Rattle.cauchy.specs.inner.Packed.{products, Table, Tables, looked, AddedTo, Added}
use Rattle.cauchy.proofs.tables.PackLaws.{pack-same, pack-xor}
use Rattle.cauchy.proofs.tables.TableLaws.{mul_bytes}
use Rattle.gf16.proofs.Laws.{laws}

pub step_old : (w v x : ℕ) (acc₀ acc : List ℕ) → w + 1 ≤ v → get_or acc v 0 ≡ get_or acc₀ v 0 → get_or (set acc w x) v 0 ≡ get_or acc₀ v 0
step_old w v x acc₀ acc h e = get_or-set_other acc w v x 0 (λ q. omega (arith, q)) ∙ e

pub step_new : (w v x : ℕ) (f : ℕ → ℕ) (acc : List ℕ) → w < length acc → v < w + 1 → x ≡ f w → ((u : ℕ) → u < w → get_or acc u 0 ≡ f u) → get_or (set acc w x) v 0 ≡ f v
step_new w v x f acc m h e old = go (dec_lt v w)
  where
    go : Dec (v < w) → get_or (set acc w x) v 0 ≡ f v
    go (yes q) = get_or-set_other acc w v x 0 (λ r. omega (arith, r)) ∙ old v q
    go (no q) = let s : v ≡ w = omega arith in rw s (get_or-set_same acc w x 0 m ∙ e)

-- the two tables have the products of a word
pub looked-products : (a b c d w : ℕ) (low high src : List ℕ) → Elem a → Elem b → Elem c → Elem d → Table a b c d 256 low
    → Table (mul a 256) (mul b 256) (mul c 256) (mul d 256) 256 high → get_or src (2 * w) 0 < 256 → get_or src (2 * w + 1) 0 < 256
    → looked low high src w ≡ products a b c d (word_at src (2 * w))
looked-products a b c d w low high src ha hb hc hd tl th hl hh =
    ap₂ bit_xor (tl l hl) (th h hh)
    ∙ pack-xor (mul a l) (mul b l) (mul c l) (mul d l) (mul (mul a 256) h) (mul (mul b 256) h) (mul (mul c 256) h) (mul (mul d 256) h)
    (laws.mul_below a l ha) (laws.mul_below b l hb) (laws.mul_below c l hc) (up a ha) (up b hb) (up c hc)
    ∙ pack-same (sym (mul_bytes a l h ha hl hh)) (sym (mul_bytes b l h hb hl hh)) (sym (mul_bytes c l h hc hl hh)) (sym (mul_bytes d l h hd hl hh))
    ∙ ap (products a b c d) (sym (word_is src (2 * w)))
  where
    l : ℕ
    l = get_or src (2 * w) 0

    h : ℕ
    h = get_or src (2 * w + 1) 0

    up : (x : ℕ) → Elem x → Elem (mul (mul x 256) h)
    up x e = laws.mul_below (mul x 256) h (laws.mul_below x 256 e)

-- ---- the sums, word by word

pub added_more : (low high src acc₀ acc : List ℕ) (w x : ℕ) → w < length acc → x ≡ bit_xor (get_or acc w 0) (looked low high src w)
    → AddedTo low high src w acc₀ acc → AddedTo low high src (w + 1) acc₀ (set acc w x)
added_more low high src acc₀ acc w x h e r = record {
  size = length-set acc w x ∙ r.size;
  made = λ v m. step_new w v x (λ v. bit_xor (get_or acc₀ v 0) (looked low high src v)) acc h m (e ∙ ap (λ (y : ℕ). bit_xor y (looked low high src w)) (r.left w (omega arith))) r.made;
  left = λ v m. step_old w v x acc₀ acc m (r.left v (omega arith));
}

pub added_all : (a b c d n : ℕ) (low high src acc acc' : List ℕ) → Elem a → Elem b → Elem c → Elem d → Tables a b c d low high → ((p : ℕ) → get_or src p 0 < 256)
    → length acc ≤ n → AddedTo low high src n acc acc' → Added a b c d src acc acc'
added_all a b c d n low high src acc acc' ha hb hc hd t small h r =
    record {
      size = r.size;
      made = λ w m. r.made w (omega arith) ∙ ap (bit_xor (get_or acc w 0)) (looked-products a b c d w low high src ha hb hc hd t.0 t.1 (small (2 * w)) (small (2 * w + 1)));
    }
