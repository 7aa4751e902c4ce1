-- A text and a number that stand at a place: from what lies there, and with other bytes after it. Assumes nothing.
use Prim.Native.Nat.{ℕ, suc, ◌+◌, ◌^◌, ◌<◌, ◌≤◌}
use mathlib.Core.Path.{◌≡◌, refl, sym, ap, ap₂, ◌∙◌}
use mathlib.Core.Bool.{Bool, true, ◌&&◌}
use mathlib.Core.List.{List, [], ◌∷◌, ◌++◌}
use native.Mathlib.Nat.{mod-eq_of_lt}
use native.Mathlib.Omega.{arith}
use borrow.Author.Tests.{eq-eqb}
use lib.Dec.{eqb}
use lib.ListN.{length, get_or, drop, get_or-append}
use lib.Seq.{take_at}
use Rattle.little.specs.Fields.{le, bytes_of}
use Rattle.sfc.specs.format.Bytes.{stands_at}
use Rattle.little.proofs.Laws.{part_laws, little_laws, byte_laws}

pub stands_there : (c : List ℕ) (k : ℕ) (ys b : List ℕ) → drop k c ≡ ys ++ b → stands_at c k ys ≡ true
unfolding stands_at
stands_there c k [] b e = refl
stands_there c k (y ∷ ys) b e =
    let o : k + 1 ≡ suc k = omega arith in
    let z : k + 0 ≡ k = omega arith in
    ap₂ ◌&&◌ (eq-eqb (get_or c k 0) y (rw z at (part_laws.byte_after c (y ∷ (ys ++ b)) k 0 y e refl)))
    (stands_there c (suc k) ys b (rw o at (part_laws.next c (y ∷ []) (ys ++ b) k 1 e refl)))

pub number_at : (r b : List ℕ) (n width v : ℕ) → drop n r ≡ bytes_of width v ++ b → v < 256 ^ width → le r n width ≡ v
number_at r b n width v e h =
    let z : n + 0 ≡ n = omega arith in
    ap (λ (k : ℕ). le r k width) (sym z) ∙ sym (byte_laws.le-drop width r n 0) ∙ ap (λ (l : List ℕ). le l 0 width) e
    ∙ sym (byte_laws.le-part width (bytes_of width v ++ b) 0 width 0 (omega arith))
    ∙ ap (λ (l : List ℕ). le l 0 width) (take_at (bytes_of width v) b width ((little_laws width).long v))
    ∙ (little_laws width).value_back v ∙ mod-eq_of_lt h

-- ---- what lies inside c, with any bytes after c

module _ (c rest : List ℕ) where
  pub le-front : (at width : ℕ) → at + width ≤ length c → le (c ++ rest) at width ≡ le c at width
  le-front at width i = byte_laws.le_same width (c ++ rest) c at at (λ k u. get_or-append c rest 0 (at + k) (omega arith))

  pub stands_front : (at : ℕ) (ys : List ℕ) → at + length ys ≤ length c → stands_at (c ++ rest) at ys ≡ stands_at c at ys
  unfolding stands_at
  stands_front at [] i = refl
  stands_front at (y ∷ ys) i =
      ap₂ (λ (b : ℕ) (r : Bool). eqb b y && r) (get_or-append c rest 0 at (omega arith)) (stands_front (suc at) ys (omega arith))
