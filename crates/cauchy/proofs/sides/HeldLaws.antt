-- Four right sides: a held block comes in, another does not. Assumes nothing.
use mathlib.Core.Path.{◌≡◌, refl, sym, ap, ◌∙◌}
use mathlib.Core.Bool.{Bool, true, false, cond}
use mathlib.Core.List.{List}
use Prim.Native.Nat.{ℕ, ◌+◌, ◌*◌, ◌≤◌, ◌<◌}
use native.Mathlib.Omega.{arith}
use native.Mathlib.Numerals.{add-one}
use lib.ListN.{length, get_or, take, drop, replicate, get_or-replicate, length-replicate}
use lib.Bits.{bit_xor, xor_zero_r}
use lib.Dec.{eqb}
use borrow.Author.Tests.{eq-eqb, ne_eqb}
use Rattle.gf16.specs.Field.{mul}
use Rattle.cauchy.specs.Code.{word_at, share, field_sum}
use Rattle.cauchy.specs.Decode.{held_sum}
use Rattle.cauchy.proofs.blocks.CodeLaws.{sum_more}
use Rattle.cauchy.proofs.tables.PackLaws.{pack-same}
use Rattle.cauchy.specs.inner.Packed.{Added, Sums, weight_of, held_rows}
use Rattle.cauchy.proofs.tables.TableLaws.{zero-pack}
use Rattle.cauchy.proofs.encode.SumLaws.{sum_lt, weight_lt, sums-turn}
use Rattle.gf16.proofs.Laws.{laws}
use Rattle.little.proofs.Laws.{byte_laws}

-- what data block j brings, if it is held
abbrev pub held_share : ℕ → ℕ → List ℕ → List ℕ → ℕ → ℕ → ℕ → ℕ
held_share m s marks store k w j = cond (eqb (get_or marks j 0) 1) (share m s store k w j) 0

-- the first j data blocks
abbrev pub shares_before : ℕ → ℕ → ℕ → List ℕ → List ℕ → List ℕ → ℕ → ℕ → ℕ → ℕ
shares_before m s first marks rows store j i w = field_sum (held_share m s marks store (get_or rows i 0) (first + w)) 0 j

held-share-lt : (m s : ℕ) (marks store : List ℕ) (k w j : ℕ) → k < 65536 → m + j < 65536 → held_share m s marks store k w j < 65536
held-share-lt m s marks store k w j hk hm = go (eqb (get_or marks j 0) 1)
  where
    go : (t : Bool) → cond t (share m s store k w j) 0 < 65536
    go true = laws.mul_below (weight_of k m j) (word_at store (j * s + 2 * w)) (weight_lt k m j hk hm)
    go false = omega arith

shares_below : (m s : ℕ) (marks store : List ℕ) (k w j : ℕ) → k < 65536 → m + j ≤ 65536 → field_sum (held_share m s marks store k w) 0 j < 65536
shares_below m s marks store k w j hk hm =
    sum_lt (held_share m s marks store k w) 0 j (λ q h. let e : 0 + q ≡ q = omega arith in rw e (held-share-lt m s marks store k w q hk (omega arith)))

pub held_below : (n m s : ℕ) (marks store : List ℕ) (k w : ℕ) → k < 65536 → m + n ≤ 65536 → held_sum n m s marks store k w < 65536
unfolding held_sum
held_below n m s marks store k w hk hm = shares_below m s marks store k w n hk hm

one_more : (m s first : ℕ) (marks rows store : List ℕ) (j i w : ℕ)
    → shares_before m s first marks rows store (j + 1) i w ≡ bit_xor (shares_before m s first marks rows store j i w) (held_share m s marks store (get_or rows i 0) (first + w) j)
one_more m s first marks rows store j i w =
    let e : 0 + j ≡ j = omega arith in
    ap (λ (x : ℕ). shares_before m s first marks rows store x i w) (add-one j)
    ∙ sum_more (held_share m s marks store (get_or rows i 0) (first + w)) 0 j
    ∙ ap (λ (x : ℕ). bit_xor (shares_before m s first marks rows store j i w) (held_share m s marks store (get_or rows i 0) (first + w) x)) e

pub held_start : (m s first k n : ℕ) (marks rows store acc : List ℕ) → acc ≡ replicate n 0 → Sums (shares_before m s first marks rows store 0) k (length acc) acc
unfolding field_sum
held_start m s first k n marks rows store acc e =
    let l = ap length e ∙ length-replicate n 0 in
    record {
      size = refl;
      made = λ w h. ap (λ (l : List ℕ). get_or l w 0) e ∙ get_or-replicate n w 0 0 (omega arith) ∙ sym zero-pack;
    }

pub held-turn : (m s first k W j at width : ℕ) (marks rows store acc acc' : List ℕ) → ((i : ℕ) → get_or rows i 0 < 65536) → m + j < 65536 → at ≡ j * s + 2 * first → width ≡ 2 * W → get_or marks j 0 ≡ 1
    → Sums (shares_before m s first marks rows store j) k W acc
    → Added (weight_of (get_or rows k 0) m j) (weight_of (get_or rows (k + 1) 0) m j) (weight_of (get_or rows (k + 2) 0) m j) (weight_of (get_or rows (k + 3) 0) m j) (take width (drop at store)) acc acc'
    → Sums (shares_before m s first marks rows store (j + 1)) k W acc'
held-turn m s first k W j at width marks rows store acc acc' small hm ea ew held old new =
    sums-turn (shares_before m s first marks rows store j) (shares_before m s first marks rows store (j + 1)) (λ i. weight_of (get_or rows i 0) m j) k W (take width (drop at store)) acc acc'
    (λ i h. weight_lt (get_or rows i 0) m j (small i) hm) (λ i w h. shares_below m s marks store (get_or rows i 0) (first + w) j (small i) (omega arith))
    (λ i w h.
    let p : at + 2 * w ≡ j * s + 2 * (first + w) = omega arith in
    ap (λ (x : ℕ). bit_xor (shares_before m s first marks rows store j i w) (mul (weight_of (get_or rows i 0) m j) x)) (byte_laws.le-part 2 store at width (2 * w) (omega arith) ∙ ap (word_at store) p)
    ∙ ap (λ (t : Bool). bit_xor (shares_before m s first marks rows store j i w) (cond t (share m s store (get_or rows i 0) (first + w) j) 0)) (sym (eq-eqb (get_or marks j 0) 1 held))
    ∙ sym (one_more m s first marks rows store j i w))
    old new

pub held-other : (m s first k W j : ℕ) (marks rows store acc : List ℕ) → (get_or marks j 0 ≡ 1 → ⊥) → Sums (shares_before m s first marks rows store j) k W acc → Sums (shares_before m s first marks rows store (j + 1)) k W acc
held-other m s first k W j marks rows store acc off old =
    record {
      size = old.size;
      made = λ w h. old.made w h ∙ pack-same (sym (same k w)) (sym (same (k + 1) w)) (sym (same (k + 2) w)) (sym (same (k + 3) w));
    }
  where
    same : (i w : ℕ) → shares_before m s first marks rows store (j + 1) i w ≡ shares_before m s first marks rows store j i w
    same i w =
        one_more m s first marks rows store j i w
        ∙ ap (λ (t : Bool). bit_xor (shares_before m s first marks rows store j i w) (cond t (share m s store (get_or rows i 0) (first + w) j) 0)) (ne_eqb (get_or marks j 0) 1 off)
        ∙ xor_zero_r (shares_before m s first marks rows store j i w)

pub held-end : (n m s first k W U j : ℕ) (marks rows store acc : List ℕ) → j ≡ n → W ≡ U → Sums (shares_before m s first marks rows store j) k W acc → Sums (held_rows n m s first marks rows store) k U acc
unfolding held_sum
held-end n m s first k W U j marks rows store acc e f h = rw (e, f) at h
