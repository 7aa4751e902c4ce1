-- A loop that writes the words of a slice from the front: done words, then the bytes that were there. Assumes nothing.
use mathlib.Core.Path.{◌≡◌, refl, sym, ◌∙◌, ap}
use mathlib.Core.List.{List, [], ◌∷◌, ◌++◌, append-nil}
use Prim.Native.Nat.{ℕ, zero, suc, ◌+◌, ◌*◌, ◌/◌, ◌%◌, ◌≤◌, ◌<◌}
use native.Mathlib.Omega.{arith}
use lib.ListN.{length, get_or, drop, set, drop_of_length-le, length-append}
use lib.Seq.{drop-cons, append_snoc, set_at, get_or-append-add, get_or-drop}
use Rattle.little.specs.Fields.{bytes_of}
use Rattle.cauchy.specs.Code.{joined, word_bytes}
use Rattle.cauchy.proofs.blocks.BlockLaws.{length-word_bytes}

-- w words of f, then what was there
abbrev pub mixed : (ℕ → ℕ) → ℕ → List ℕ → List ℕ
mixed f w l = word_bytes f 0 w ++ drop (2 * w) l

word_bytes_snoc : (f : ℕ → ℕ) (c n : ℕ) (r : List ℕ) → word_bytes f c (suc n) ++ r ≡ word_bytes f c n ++ (f (c + n) % 256 ∷ f (c + n) / 256 % 256 ∷ r)
unfolding joined bytes_of
word_bytes_snoc f c zero r = let e : c + 0 ≡ c = omega arith in rw e
word_bytes_snoc f c (suc n) r = let e : suc c + n ≡ c + suc n = omega arith in ap (λ (l : List ℕ). f c % 256 ∷ f c / 256 % 256 ∷ l) (rw e at (word_bytes_snoc f (suc c) n r))

pub mixed_start : (f : ℕ → ℕ) (l : List ℕ) → l ≡ mixed f 0 l
unfolding joined bytes_of
mixed_start f l = refl

-- what is not yet written is as it was
pub mixed_read : (f : ℕ → ℕ) (w : ℕ) (l d : List ℕ) (h : ℕ) → d ≡ mixed f w l → h < 2 → 2 * w + 1 < length l → get_or d (2 * w + h) 0 ≡ get_or l (2 * w + h) 0
mixed_read f w l d h e hh m =
    ap (λ (x : List ℕ). get_or x (2 * w + h) 0) e
    ∙ ap (λ (k : ℕ). get_or (word_bytes f 0 w ++ drop (2 * w) l) (k + h) 0) (sym (length-word_bytes f 0 w))
    ∙ get_or-append-add (word_bytes f 0 w) (drop (2 * w) l) h 0
    ∙ get_or-drop (2 * w) l h 0

pub mixed-turn : (f : ℕ → ℕ) (w : ℕ) (l d : List ℕ) (v : ℕ) → d ≡ mixed f w l → 2 * w + 1 < length l → v < 65536 → v ≡ f w
    → set (set d (2 * w) (v % 256)) (2 * w + 1) (v / 256) ≡ mixed f (w + 1) l
mixed-turn f w l d v e m hv ev =
    let s₁ : drop (2 * w) l ≡ get_or l (2 * w) 0 ∷ drop (suc (2 * w)) l = drop-cons l (2 * w) 0 (omega arith) in
    let s₂ : drop (suc (2 * w)) l ≡ get_or l (suc (2 * w)) 0 ∷ drop (suc (suc (2 * w))) l = drop-cons l (suc (2 * w)) 0 (omega arith) in
    let n : 2 * (w + 1) ≡ suc (suc (2 * w)) = omega arith in
    let k : w + 1 ≡ suc w = omega arith in
    let z : 0 + w ≡ w = omega arith in
    let small : v / 256 ≡ v / 256 % 256 = omega arith in
    ap (λ (x : List ℕ). set (set x (2 * w) (v % 256)) (2 * w + 1) (v / 256)) (e ∙ ap (λ (x : List ℕ). word_bytes f 0 w ++ x) (s₁ ∙ ap (◌∷◌ (get_or l (2 * w) 0)) s₂))
    ∙ ap (λ (x : List ℕ). set x (2 * w + 1) (v / 256)) (set_at (word_bytes f 0 w) (get_or l (2 * w) 0) (get_or l (suc (2 * w)) 0 ∷ drop (suc (suc (2 * w))) l) (v % 256) (2 * w) (length-word_bytes f 0 w))
    ∙ second (word_bytes f 0 w) (v % 256) (get_or l (suc (2 * w)) 0) (drop (suc (suc (2 * w))) l) (v / 256) (2 * w) (length-word_bytes f 0 w)
    ∙ ap (λ (x : ℕ). word_bytes f 0 w ++ (v % 256 ∷ x ∷ drop (suc (suc (2 * w))) l)) small
    ∙ rw (ev, n, k) (sym (rw z at (word_bytes_snoc f 0 w (drop (suc (suc (2 * w))) l))))
  where
    second : (p : List ℕ) (a b : ℕ) (r : List ℕ) (c k : ℕ) → length p ≡ k → set (p ++ (a ∷ b ∷ r)) (k + 1) c ≡ p ++ (a ∷ c ∷ r)
    second p a b r c k h =
        let g : length (p ++ (a ∷ [])) ≡ k + 1 = length-append p (a ∷ []) ∙ omega arith in
        ap (λ (x : List ℕ). set x (k + 1) c) (sym (append_snoc p a (b ∷ r))) ∙ set_at (p ++ (a ∷ [])) b r c (k + 1) g ∙ append_snoc p a (c ∷ r)

pub mixed-end : (f : ℕ → ℕ) (w : ℕ) (l d : List ℕ) → d ≡ mixed f w l → length l ≤ 2 * w → d ≡ word_bytes f 0 w
mixed-end f w l d e h = e ∙ ap (λ (x : List ℕ). word_bytes f 0 w ++ x) (drop_of_length-le l {i = 2 * w} h) ∙ append-nil (word_bytes f 0 w)
