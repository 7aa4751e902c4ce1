-- Lists that are copied, cut, stored into and filled piece after piece, as the calls of the floors above leave them. Assumes nothing.
use Prim.Native.Nat.{ℕ, zero, suc, ◌+◌, ◌-◌, ◌≤◌, ◌<◌}
use mathlib.Core.Path.{◌≡◌, sym, ap, ap₂, ◌∙◌}
use mathlib.Core.List.{List, ◌∷◌, ◌++◌, append_assoc, append-nil}
use native.Mathlib.Nat.{min-le_left}
use native.Mathlib.Omega.{arith}
use lib.ListN.{length, get_or, take, drop, set, length-set, length-append, drop_of_length-le, length-take}
use lib.Seq.{drop-cons, get_or-drop, get_or-set_same, drop-set-lt, take_all, take_at, drop_at, drop-drop, length-take-le, take-length, take-append_seam, take-append-add, drop-append_seam, drop-append-add}
use Rattle.little.specs.Parts.{part, put}
use Rattle.little.specs.Runs.{zeros}
use Rattle.little.proofs.PartLaws.{length_part, lent}

-- a run copied over one of its length
pub copied : (src dst : List ℕ) → length dst ≡ length src → take (length src) src ++ drop (length src) dst ≡ src
copied src dst e =
    let l : length dst ≤ length src = omega arith in
    ap₂ ◌++◌ (take_all (length src) src (omega arith)) (drop_of_length-le dst l) ∙ append-nil src

-- a part that is given by where it ends
pub cut_long : (xs : List ℕ) (at count : ℕ) → at + count ≤ length xs → length (part xs at (at + count - at)) ≡ count
cut_long xs at count h = let e : at + count - at ≡ count = omega arith in rw e (length_part xs at count h)

-- and a run copied over it
pub copied_in : (xs src ys : List ℕ) (at count : ℕ) → at + count ≤ length xs → length src ≡ count
    → ys ≡ take (length src) src ++ drop (length src) (part xs at (at + count - at))
    → take at xs ++ (ys ++ drop (at + count - at) (drop at xs)) ≡ put xs at src
copied_in xs src ys at count h l e =
    let c : at + count - at ≡ count = omega arith in
    ap (λ (x : List ℕ). take at xs ++ (x ++ drop (at + count - at) (drop at xs))) (e ∙ copied src (part xs at (at + count - at)) (cut_long xs at count h ∙ sym l))
    ∙ lent xs src at (at + count - at) (l ∙ sym c)

-- s elements to the front of an output
pub copied_front : (out src ys : List ℕ) (s : ℕ) → s ≤ length out → length src ≡ s → ys ≡ take (length src) src ++ drop (length src) out → ys ≡ put out 0 src
copied_front out src ys s h l e = e ∙ ap (λ (x : List ℕ). x ++ drop (length src) out) (take-length src)

-- a part is no longer than was asked for
pub length_cut : (xs : List ℕ) (at k : ℕ) → length (part xs at k) ≤ k
length_cut xs at k = omega (arith, length-take k (drop at xs), min-le_left k (length (drop at xs)))

-- what stands from a place on where one element was stored
pub drop-set : (xs : List ℕ) (k v : ℕ) → k < length xs → drop k (set xs k v) ≡ v ∷ drop (k + 1) xs
drop-set xs k v h =
    let l : length (set xs k v) ≡ length xs = length-set xs k v in
    let e : suc k ≡ k + 1 = omega arith in
    drop-cons (set xs k v) k 0 (omega arith)
    ∙ ap₂ ◌∷◌ (get_or-set_same xs k v 0 h) (rw e (drop-set-lt (k + 1) xs k v (omega arith)))

pub drop-zeros : (k m : ℕ) → drop k (zeros m) ≡ zeros (m - k)
drop-zeros zero m = let e : m ≡ m - 0 = omega arith in ap (λ (n : ℕ). zeros n) e
drop-zeros (suc k) zero = let e : 0 ≡ 0 - suc k = omega arith in ap (λ (n : ℕ). zeros n) e
drop-zeros (suc k) (suc m) = let e : m - k ≡ suc m - suc k = omega arith in drop-zeros k m ∙ ap (λ (n : ℕ). zeros n) e

-- ---- what stands at a place, from what stands after it

pub next : (r a b : List ℕ) (n k : ℕ) → drop n r ≡ a ++ b → length a ≡ k → drop (n + k) r ≡ b
next r a b n k e l = sym (drop-drop k n r) ∙ ap (drop k) e ∙ drop_at a b k l

pub piece : (r a b : List ℕ) (n k : ℕ) → drop n r ≡ a ++ b → length a ≡ k → part r n k ≡ a
piece r a b n k e l = ap (take k) e ∙ take_at a b k l

pub byte_after : (r b : List ℕ) (n k x : ℕ) → drop n r ≡ b → get_or b k 0 ≡ x → get_or r (n + k) 0 ≡ x
byte_after r b n k x e g = sym (get_or-drop n r k 0) ∙ ap (λ (l : List ℕ). get_or l k 0) e ∙ g

-- ---- a piece after a piece is both of them

pub put_next : (xs : List ℕ) (at : ℕ) (ys zs : List ℕ) → at ≤ length xs → put (put xs at ys) (at + length ys) zs ≡ put xs at (ys ++ zs)
put_next xs at ys zs h =
    let l : length (take at xs) ≡ at = length-take-le at xs (omega arith) in
    let a : take (at + length ys) (put xs at ys) ≡ take at xs ++ ys
    = ap (λ (k : ℕ). take (k + length ys) (put xs at ys)) (sym l) ∙ take-append-add (take at xs) (ys ++ drop (length ys) (drop at xs)) (length ys)
    ∙ ap (λ (x : List ℕ). take at xs ++ x) (take-append_seam ys (drop (length ys) (drop at xs))) in
    let b : drop (at + length ys) (put xs at ys) ≡ drop (length ys) (drop at xs)
    = ap (λ (k : ℕ). drop (k + length ys) (put xs at ys)) (sym l) ∙ drop-append-add (take at xs) (ys ++ drop (length ys) (drop at xs)) (length ys)
    ∙ drop-append_seam ys (drop (length ys) (drop at xs)) in
    ap₂ (λ (x y : List ℕ). x ++ (zs ++ drop (length zs) y)) a b
    ∙ append_assoc (take at xs) ys (zs ++ drop (length zs) (drop (length ys) (drop at xs)))
    ∙ ap (λ (x : List ℕ). take at xs ++ x) (sym (append_assoc ys zs (drop (length zs) (drop (length ys) (drop at xs)))))
    ∙ ap (λ (x : List ℕ). take at xs ++ ((ys ++ zs) ++ x)) (drop-drop (length zs) (length ys) (drop at xs) ∙ ap (λ (k : ℕ). drop k (drop at xs)) (sym (length-append ys zs)))
