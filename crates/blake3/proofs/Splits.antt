-- Laws of the tree: how many pieces go to the left, how deep a tree needs to be, and a piece from its blocks.
-- Assumes nothing.
use Rattle.std.proofs.Common.{◌≡◌, ℕ, zero, suc, ◌+◌, ◌-◌, ◌*◌, ◌/◌, ◌^◌, ◌<◌, ◌≤◌, Bool, true, false, ltb, leb, List, length, take, drop, sym, refl, ap, ◌∙◌, add-one, arith, length-drop, length-take-le, take_all, pow_pos, pow_mono, ltb-false, ltb-true, le-leb, leb-false, leb-true}
use native.Mathlib.Nat.{two-pow-succ}
use borrow.Author.Tests.{lt-leb}
use Rattle.little.proofs.Laws.{part_laws}
use Rattle.blake3.specs.Compress.{compressed}
use Rattle.blake3.specs.Tree.{block_words, start_flag, chain, piece, parent, doubled, left_pieces, Largest, SplitsAtLargest, tree, DepthEnough, tree_of}

-- the two ways that a test can go
pub either : {C : Type 0} (t : Bool) → (t ≡ true → C) → (t ≡ false → C) → C
either true f g = f refl
either false f g = g refl

pub pow-suc : (n : ℕ) → 2 ^ suc n ≡ 2 ^ n + 2 ^ n
pow-suc n = two-pow-succ n

below_power : (n : ℕ) → n < 2 ^ n
below_power zero = omega arith
below_power (suc n) = omega (arith, below_power n, pow-suc n)

doubled_largest : (f e n : ℕ) → 2 ^ e * 1024 < n → n ≤ 2 ^ (f + suc e) * 1024 → Largest n (doubled f (2 ^ e) n)
unfolding doubled
doubled_largest zero e n lt le = record {
  exponent = e;
  power = refl;
  leaves = lt;
  no_more = let e₀ : 0 + suc e ≡ suc e = omega arith in let le' = rw e₀ at le in omega (arith, pow-suc e);
}
doubled_largest (suc f) e n lt le =
    let e₁ : 2 * 2 ^ e ≡ 2 ^ suc e = omega (arith, pow-suc e) in
    let e₂ : suc f + suc e ≡ f + suc (suc e) = omega arith in
    let le' : n ≤ 2 ^ (f + suc (suc e)) * 1024 = rw e₂ at le in
    either (ltb (2 * 2 ^ e * 1024) n)
    (λ t. let lt' : 2 ^ suc e * 1024 < n = omega (arith, ltb-true (2 * 2 ^ e * 1024) n t) in rw (t, e₁) (doubled_largest f (suc e) n lt' le'))
    (λ t. rw t record {
      exponent = e;
      power = refl;
      leaves = lt;
      no_more = ltb-false (2 * 2 ^ e * 1024) n t;
    })

pub splits_at_largest : SplitsAtLargest
unfolding left_pieces
splits_at_largest n lt =
    let p = below_power n in
    let e : n + 1 ≡ suc n = omega arith in
    let q = pow-suc n in
    let le : n ≤ 2 ^ (n + 1) * 1024 = rw e (omega arith) in
    doubled_largest n 0 n lt le

-- of two powers of two, the one with the larger exponent is at least twice the other
not_larger : (n a b : ℕ) → n ≤ 2 * 2 ^ a * 1024 → 2 ^ b * 1024 < n → a < b → ⊥
not_larger n a b le lt h = omega (arith, pow-suc a, pow_mono {i = suc a} {j = b} h)

pub one_largest : (n p q : ℕ) → Largest n p → Largest n q → p ≡ q
one_largest n p q x y =
    let a = x.exponent in
    let b = y.exponent in
    let ep = x.power in
    let eq = y.power in
    let n₁ : a < b → ⊥ = not_larger n a b (rw ep at x.no_more) (rw eq at y.leaves) in
    let n₂ : b < a → ⊥ = not_larger n b a (rw eq at y.no_more) (rw ep at x.leaves) in
    let e : a ≡ b = omega arith in
    ep ∙ ap (λ (k : ℕ). 2 ^ k) e ∙ sym eq

-- a text of one piece
pub tree-whole : (d i root : ℕ) (xs : List ℕ) → length xs ≤ 1024 → piece i root xs ≡ tree d i root xs
unfolding tree
tree-whole zero i root xs le = refl
tree-whole (suc d) i root xs le = rw (le-leb (length xs) 1024 le)

-- a text of more, at one depth less
tree_down : (d i root : ℕ) (xs : List ℕ) → 1024 < length xs
    → parent root (tree d i 0 (take (left_pieces (length xs) * 1024) xs)) (tree d (i + left_pieces (length xs)) 0 (drop (left_pieces (length xs) * 1024) xs))
    ≡ tree (suc d) i root xs
unfolding tree
tree_down d i root xs lt = rw (lt-leb (length xs) 1024 lt)

-- the two parts of a text are shorter than it
pub record Parts (xs : List ℕ) (n : ℕ) : Type 0 where
  pub some : 0 < n
  pub left : length (take (n * 1024) xs) ≡ n * 1024
  pub right : length (drop (n * 1024) xs) ≡ length xs - n * 1024
  pub rest : n * 1024 < length xs

pub parts : (xs : List ℕ) → 1024 < length xs → Parts xs (left_pieces (length xs))
parts xs lt =
    let l = splits_at_largest (length xs) lt in
    let p = left_pieces (length xs) in
    let pos : 0 < p = rw l.power (pow_pos l.exponent) in
    let in-it : p * 1024 ≤ length xs = omega (arith, l.leaves) in
    record {
      some = pos;
      left = length-take-le (p * 1024) xs in-it;
      right = length-drop (p * 1024) xs;
      rest = l.leaves;
    }

-- a depth of the text's length is enough, and more changes nothing
pub depth_enough : DepthEnough
depth_enough zero d' i root xs le le' =
    let s : length xs ≤ 1024 = omega arith in
    sym (tree-whole zero i root xs s) ∙ tree-whole d' i root xs s
depth_enough (suc d) zero i root xs le le' =
    let s : length xs ≤ 1024 = omega arith in
    sym (tree-whole (suc d) i root xs s) ∙ tree-whole zero i root xs s
depth_enough (suc d) (suc d') i root xs le le' =
    either (leb (length xs) 1024)
    (λ t. let s = leb-true (length xs) 1024 t in sym (tree-whole (suc d) i root xs s) ∙ tree-whole (suc d') i root xs s)
    (λ t.
    let lt = leb-false (length xs) 1024 t in
    let q = parts xs lt in
    let p = left_pieces (length xs) in
    let pos = q.some in
    let el = q.left in
    let er = q.right in
    let rest = q.rest in
    let l₁ : length (take (p * 1024) xs) ≤ d = omega arith in
    let l₂ : length (take (p * 1024) xs) ≤ d' = omega arith in
    let r₁ : length (drop (p * 1024) xs) ≤ d = omega arith in
    let r₂ : length (drop (p * 1024) xs) ≤ d' = omega arith in
    sym (tree_down d i root xs lt)
    ∙ ap (λ (l : List ℕ). parent root l (tree d (i + p) 0 (drop (p * 1024) xs))) (depth_enough d d' i 0 (take (p * 1024) xs) l₁ l₂)
    ∙ ap (λ (r : List ℕ). parent root (tree d' i 0 (take (p * 1024) xs)) r) (depth_enough d d' (i + p) 0 (drop (p * 1024) xs) r₁ r₂)
    ∙ tree_down d' i root xs lt)

-- the same with each part at the depth of its own length
pub tree_split : (d i root p : ℕ) (xs : List ℕ) {l r x : List ℕ} → 1024 < length xs → length xs ≤ d → p ≡ left_pieces (length xs)
    → l ≡ tree_of i 0 (take (p * 1024) xs) → r ≡ tree_of (i + p) 0 (drop (p * 1024) xs) → x ≡ parent root l r → x ≡ tree d i root xs
tree_split zero i root p xs lt le ep el er ex = absurd (omega arith)
tree_split (suc d) i root p xs lt le ep el er ex =
    let q : Parts xs p = rw ep (parts xs lt) in
    let pos = q.some in
    let ll = q.left in
    let lr = q.right in
    let rest = q.rest in
    let l₁ : length (take (p * 1024) xs) ≤ length (take (p * 1024) xs) = omega arith in
    let l₂ : length (take (p * 1024) xs) ≤ d = omega arith in
    let r₁ : length (drop (p * 1024) xs) ≤ length (drop (p * 1024) xs) = omega arith in
    let r₂ : length (drop (p * 1024) xs) ≤ d = omega arith in
    rw (ex, el ∙ depth_enough _ d i 0 (take (p * 1024) xs) l₁ l₂, er ∙ depth_enough _ d (i + p) 0 (drop (p * 1024) xs) r₁ r₂, ep) (tree_down d i root xs lt)

-- a turn of the loop over blocks: b is the block's words, f the flag, cv the chaining value before and r after
pub chain_more : (i k : ℕ) (xs : List ℕ) {cv b r : List ℕ} {f : ℕ} → cv ≡ chain i k xs
    → b ≡ block_words (take (k * 64 + 64 - k * 64) (drop (k * 64) xs)) → f ≡ start_flag k → r ≡ compressed cv b i 64 f → r ≡ chain i (k + 1) xs
unfolding chain
chain_more i k xs e₁ e₂ e₃ e₄ =
    let n : k * 64 + 64 - k * 64 ≡ 64 = omega arith in
    let e₂' = rw n at e₂ in
    rw (add-one, e₄, e₁, e₂', e₃)

-- the last block of a piece
pub piece-made : (i root k : ℕ) (xs : List ℕ) {cv b r : List ℕ} {f : ℕ} → k ≡ (length xs - 1) / 64
    → cv ≡ chain i k xs → b ≡ block_words (take (length xs - k * 64) (drop (k * 64) xs)) → f ≡ start_flag k
    → r ≡ compressed cv b i (length (take (length xs - k * 64) (drop (k * 64) xs))) (f + 2 + root) → r ≡ piece i root xs
unfolding piece
piece-made i root k xs ek e₁ e₂ e₃ e₄ =
    let s : length (drop (k * 64) xs) ≤ 64 = omega (arith, length-drop (k * 64) xs) in
    let p : take (length xs - k * 64) (drop (k * 64) xs) ≡ drop (k * 64) xs = part_laws.part-rest xs (k * 64) in
    rw (e₄, e₁, e₂, e₃, p, length-drop (k * 64) xs, ← take_all 64 (drop (k * 64) xs) s, ek)

pub left-made : (n p : ℕ) → 1024 < n → Largest n p → p ≡ left_pieces n
left-made n p lt l = one_largest n p (left_pieces n) l (splits_at_largest n lt)

-- the largest power of two of pieces that leave a byte on the right
pub left_power : (n e : ℕ) {p : ℕ} → 1024 < n → 2 ^ e ≤ (n - 1) / 1024 → (n - 1) / 1024 < 2 * 2 ^ e → p ≡ 2 ^ e → p ≡ left_pieces n
left_power n e lt le more ep = left-made n _ lt record { exponent = e; power = ep; leaves = rw ep (omega arith); no_more = rw ep (omega arith) }

pub left_parts : (xs : List ℕ) (p : ℕ) → 1024 < length xs → p ≡ left_pieces (length xs) → Parts xs p
left_parts xs p lt e = rw e (parts xs lt)
