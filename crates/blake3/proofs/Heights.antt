-- The same tree by height: up to 2 ^ h pieces, halved at 2 ^ (h - 1). The running hash grows such trees, so its proofs are
-- about them; one law joins them to the tree of the definition. Assumes nothing.
use Rattle.std.proofs.Common.{◌≡◌, ℕ, zero, suc, ◌+◌, ◌*◌, ◌^◌, ◌<◌, ◌≤◌, cond, leb, List, ◌++◌, length, take, drop, refl, ap, ◌∙◌, arith, length-drop, length-take-le, take-take, drop-drop, take-add, drop_at, pow_pos, le-leb, leb-false, leb-true}
use borrow.Author.Tests.{lt-leb}
use lib.Seq.{take-append-le, drop-append-le}
use Rattle.blake3.specs.Tree.{piece, parent, left_pieces, tree_of}
use Rattle.blake3.proofs.Splits.{either, pow-suc, left-made, left_parts, tree-whole, tree_split}

unfoldable pub by_height : ℕ → ℕ → ℕ → List ℕ → List ℕ
by_height zero i root xs = piece i root xs
by_height (suc h) i root xs =
    let whole : List ℕ = by_height h i root xs in
    let split : List ℕ = parent root (by_height h i 0 (take (2 ^ h * 1024) xs)) (by_height h (i + 2 ^ h) 0 (drop (2 ^ h * 1024) xs)) in
    cond (leb (length xs) (2 ^ h * 1024)) whole split

-- a text that the left half holds whole
pub height_same : (h j root : ℕ) (xs : List ℕ) → length xs ≤ 2 ^ h * 1024 → by_height h j root xs ≡ by_height (suc h) j root xs
unfolding by_height
height_same h j root xs le = rw (le-leb (length xs) (2 ^ h * 1024) le)

height_split : (h j root : ℕ) (xs : List ℕ) → 2 ^ h * 1024 < length xs
    → parent root (by_height h j 0 (take (2 ^ h * 1024) xs)) (by_height h (j + 2 ^ h) 0 (drop (2 ^ h * 1024) xs)) ≡ by_height (suc h) j root xs
unfolding by_height
height_split h j root xs lt = rw (lt-leb (length xs) (2 ^ h * 1024) lt)

-- a height that holds the text gives the tree
pub height_tree : (h j root : ℕ) (xs : List ℕ) → length xs ≤ 2 ^ h * 1024 → by_height h j root xs ≡ tree_of j root xs
unfolding by_height
height_tree zero j root xs le = tree-whole (length xs) j root xs (omega arith)
height_tree (suc h) j root xs le =
    let p = pow-suc h in
    let pos : 0 < 2 ^ h = pow_pos h in
    either (leb (length xs) (2 ^ h * 1024))
    (λ t. rw t (height_tree h j root xs (leb-true (length xs) (2 ^ h * 1024) t)))
    (λ t.
    let lt : 2 ^ h * 1024 < length xs = leb-false (length xs) (2 ^ h * 1024) t in
    let lt' : 1024 < length xs = omega arith in
    let e : 2 ^ h ≡ left_pieces (length xs)
    = left-made (length xs) (2 ^ h) lt' record {
      exponent = h;
      power = refl;
      leaves = lt;
      no_more = omega arith;
    } in
    let q = left_parts xs (2 ^ h) lt' e in
    let ll = q.left in
    let lr = q.right in
    let ul : length (take (2 ^ h * 1024) xs) ≤ 2 ^ h * 1024 = omega arith in
    let ur : length (drop (2 ^ h * 1024) xs) ≤ 2 ^ h * 1024 = omega arith in
    rw t (tree_split (length xs) j root (2 ^ h) xs lt' (omega arith) e (height_tree h j 0 (take (2 ^ h * 1024) xs) ul) (height_tree h (j + 2 ^ h) 0 (drop (2 ^ h * 1024) xs) ur) refl))

-- the whole tree of 2 ^ h pieces that begins at piece i of xs
unfoldable pub whole : ℕ → ℕ → List ℕ → List ℕ
whole h i xs = by_height h i 0 (take (2 ^ h * 1024) (drop (i * 1024) xs))

-- a whole tree on the left, and what is left of the list on the right
pub height_join : (h j root : ℕ) (xs : List ℕ) → (j + 2 ^ h) * 1024 < length xs
    → parent root (whole h j xs) (by_height h (j + 2 ^ h) 0 (drop ((j + 2 ^ h) * 1024) xs)) ≡ by_height (suc h) j root (drop (j * 1024) xs)
unfolding whole
height_join h j root xs lt =
    let l : 2 ^ h * 1024 < length (drop (j * 1024) xs) = omega (arith, length-drop (j * 1024) xs) in
    let n : j * 1024 + 2 ^ h * 1024 ≡ (j + 2 ^ h) * 1024 = omega arith in
    let e : drop (2 ^ h * 1024) (drop (j * 1024) xs) ≡ drop ((j + 2 ^ h) * 1024) xs = drop-drop (2 ^ h * 1024) (j * 1024) xs ∙ ap (λ (n : ℕ). drop n xs) n in
    rw (← e) (height_split h j root (drop (j * 1024) xs) l)

drop-take : (n m : ℕ) (l : List ℕ) → n ≤ length l → drop n (take (n + m) l) ≡ take m (drop n l)
drop-take n m l h = rw (take-add n m l) (drop_at (take n l) (take m (drop n l)) n (length-take-le n l h))

-- two whole trees
pub whole_join : (h j : ℕ) (xs : List ℕ) → (j + 2 ^ suc h) * 1024 ≤ length xs → parent 0 (whole h j xs) (whole h (j + 2 ^ h) xs) ≡ whole (suc h) j xs
unfolding whole
whole_join h j xs le =
    let p = pow-suc h in
    let d = length-drop (j * 1024) xs in
    let n : j * 1024 + 2 ^ h * 1024 ≡ (j + 2 ^ h) * 1024 = omega arith in
    let m : 2 ^ suc h * 1024 ≡ 2 ^ h * 1024 + 2 ^ h * 1024 = omega arith in
    let k : 2 ^ suc h * 1024 ≤ length (drop (j * 1024) xs) = omega arith in
    let k' : 2 ^ h * 1024 ≤ length (drop (j * 1024) xs) = omega arith in
    let q : 2 ^ h * 1024 ≤ 2 ^ suc h * 1024 = omega arith in
    let o = length-take-le (2 ^ suc h * 1024) (drop (j * 1024) xs) k in
    let z : 0 < 2 ^ h = pow_pos h in
    let l : 2 ^ h * 1024 < length (take (2 ^ suc h * 1024) (drop (j * 1024) xs)) = omega arith in
    let e₁ : take (2 ^ h * 1024) (take (2 ^ suc h * 1024) (drop (j * 1024) xs)) ≡ take (2 ^ h * 1024) (drop (j * 1024) xs) = take-take (2 ^ h * 1024) (2 ^ suc h * 1024) (drop (j * 1024) xs) q in
    let e₂ : drop (2 ^ h * 1024) (take (2 ^ suc h * 1024) (drop (j * 1024) xs)) ≡ take (2 ^ h * 1024) (drop ((j + 2 ^ h) * 1024) xs)
    = ap (λ (a : ℕ). drop (2 ^ h * 1024) (take a (drop (j * 1024) xs))) m
    ∙ drop-take (2 ^ h * 1024) (2 ^ h * 1024) (drop (j * 1024) xs) k'
    ∙ ap (λ (r : List ℕ). take (2 ^ h * 1024) r) (drop-drop (2 ^ h * 1024) (j * 1024) xs ∙ ap (λ (a : ℕ). drop a xs) n) in
    rw (← e₁, ← e₂) (height_split h j 0 (take (2 ^ suc h * 1024) (drop (j * 1024) xs)) l)

-- more bytes change no whole tree
pub whole_more : (h i : ℕ) (xs ys : List ℕ) → (i + 2 ^ h) * 1024 ≤ length xs → whole h i xs ≡ whole h i (xs ++ ys)
unfolding whole
whole_more h i xs ys le =
    let a : i * 1024 ≤ length xs = omega arith in
    let b : 2 ^ h * 1024 ≤ length (drop (i * 1024) xs) = omega (arith, length-drop (i * 1024) xs) in
    rw (drop-append-le (i * 1024) xs ys a, take-append-le (2 ^ h * 1024) (drop (i * 1024) xs) ys b)
