-- A hash has 32 bytes. Assumes nothing.
use Rattle.std.proofs.Common.{◌≡◌, ℕ, zero, suc, ◌*◌, Bool, true, false, cond, leb, List, [], ◌∷◌, length, refl, ◌∙◌, arith, length-append}
use Rattle.little.specs.Fields.{bytes_of}
use Rattle.little.proofs.Laws.{little_laws}
use Rattle.blake3.specs.Compress.{compressed, folded, bytes_of_words}
use Rattle.blake3.specs.Tree.{piece, parent, tree, hash}

length_pick : (b : Bool) (x y : List ℕ) → length x ≡ 8 → length y ≡ 8 → length (cond b x y) ≡ 8
length_pick true x y h k = h
length_pick false x y h k = k

length-piece : (i root : ℕ) (xs : List ℕ) → length (piece i root xs) ≡ 8
unfolding piece compressed folded
length-piece i root xs = refl

length-parent : (root : ℕ) (l r : List ℕ) → length (parent root l r) ≡ 8
unfolding parent compressed folded
length-parent root l r = refl

length-tree : (d i root : ℕ) (xs : List ℕ) → length (tree d i root xs) ≡ 8
unfolding tree
length-tree zero i root xs = length-piece i root xs
length-tree (suc d) i root xs = length_pick (leb (length xs) 1024) _ _ (length-piece i root xs) (length-parent root _ _)

length-words : (ws : List ℕ) → length (bytes_of_words ws) ≡ 4 * length ws
unfolding bytes_of_words
length-words [] = refl
length-words (w ∷ ws) = length-append (bytes_of 4 w) (bytes_of_words ws) ∙ omega (arith, (little_laws 4).long w, length-words ws)

pub length-hash : (xs : List ℕ) → length (hash xs) ≡ 32
unfolding hash
length-hash xs = omega (arith, length-words (tree (length xs) 0 8 xs), length-tree (length xs) 0 8 xs)
