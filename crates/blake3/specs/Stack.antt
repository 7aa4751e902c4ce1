-- The stack of the running hash: whole trees that wait at their heights for a right neighbour. A customer who feeds only records
-- that the calls gave him may skip it: `AnyCut` (specs/Running.antt) says what comes of them. Assumes nothing: these are
-- definitions.
use Rattle.std.specs.Prelude.{ℕ, zero, suc, ◌-◌, ◌*◌, ◌/◌, ◌%◌, Bool, cond, not, ◌&&◌, List, [], take, set, slice_index_or, ◌==◌}
use Rattle.blake3.specs.Tree.{flag_root, piece_length, piece, parent}

-- the heights of the stack
abbrev pub heights : ℕ
heights = 30

-- what stands at height h: the chaining value of a whole tree of 2 ^ h pieces, if one waits there
abbrev pub slot : ℕ → List (List ℕ) → List ℕ
slot h stack = slice_index_or stack h []

-- One more whole tree, cv, of 2 ^ h pieces, where t trees of that size came before it: if t is odd the last of them still
-- waits at height h, and the two make a tree of the next height; if t is even cv waits. The first argument is how many
-- heights are left
unfoldable pub pushed : ℕ → ℕ → ℕ → List ℕ → List (List ℕ) → List (List ℕ)
pushed zero h t cv stack = stack
pushed (suc f) h t cv stack =
    cond (t % 2 == 0) (set stack h cv) (pushed f (suc h) (t / 2) (parent 0 (slot h stack) cv) stack)

-- the flag root for what has nothing on its left
abbrev pub root_flag : ℕ → ℕ
root_flag zero = flag_root
root_flag (suc t) = 0

-- cv with a tree on its left, where t says that one waits there
unfoldable pub joined_to : List ℕ → ℕ → List ℕ → List ℕ
joined_to left t cv = cond (t % 2 == 0) cv (parent (root_flag (t / 2)) left cv)

-- cv with the tree at height h on its left, where one waits there
abbrev pub joined_at : ℕ → ℕ → List ℕ → List (List ℕ) → List ℕ
joined_at h t cv stack = joined_to (slot h stack) t cv

-- the last trees joined, from the smallest up, where cv is what the text ends with and t trees of 2 ^ h pieces stand before it
unfoldable pub closed : ℕ → ℕ → ℕ → List ℕ → List (List ℕ) → List ℕ
closed zero h t cv stack = cv
closed (suc f) h t cv stack =
    closed f (suc h) (t / 2) (joined_at h t cv stack) stack

-- the piece is full and waits for more
abbrev pub is_full : ℕ → Bool
is_full fed = not (fed == 0) && fed % piece_length == 0

-- the stack when a byte comes: a full piece goes into it
unfoldable pub settled : ℕ → List ℕ → List (List ℕ) → List (List ℕ)
settled fed bytes stack =
    cond (is_full fed) (pushed heights 0 (fed / piece_length - 1) (piece (fed / piece_length - 1) 0 bytes) stack) stack

-- how many pieces are in the stack: all but the last, which may be full
abbrev pub pieces_done : ℕ → ℕ
pieces_done fed = (fed - 1) / piece_length

-- the eight words of the root: the last piece, joined to all that waits on its left
unfoldable pub ending : ℕ → List ℕ → List (List ℕ) → List ℕ
ending fed bytes stack =
    let t = pieces_done fed in
    closed heights 0 t (piece t (root_flag t) (take (fed - t * piece_length) bytes)) stack
