-- Laws of the running hash's stack, which the proofs of its functions cite: a turn and the end of each loop, and a tree joined.
-- Assumes nothing.
use Rattle.std.proofs.Common.{◌≡◌, ℕ, suc, ◌+◌, ◌-◌, ◌/◌, ◌%◌, ◌<◌, ◌≤◌, List, set, add-one, arith, eq-eqb, ne_eqb}
use Rattle.blake3.specs.Tree.{parent}
use Rattle.blake3.specs.Stack.{slot, pushed, root_flag, joined_to, joined_at, closed}

-- ---- the loop that pushes

pub push_more : (h t : ℕ) (s : List (List ℕ)) (cv : List ℕ) {cv' : List ℕ} → h < 30 → (t % 2 ≡ 0 → ⊥) → cv' ≡ parent 0 (slot h s) cv
    → pushed (30 - (h + 1)) (h + 1) (t / 2) cv' s ≡ pushed (30 - h) h t cv s
unfolding pushed
push_more h t s cv lt n ec =
    let e : 30 - h ≡ suc (30 - (h + 1)) = omega arith in
    rw (e, ne_eqb (t % 2) 0 n, ec, add-one)

pub push_here : (h t : ℕ) (s : List (List ℕ)) (cv : List ℕ) → h < 30 → t % 2 ≡ 0 → set s h cv ≡ pushed (30 - h) h t cv s
unfolding pushed
push_here h t s cv lt z =
    let e : 30 - h ≡ suc (30 - (h + 1)) = omega arith in
    rw (e, eq-eqb (t % 2) 0 z)

pub push_none : (h t : ℕ) (s : List (List ℕ)) (cv : List ℕ) → 30 ≤ h → s ≡ pushed (30 - h) h t cv s
unfolding pushed
push_none h t s cv le = let e : 30 - h ≡ 0 = omega arith in rw e

-- ---- the loop that closes

pub join_none : (left cv : List ℕ) (t : ℕ) → t % 2 ≡ 0 → cv ≡ joined_to left t cv
unfolding joined_to
join_none left cv t z = rw (eq-eqb (t % 2) 0 z)

pub join_some : (left cv : List ℕ) (t : ℕ) {r : List ℕ} {root : ℕ} → (t % 2 ≡ 0 → ⊥) → root ≡ root_flag (t / 2) → r ≡ parent root left cv → r ≡ joined_to left t cv
unfolding joined_to
join_some left cv t n eo er = rw (ne_eqb (t % 2) 0 n, er, eo)

pub close_more : (h t : ℕ) (s : List (List ℕ)) (cv : List ℕ) {cv' : List ℕ} → h < 30 → cv' ≡ joined_at h t cv s
    → closed (30 - (h + 1)) (h + 1) (t / 2) cv' s ≡ closed (30 - h) h t cv s
unfolding closed
close_more h t s cv lt ec =
    let e : 30 - h ≡ suc (30 - (h + 1)) = omega arith in
    rw (e, ec, add-one)

pub close_end : (h t : ℕ) (s : List (List ℕ)) (cv : List ℕ) → 30 ≤ h → cv ≡ closed (30 - h) h t cv s
unfolding closed
close_end h t s cv le = let e : 30 - h ≡ 0 = omega arith in rw e
