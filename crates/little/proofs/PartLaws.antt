-- The shared facts about parts of lists: a part of an append, of a store; what `put` changes and leaves; block i
-- of a flat store. Assumes nothing.
use Prim.Native.Nat.{ℕ, suc, ◌+◌, ◌-◌, ◌*◌, ◌<◌, ◌≤◌}
use mathlib.Core.Path.{◌≡◌, sym, ap, ◌∙◌, subst}
use mathlib.Core.List.{List, [], ◌∷◌, ◌++◌}
use mathlib.Core.Logic.{◌⊎◌, inl, inr, ⊎_elim}
use native.Mathlib.Decide.{dec_lt}
use native.Mathlib.Nat.{mul-le-mul_right}
use native.Mathlib.Omega.{arith}
use lib.ListN.{length, get_or, take, drop, take-append-drop, length-append, length-take, length-drop, get_or-append}
use lib.Seq.{drop-cons, get_or-take, get_or-drop, get_or-append-add, length-take-le, take-append-le, drop-append-le, drop-append-add, ext_get_or, take_all}
use Rattle.little.specs.Parts.{part, put, block, put_block}

pub below_or : (a b : ℕ) → (a < b) ⊎ (b ≤ a)
below_or a b = elim (dec_lt a b) [ yes h ↦ inl h | no h ↦ inr (omega arith) ]

-- one element more at the front, for a loop that counts i down
pub drop_down : (xs : List ℕ) (i : ℕ) → 0 < i → i ≤ length xs → drop (i - 1) xs ≡ get_or xs (i - 1) 0 ∷ drop i xs
drop_down xs i h k =
    let e : suc (i - 1) ≡ i = omega arith in
    rw e at (drop-cons xs (i - 1) 0 (omega arith))

-- ---- a part

pub length_part : (xs : List ℕ) (at n : ℕ) → at + n ≤ length xs → length (part xs at n) ≡ n
length_part xs at n h = length-take-le n (drop at xs) (omega (arith, length-drop at xs))

pub get_or-part : (xs : List ℕ) (at n k : ℕ) → k < n → get_or (part xs at n) k 0 ≡ get_or xs (at + k) 0
get_or-part xs at n k h = get_or-take n (drop at xs) k 0 h ∙ get_or-drop at xs k 0

-- the rest of a list, as `&s[at..]` has it
pub part-rest : (xs : List ℕ) (at : ℕ) → part xs at (length xs - at) ≡ drop at xs
part-rest xs at = take_all (length xs - at) (drop at xs) (omega (arith, length-drop at xs))

pub part-whole : (xs : List ℕ) → part xs 0 (length xs) ≡ xs
part-whole xs = take_all (length xs) xs (omega arith)

-- a part of an append, in the first list and in the second
pub part-append-left : (xs ys : List ℕ) (at n : ℕ) → at + n ≤ length xs → part (xs ++ ys) at n ≡ part xs at n
part-append-left xs ys at n h =
    ap (λ (r : List ℕ). take n r) (drop-append-le at xs ys (omega arith))
    ∙ take-append-le n (drop at xs) ys (omega (arith, length-drop at xs))

pub part-append_right : (xs ys : List ℕ) (at n : ℕ) → part (xs ++ ys) (length xs + at) n ≡ part ys at n
part-append_right xs ys at n = ap (λ (r : List ℕ). take n r) (drop-append-add xs ys at)

-- a part of a part
pub part-part : (xs : List ℕ) (from m at n : ℕ) → at + n ≤ m → from + m ≤ length xs → part (part xs from m) at n ≡ part xs (from + at) n
part-part xs from m at n h k =
    let l = length_part xs from m k in
    let p : length (part (part xs from m) at n) ≡ n = length_part (part xs from m) at n (omega arith) in
    let q : length (part xs (from + at) n) ≡ n = length_part xs (from + at) n (omega arith) in
    ext_get_or 0 _ _ (p ∙ sym q)
    (λ i u.
    let e : from + at + i ≡ from + (at + i) = omega arith in
    get_or-part (part xs from m) at n i (omega arith) ∙ get_or-part xs from m (at + i) (omega arith)
    ∙ sym (get_or-part xs (from + at) n i (omega arith) ∙ ap (λ (j : ℕ). get_or xs j 0) e))

-- ---- what `put` changes and leaves, where ys fits

-- a `&mut` part that was lent and came back with ys in it
pub lent : (xs ys : List ℕ) (at n : ℕ) → length ys ≡ n → take at xs ++ (ys ++ drop n (drop at xs)) ≡ put xs at ys
lent xs ys at n e = ap (λ (k : ℕ). take at xs ++ (ys ++ drop k (drop at xs))) (sym e)

pub put_none : (xs : List ℕ) (at : ℕ) → put xs at [] ≡ xs
put_none xs at = take-append-drop at xs

module _ (xs : List ℕ) (at : ℕ) (ys : List ℕ) (inside : at + length ys ≤ length xs) where
  length-head : length (take at xs) ≡ at
  length-head = length-take-le at xs (omega arith)

  pub length-put : length (put xs at ys) ≡ length xs
  length-put = simp (length-append, length-take, length-drop) (omega arith)

  pub put-before : (k : ℕ) → k < at → get_or (put xs at ys) k 0 ≡ get_or xs k 0
  put-before k h =
      get_or-append (take at xs) (ys ++ drop (length ys) (drop at xs)) 0 k (omega (arith, length-head)) ∙ get_or-take at xs k 0 h

  past_head : (k : ℕ) → get_or (put xs at ys) (at + k) 0 ≡ get_or (ys ++ drop (length ys) (drop at xs)) k 0
  past_head k =
      subst (λ (x : ℕ). get_or (put xs at ys) (x + k) 0 ≡ get_or (ys ++ drop (length ys) (drop at xs)) k 0) length-head
      (get_or-append-add (take at xs) (ys ++ drop (length ys) (drop at xs)) k 0)

  pub put_inside : (k : ℕ) → k < length ys → get_or (put xs at ys) (at + k) 0 ≡ get_or ys k 0
  put_inside k h = past_head k ∙ get_or-append ys (drop (length ys) (drop at xs)) 0 k h

  pub put-after : (k : ℕ) → at + length ys ≤ k → get_or (put xs at ys) k 0 ≡ get_or xs k 0
  put-after k h =
      let e : k ≡ at + (length ys + (k - (at + length ys))) = omega arith in
      let f : at + (length ys + (k - (at + length ys))) ≡ k = omega arith in
      ap (λ (x : ℕ). get_or (put xs at ys) x 0) e
      ∙ past_head (length ys + (k - (at + length ys)))
      ∙ get_or-append-add ys (drop (length ys) (drop at xs)) (k - (at + length ys)) 0
      ∙ get_or-drop (length ys) (drop at xs) (k - (at + length ys)) 0
      ∙ get_or-drop at xs (length ys + (k - (at + length ys))) 0
      ∙ ap (λ (x : ℕ). get_or xs x 0) f

  pub put_outside : (k : ℕ) → (k < at) ⊎ (at + length ys ≤ k) → get_or (put xs at ys) k 0 ≡ get_or xs k 0
  put_outside k o = ⊎_elim (put-before k) (put-after k) o

  -- the part that was put is there
  pub part-put : part (put xs at ys) at (length ys) ≡ ys
  part-put =
      ext_get_or 0 _ _ (length_part (put xs at ys) at (length ys) (omega (arith, length-put)))
      (λ k h.
      let u : k < length ys = omega (arith, length-put, length_part (put xs at ys) at (length ys) (omega (arith, length-put))) in
      get_or-part (put xs at ys) at (length ys) k u ∙ put_inside k u)

  -- a part that does not overlap it is as it was
  pub part-put_apart : (at' n : ℕ) → at' + n ≤ length xs → (at + length ys ≤ at') ⊎ (at' + n ≤ at) → part (put xs at ys) at' n ≡ part xs at' n
  part-put_apart at' n inside' apart =
      let l = length-put in
      let p : length (part (put xs at ys) at' n) ≡ n = length_part (put xs at ys) at' n (omega arith) in
      ext_get_or 0 _ _ (p ∙ sym (length_part xs at' n inside'))
      (λ k h.
      let u : k < n = omega arith in
      get_or-part (put xs at ys) at' n k u
      ∙ put_outside (at' + k) (⊎_elim (λ q. inr (omega arith)) (λ q. inl (omega arith)) apart)
      ∙ sym (get_or-part xs at' n k u))

-- two lists with the same element at each place before, in and after a part are the same
pub same_around : (xs ys : List ℕ) (at n : ℕ) → length xs ≡ length ys
    → ((k : ℕ) → (k < at) ⊎ (at + n ≤ k) → get_or xs k 0 ≡ get_or ys k 0) → ((k : ℕ) → k < n → get_or xs (at + k) 0 ≡ get_or ys (at + k) 0) → xs ≡ ys
same_around xs ys at n l out here =
    ext_get_or 0 xs ys l
    (λ k h. ⊎_elim (λ (p : k < at). out k (inl p))
    (λ (p : at ≤ k). ⊎_elim
    (λ (q : k < at + n). let e : at + (k - at) ≡ k = omega arith in rw e at (here (k - at) (omega arith)))
    (λ (q : at + n ≤ k). out k (inr q))
    (below_or k (at + n)))
    (below_or k at))

-- what stands there already, put there, changes nothing
pub put_same : (xs : List ℕ) (at n : ℕ) → at + n ≤ length xs → put xs at (part xs at n) ≡ xs
put_same xs at n h =
    let l = length_part xs at n h in
    let fit : at + length (part xs at n) ≤ length xs = omega arith in
    same_around (put xs at (part xs at n)) xs at n (length-put xs at (part xs at n) fit)
    (λ k o. put_outside xs at (part xs at n) fit k (⊎_elim (λ p. inl p) (λ p. inr (omega arith)) o))
    (λ k u. put_inside xs at (part xs at n) fit k (omega arith) ∙ get_or-part xs at n k u)

-- of two put at one place the second alone is there
pub put-put : (xs : List ℕ) (at : ℕ) (ys zs : List ℕ) → at + length ys ≤ length xs → length zs ≡ length ys → put (put xs at ys) at zs ≡ put xs at zs
put-put xs at ys zs fit e =
    let l = length-put xs at ys fit in
    let fit' : at + length zs ≤ length xs = omega arith in
    let fit'' : at + length zs ≤ length (put xs at ys) = omega arith in
    same_around (put (put xs at ys) at zs) (put xs at zs) at (length zs) (length-put (put xs at ys) at zs fit'' ∙ l ∙ sym (length-put xs at zs fit'))
    (λ k o.
    put_outside (put xs at ys) at zs fit'' k o
    ∙ put_outside xs at ys fit k (⊎_elim (λ p. inl p) (λ p. inr (omega arith)) o)
    ∙ sym (put_outside xs at zs fit' k o))
    (λ k u. put_inside (put xs at ys) at zs fit'' k u ∙ sym (put_inside xs at zs fit' k u))

-- two that do not overlap, in either order
pub put_swap : (xs : List ℕ) (at at' : ℕ) (ys zs : List ℕ) → at + length ys ≤ length xs → at' + length zs ≤ length xs
    → (at + length ys ≤ at') ⊎ (at' + length zs ≤ at) → put (put xs at ys) at' zs ≡ put (put xs at' zs) at ys
put_swap xs at at' ys zs fy fz apart =
    let ly = length-put xs at ys fy in
    let lz = length-put xs at' zs fz in
    let fz' : at' + length zs ≤ length (put xs at ys) = omega arith in
    let fy' : at + length ys ≤ length (put xs at' zs) = omega arith in
    let outside = put_outside (put xs at ys) at' zs fz' in
    same_around (put (put xs at ys) at' zs) (put (put xs at' zs) at ys) at (length ys)
    (length-put (put xs at ys) at' zs fz' ∙ ly ∙ sym lz ∙ sym (length-put (put xs at' zs) at ys fy'))
    (λ k o. ⊎_elim
    (λ (p : (k < at') ⊎ (at' + length zs ≤ k)).
    put_outside (put xs at ys) at' zs fz' k p ∙ put_outside xs at ys fy k o
    ∙ sym (put_outside (put xs at' zs) at ys fy' k o ∙ put_outside xs at' zs fz k p))
    (λ (p : (at' ≤ k) × (k < at' + length zs)).
    let e : at' + (k - at') ≡ k = omega arith in
    (rw e at (put_inside (put xs at ys) at' zs fz' (k - at') (omega arith)))
    ∙ sym (put_outside (put xs at' zs) at ys fy' k o ∙ (rw e at (put_inside xs at' zs fz (k - at') (omega arith)))))
    (where_is k at' (length zs)))
    (λ k u.
    put_outside (put xs at ys) at' zs fz' (at + k) (⊎_elim (λ p. inl (omega arith)) (λ p. inr (omega arith)) apart)
    ∙ put_inside xs at ys fy k u ∙ sym (put_inside (put xs at' zs) at ys fy' k u))
  where
    where_is : (k a n : ℕ) → ((k < a) ⊎ (a + n ≤ k)) ⊎ ((a ≤ k) × (k < a + n))
    where_is k a n = ⊎_elim (λ p. inl (inl p)) (λ p. ⊎_elim (λ q. inr (p, q)) (λ q. inl (inr q)) (below_or k (a + n))) (below_or k a)

-- ---- block i of a flat store of n blocks

-- it lies inside
pub block_inside : (size n i : ℕ) → i < n → i * size + size ≤ n * size
block_inside size n i h = omega (arith, mul-le-mul_right {m = i + 1} {n = n} size (omega arith))

-- two of them do not overlap
pub blocks_apart : (size i j : ℕ) → (i ≡ j → ⊥) → (i * size + size ≤ j * size) ⊎ (j * size + size ≤ i * size)
blocks_apart size i j d =
    ⊎_elim (λ (p : i < j). inl (block_inside size j i p)) (λ (p : j ≤ i). inr (block_inside size i j (omega arith))) (below_or i j)

module _ (size n : ℕ) (store : List ℕ) (whole : length store ≡ n * size) where
  pub length-block : (i : ℕ) → i < n → length (block size store i) ≡ size
  length-block i h = length_part store (i * size) size (omega (arith, block_inside size n i h))

  module _ (i : ℕ) (h : i < n) (ys : List ℕ) (long : length ys ≡ size) where
    room : i * size + length ys ≤ length store
    room = omega (arith, block_inside size n i h)

    pub length-put_block : length (put_block size store i ys) ≡ n * size
    length-put_block = length-put store (i * size) ys room ∙ whole

    pub block-put : block size (put_block size store i ys) i ≡ ys
    block-put = ap (λ (k : ℕ). part (put_block size store i ys) (i * size) k) (sym long) ∙ part-put store (i * size) ys room

    pub block-put-other : (j : ℕ) → j < n → (i ≡ j → ⊥) → block size (put_block size store i ys) j ≡ block size store j
    block-put-other j g d =
        part-put_apart store (i * size) ys room (j * size) size (omega (arith, block_inside size n j g))
        (⊎_elim (λ p. inl (omega arith)) (λ p. inr p) (blocks_apart size i j d))
