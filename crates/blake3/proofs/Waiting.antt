-- What the stack of a running hash holds of a text: its first pieces as whole trees, one for each binary digit of their count;
-- that a push keeps it so, and that closing such a stack gives the tree. Assumes nothing.
use Rattle.std.proofs.Common.{◌≡◌, ℕ, zero, suc, ◌+◌, ◌-◌, ◌*◌, ◌/◌, ◌%◌, ◌^◌, ◌<◌, ◌≤◌, ◌≢◌, eqb, List, [], ◌++◌, length, set, drop, refl, ap, ◌∙◌, arith, length-drop, length-set, eqb-true}
use Rattle.std.proofs.lemmas.List.{get_or-set_same, get_or-set_other}
use borrow.Author.Tests.{eqb-false}
use Rattle.blake3.specs.Tree.{parent}
use Rattle.blake3.specs.Stack.{slot, pushed, root_flag, joined_to, closed}
use Rattle.blake3.proofs.Splits.{either, pow-suc}
use Rattle.blake3.proofs.Heights.{by_height, whole, height_same, height_join, whole_join, whole_more}

-- ---- what a stack holds

-- The first i pieces of xs as whole trees, one for each binary digit of t that is 1, t * 2 ^ h being i: the digit of 2 ^ h
-- pieces has its tree at height h, and stands for the last of them. f is how many digits there may be
unfoldable pub Waits : ℕ → ℕ → ℕ → ℕ → List (List ℕ) → List ℕ → Type 0
Waits zero h t i s xs = (t ≡ 0) × (i ≡ 0)
Waits (suc f) h t i s xs =
    (t % 2 ≡ 1 → (2 ^ h ≤ i) × (slot h s ≡ whole h (i - 2 ^ h) xs)) × Waits f (suc h) (t / 2) (i - t % 2 * 2 ^ h) s xs

pub waits_more : (f h t i : ℕ) (s : List (List ℕ)) (xs ys : List ℕ) → i * 1024 ≤ length xs → Waits f h t i s xs → Waits f h t i s (xs ++ ys)
unfolding Waits
waits_more zero h t i s xs ys le r = r
waits_more (suc f) h t i s xs ys le r = (
  (λ o. let q = r.0 o in let u : (i - 2 ^ h + 2 ^ h) * 1024 ≤ length xs = omega (arith, q.0) in (q.0, q.1 ∙ whole_more h (i - 2 ^ h) xs ys u)),
  waits_more f (suc h) (t / 2) (i - t % 2 * 2 ^ h) s xs ys (omega arith) r.1,
)

pub waits_eq : (f h : ℕ) {t t' i i' : ℕ} (s : List (List ℕ)) (xs : List ℕ) → t ≡ t' → i ≡ i' → Waits f h t i s xs → Waits f h t' i' s xs
waits_eq f h s xs et ei r = rw (← et, ← ei) r

pub waits_none : (f h : ℕ) (s : List (List ℕ)) (xs : List ℕ) → Waits f h 0 0 s xs
unfolding Waits
waits_none zero h s xs = (refl, refl)
waits_none (suc f) h s xs = let e : 0 ≡ 0 - 0 * 2 ^ h = omega arith in ((λ o. absurd (omega arith)), waits_eq f (suc h) s xs refl e (waits_none f (suc h) s xs))

-- ---- a chaining value put into the stack

waits_stored : (h : ℕ) (s : List (List ℕ)) (cv : List ℕ) (f k t i : ℕ) (xs : List ℕ) → h < k → Waits f k t i s xs → Waits f k t i (set s h cv) xs
unfolding Waits
waits_stored h s cv zero k t i xs lt r = r
waits_stored h s cv (suc f) k t i xs lt r =
    let other : k ≢ h = λ e. absurd (omega arith) in
    ((λ o. ((r.0 o).0, get_or-set_other s h k cv [] other ∙ (r.0 o).1)), waits_stored h s cv f (suc k) (t / 2) (i - t % 2 * 2 ^ k) xs (omega arith) r.1)

digit : (d n p : ℕ) → d ≡ n → d * p ≡ n * p
digit d n p e = ap (λ (x : ℕ). x * p) e

-- ---- a whole tree pushed

push_stored : (f h t i : ℕ) (s : List (List ℕ)) (xs cv : List ℕ) → h < length s → t % 2 ≡ 0 → cv ≡ whole h i xs
    → Waits (suc f) h t i s xs → Waits (suc f) h (t + 1) (i + 2 ^ h) (set s h cv) xs
unfolding Waits
push_stored f h t i s xs cv low e ecv r =
    let n : i ≡ i + 2 ^ h - 2 ^ h = omega arith in
    let o : (t + 1) % 2 ≡ 1 = omega arith in
    let et : t / 2 ≡ (t + 1) / 2 = omega arith in
    let d₀ = digit (t % 2) 0 (2 ^ h) e in
    let d₁ = digit ((t + 1) % 2) 1 (2 ^ h) o in
    let ei : i - t % 2 * 2 ^ h ≡ i + 2 ^ h - (t + 1) % 2 * 2 ^ h = omega arith in (
      (λ _. (omega arith, get_or-set_same s h cv [] low ∙ ecv ∙ ap (λ (n : ℕ). whole h n xs) n)),
      waits_eq f (suc h) (set s h cv) xs et ei (waits_stored h s cv f (suc h) (t / 2) (i - t % 2 * 2 ^ h) xs (omega arith) r.1),
    )

-- s' is the stack after the push one level up
push_carried : (f h t i : ℕ) (s s' : List (List ℕ)) (xs : List ℕ) → t % 2 ≡ 1 → 2 ^ h ≤ i
    → Waits f (suc h) (t / 2 + 1) (i - 2 ^ h + 2 ^ suc h) s' xs → Waits (suc f) h (t + 1) (i + 2 ^ h) s' xs
unfolding Waits
push_carried f h t i s s' xs o g up =
    let p = pow-suc h in
    let z : (t + 1) % 2 ≡ 0 = omega arith in
    let d₀ = digit ((t + 1) % 2) 0 (2 ^ h) z in
    let et : t / 2 + 1 ≡ (t + 1) / 2 = omega arith in
    let ei : i - 2 ^ h + 2 ^ suc h ≡ i + 2 ^ h - (t + 1) % 2 * 2 ^ h = omega arith in
    ((λ o'. absurd (omega arith)), waits_eq f (suc h) s' xs et ei up)

-- what a digit that is 1 says, and what is above it
odd_waits : (f h t i : ℕ) (s : List (List ℕ)) (xs : List ℕ) → t % 2 ≡ 1 → Waits (suc f) h t i s xs
    → (2 ^ h ≤ i) × (slot h s ≡ whole h (i - 2 ^ h) xs) × Waits f (suc h) (t / 2) (i - 2 ^ h) s xs
unfolding Waits
odd_waits f h t i s xs o r =
    let d = digit (t % 2) 1 (2 ^ h) o in
    let e : i - t % 2 * 2 ^ h ≡ i - 2 ^ h = omega arith in
    ((r.0 o).0, (r.0 o).1, waits_eq f (suc h) s xs refl e r.1)

even_waits : (f h t i : ℕ) (s : List (List ℕ)) (xs : List ℕ) → t % 2 ≡ 0 → Waits (suc f) h t i s xs → Waits f (suc h) (t / 2) i s xs
unfolding Waits
even_waits f h t i s xs z r =
    let d = digit (t % 2) 0 (2 ^ h) z in
    let e : i - t % 2 * 2 ^ h ≡ i = omega arith in
    waits_eq f (suc h) s xs refl e r.1

-- the tree at height h, and the one that is pushed after it
carried : (h i : ℕ) (s : List (List ℕ)) (xs cv : List ℕ) → 2 ^ h ≤ i → (i + 2 ^ h) * 1024 ≤ length xs → slot h s ≡ whole h (i - 2 ^ h) xs → cv ≡ whole h i xs
    → parent 0 (slot h s) cv ≡ whole (suc h) (i - 2 ^ h) xs
carried h i s xs cv g le el ec =
    let p = pow-suc h in
    let n : i ≡ i - 2 ^ h + 2 ^ h = omega arith in
    let u : (i - 2 ^ h + 2 ^ suc h) * 1024 ≤ length xs = omega arith in
    ap (λ (a : List ℕ). parent 0 a cv) el ∙ ap (λ (a : List ℕ). parent 0 (whole h (i - 2 ^ h) xs) a) (ec ∙ ap (λ (n : ℕ). whole h n xs) n)
    ∙ whole_join h (i - 2 ^ h) xs u

pub pushed_waits : (f h t i : ℕ) (s : List (List ℕ)) (xs cv : List ℕ) → f + h ≡ 30 → length s ≡ 30 → t + 1 < 2 ^ f → (i + 2 ^ h) * 1024 ≤ length xs
    → cv ≡ whole h i xs → Waits f h t i s xs → Waits f h (t + 1) (i + 2 ^ h) (pushed f h t cv s) xs
unfolding pushed
pushed_waits zero h t i s xs cv ef ls lt le ec r = absurd (omega arith)
pushed_waits (suc f) h t i s xs cv ef ls lt le ec r =
    either (eqb (t % 2) 0)
    (λ b. rw b (push_stored f h t i s xs cv (omega arith) (eqb-true (t % 2) 0 b) ec r))
    (λ b.
    let n = eqb-false (t % 2) 0 b in
    let o : t % 2 ≡ 1 = omega arith in
    let q = odd_waits f h t i s xs o r in
    let g = q.0 in
    let p = pow-suc h in
    let p' = pow-suc f in
    let e : f + suc h ≡ 30 = omega arith in
    let u : (i - 2 ^ h + 2 ^ suc h) * 1024 ≤ length xs = omega arith in
    rw b (push_carried f h t i s (pushed f (suc h) (t / 2) (parent 0 (slot h s) cv) s) xs o q.0
    (pushed_waits f (suc h) (t / 2) (i - 2 ^ h) s xs (parent 0 (slot h s) cv) e ls (omega arith) u (carried h i s xs cv q.0 le q.1 ec) q.2)))

pub length-pushed : (f h t : ℕ) (s : List (List ℕ)) (cv : List ℕ) → length (pushed f h t cv s) ≡ length s
unfolding pushed
length-pushed zero h t s cv = refl
length-pushed (suc f) h t s cv =
    either (eqb (t % 2) 0)
    (λ b. rw b (length-set s h cv))
    (λ b. rw b (length-pushed f (suc h) (t / 2) s (parent 0 (slot h s) cv)))

-- ---- the end

root_halved : (t : ℕ) → t % 2 ≡ 0 → root_flag t ≡ root_flag (t / 2)
root_halved zero z = refl
root_halved (suc zero) z = absurd (omega arith)
root_halved (suc (suc t)) z = let e : suc (suc t) / 2 ≡ suc (t / 2) = omega arith in rw e

root_odd : (t : ℕ) → t % 2 ≡ 1 → root_flag t ≡ 0
root_odd zero o = absurd (omega arith)
root_odd (suc t) o = refl

-- cv is what the pieces from i on give, at most 2 ^ h of them, and t trees of 2 ^ h pieces stand before it
pub closed-tree : (f h t i : ℕ) (s : List (List ℕ)) (xs cv : List ℕ) → f + h ≡ 30 → (0 < t → i * 1024 < length xs) → length xs ≤ (i + 2 ^ h) * 1024
    → cv ≡ by_height h i (root_flag t) (drop (i * 1024) xs) → Waits f h t i s xs → closed f h t cv s ≡ by_height 30 0 8 xs
unfolding closed Waits joined_to
closed-tree zero h t i s xs cv ef lt le ec r =
    let e : h ≡ 30 = omega arith in
    ec ∙ rw (r.0, r.1, e)
closed-tree (suc f) h t i s xs cv ef lt le ec r =
    let p = pow-suc h in
    let e : f + suc h ≡ 30 = omega arith in
    either (eqb (t % 2) 0)
    (λ b.
    let z = eqb-true (t % 2) 0 b in
    let u : length (drop (i * 1024) xs) ≤ 2 ^ h * 1024 = omega (arith, length-drop (i * 1024) xs) in
    let le' : length xs ≤ (i + 2 ^ suc h) * 1024 = omega arith in
    let ec' : cv ≡ by_height (suc h) i (root_flag (t / 2)) (drop (i * 1024) xs)
    = ec ∙ ap (λ (o : ℕ). by_height h i o (drop (i * 1024) xs)) (root_halved t z) ∙ height_same h i (root_flag (t / 2)) (drop (i * 1024) xs) u in
    rw b (closed-tree f (suc h) (t / 2) i s xs cv e (λ k. lt (omega arith)) le' ec' (even_waits f h t i s xs z r)))
    (λ b.
    let n = eqb-false (t % 2) 0 b in
    let o : t % 2 ≡ 1 = omega arith in
    let q = odd_waits f h t i s xs o r in
    let g = q.0 in
    let l : i * 1024 < length xs = lt (omega arith) in
    let m : i ≡ i - 2 ^ h + 2 ^ h = omega arith in
    let u : (i - 2 ^ h + 2 ^ h) * 1024 < length xs = omega arith in
    let le' : length xs ≤ (i - 2 ^ h + 2 ^ suc h) * 1024 = omega arith in
    let l' : (i - 2 ^ h) * 1024 < length xs = omega arith in
    let ec₀ : cv ≡ by_height h (i - 2 ^ h + 2 ^ h) 0 (drop ((i - 2 ^ h + 2 ^ h) * 1024) xs)
    = ec ∙ ap (λ (o : ℕ). by_height h i o (drop (i * 1024) xs)) (root_odd t o) ∙ ap (λ (n : ℕ). by_height h n 0 (drop (n * 1024) xs)) m in
    let ec' : parent (root_flag (t / 2)) (slot h s) cv ≡ by_height (suc h) (i - 2 ^ h) (root_flag (t / 2)) (drop ((i - 2 ^ h) * 1024) xs)
    = ap (λ (a : List ℕ). parent (root_flag (t / 2)) a cv) q.1 ∙ ap (λ (a : List ℕ). parent (root_flag (t / 2)) (whole h (i - 2 ^ h) xs) a) ec₀
    ∙ height_join h (i - 2 ^ h) (root_flag (t / 2)) xs u in
    rw b (closed-tree f (suc h) (t / 2) (i - 2 ^ h) s xs (parent (root_flag (t / 2)) (slot h s) cv) e (λ k. l') le' ec' q.2))
