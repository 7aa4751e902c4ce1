-- The loops over marks, a law for each turn: the lists of missing blocks and of rows, and how many are held. Assumes nothing.
use mathlib.Core.Path.{◌≡◌, refl, sym, ◌∙◌, ap, ap₂}
use mathlib.Core.List.{List, [], ◌∷◌, ◌++◌}
use Prim.Native.Nat.{ℕ, zero, suc, ◌+◌, ◌≤◌, ◌<◌}
use native.Mathlib.Omega.{arith}
use native.Mathlib.Numerals.{add-one}
use native.Mathlib.Decide.{dec_lt, ℕ_discrete}
use lib.ListN.{length, get_or, take, drop, set, length-set, length-drop}
use mathlib.Core.Bool.{Bool, true, false, cond}
use Rattle.std.proofs.lemmas.List.Recursion.{is_count_by}
use Rattle.std.specs.List.{count_by}
use lib.Dec.{eqb}
use lib.Seq.{get_or-set_same, get_or-set_other, take-suc, take-suc-set, take_all, get_or-take, get_or-drop, length-take-le}
use Rattle.cauchy.proofs.decoding.Known.{length-held, length-missing, held_none, held_one, missing_at}
use Rattle.cauchy.specs.Decode.{missing, count, held, present}

-- one more of the list L is written
pub write_next : (L out : List ℕ) (e v : ℕ) → take e out ≡ take e L → get_or L e 0 ≡ v → e < length L → e < length out → take (e + 1) (set out e v) ≡ take (e + 1) L
write_next L out e v h hv hl ho =
    ap (λ (k : ℕ). take k (set out e v)) (add-one e) ∙ take-suc-set out e v ho ∙ ap₂ (λ (x : List ℕ) (y : ℕ). x ++ (y ∷ [])) h (sym hv)
    ∙ sym (ap (λ (k : ℕ). take k L) (add-one e) ∙ take-suc L e 0 hl)

pub missing_more : (c : ℕ) (ms : List ℕ) (j : ℕ) → j < length ms → get_or ms j 0 ≡ 0 → length (missing c (take (suc j) ms)) ≡ suc (length (missing c (take j ms)))
unfolding missing
missing_more c [] j h e = absurd (omega arith)
missing_more c (zero ∷ ms) zero h e = refl
missing_more c (zero ∷ ms) (suc j) h e = ap suc (missing_more (suc c) ms j (omega arith) e)
missing_more c (suc a ∷ ms) zero h e = absurd (omega arith)
missing_more c (suc a ∷ ms) (suc j) h e = missing_more (suc c) ms j (omega arith) e

pub missing-same : (c : ℕ) (ms : List ℕ) (j : ℕ) → 0 < get_or ms j 0 → length (missing c (take (suc j) ms)) ≡ length (missing c (take j ms))
unfolding missing
missing-same c [] j h = absurd (omega arith)
missing-same c (zero ∷ ms) zero h = absurd (omega arith)
missing-same c (zero ∷ ms) (suc j) h = ap suc (missing-same (suc c) ms j h)
missing-same c (suc a ∷ ms) zero h = refl
missing-same c (suc a ∷ ms) (suc j) h = missing-same (suc c) ms j h

pub present_more : (c : ℕ) (ms : List ℕ) (j : ℕ) → 0 < get_or ms j 0 → length (present c (take (suc j) ms)) ≡ suc (length (present c (take j ms)))
unfolding present
present_more c [] j h = absurd (omega arith)
present_more c (zero ∷ ms) zero h = absurd (omega arith)
present_more c (zero ∷ ms) (suc j) h = present_more (suc c) ms j h
present_more c (suc a ∷ ms) zero h = refl
present_more c (suc a ∷ ms) (suc j) h = ap suc (present_more (suc c) ms j h)

pub present-same : (c : ℕ) (ms : List ℕ) (j : ℕ) → get_or ms j 0 ≡ 0 → length (present c (take (suc j) ms)) ≡ length (present c (take j ms))
unfolding present
present-same c [] zero h = refl
present-same c [] (suc j) h = refl
present-same c (zero ∷ ms) zero h = refl
present-same c (zero ∷ ms) (suc j) h = present-same (suc c) ms j h
present-same c (suc a ∷ ms) zero h = absurd (omega arith)
present-same c (suc a ∷ ms) (suc j) h = ap suc (present-same (suc c) ms j h)

pub present-rank : (c : ℕ) (ms : List ℕ) (j : ℕ) → 0 < get_or ms j 0
    → (get_or (present c ms) (length (present c (take j ms))) 0 ≡ c + j) × (length (present c (take j ms)) < length (present c ms))
unfolding present
present-rank c [] j h = absurd (omega arith)
present-rank c (zero ∷ ms) zero h = absurd (omega arith)
present-rank c (zero ∷ ms) (suc j) h =
    let p : (get_or (present (suc c) ms) (length (present (suc c) (take j ms))) 0 ≡ suc c + j) × (length (present (suc c) (take j ms)) < length (present (suc c) ms)) = present-rank (suc c) ms j h in
    (p.0 ∙ omega arith, p.1)
present-rank c (suc a ∷ ms) zero h = (omega arith, omega arith)
present-rank c (suc a ∷ ms) (suc j) h =
    let p : (get_or (present (suc c) ms) (length (present (suc c) (take j ms))) 0 ≡ suc c + j) × (length (present (suc c) (take j ms)) < length (present (suc c) ms)) = present-rank (suc c) ms j h in
    (p.0 ∙ omega arith, omega (arith, p.1))

-- ---- the list of missing blocks, as the loop makes it

pub record Missed (n m : ℕ) (marks out : List ℕ) (e j : ℕ) : Type 0 where
  pub to : j ≤ n
  pub room : length out ≡ 32
  pub count : e ≡ length (missing m (take j (held (take n marks))))
  pub list : take e out ≡ take e (missing m (held (take n marks)))

pub missed_start : (n m : ℕ) (marks out : List ℕ) → length out ≡ 32 → Missed n m marks out 0 0
unfolding missing
missed_start n m marks out l = record { to = omega arith; room = l; count = refl; list = refl }

pub missed_held : (n m : ℕ) (marks out : List ℕ) (e j : ℕ) → n ≤ length marks → j < n → get_or marks j 0 ≡ 1 → Missed n m marks out e j → Missed n m marks out e (j + 1)
missed_held n m marks out e j hn hj o M =
    let h : 0 < get_or (held (take n marks)) j 0 = omega (arith, held_one (take n marks) j (get_or-take n marks j 0 hj ∙ o)) in
    record { to = omega arith; room = M.room; count = M.count ∙ sym (ap (λ (k : ℕ). length (missing m (take k (held (take n marks))))) (add-one j) ∙ missing-same m (held (take n marks)) j h); list = M.list }

pub record Lost (n m : ℕ) (marks : List ℕ) (e j : ℕ) : Type 0 where
  pub at : get_or (missing m (held (take n marks))) e 0 ≡ m + j
  pub under : e < length (missing m (held (take n marks)))

pub lost : (n m : ℕ) (marks out : List ℕ) (e j : ℕ) → n ≤ length marks → j < n → (get_or marks j 0 ≡ 1 → ⊥) → Missed n m marks out e j → Lost n m marks e j
lost n m marks out e j hn hj o M =
    let z : get_or (held (take n marks)) j 0 ≡ 0 = held_none (take n marks) j (λ q. o (sym (get_or-take n marks j 0 hj) ∙ q)) in
    let l : length (held (take n marks)) ≡ n = length-held (take n marks) ∙ length-take-le n marks hn in
    let p = missing_at m m (held (take n marks)) j (omega arith) z in
    record { at = ap (λ (k : ℕ). get_or (missing m (held (take n marks))) k 0) M.count ∙ p.0; under = omega (arith, M.count, p.1) }

pub missed_lost : (n m : ℕ) (marks out : List ℕ) (e j v : ℕ) → n ≤ length marks → j < n → (get_or marks j 0 ≡ 1 → ⊥) → length (missing m (held (take n marks))) ≤ 32 → v ≡ m + j
    → Missed n m marks out e j → Missed n m marks (set out e v) (e + 1) (j + 1)
missed_lost n m marks out e j v hn hj o h32 ev M =
    let z : get_or (held (take n marks)) j 0 ≡ 0 = held_none (take n marks) j (λ q. o (sym (get_or-take n marks j 0 hj) ∙ q)) in
    let l : length (held (take n marks)) ≡ n = length-held (take n marks) ∙ length-take-le n marks hn in
    let p : Lost n m marks e j = lost n m marks out e j hn hj o M in
    record {
      to = omega arith;
      room = length-set out e v ∙ M.room;
      count = add-one e ∙ ap suc M.count ∙ sym (ap (λ (k : ℕ). length (missing m (take k (held (take n marks))))) (add-one j) ∙ missing_more m (held (take n marks)) j (omega arith) z);
      list = write_next (missing m (held (take n marks))) out e v M.list (p.at ∙ sym ev) p.under (omega (arith, p.under, M.room));
    }

pub missed_end : (n m : ℕ) (marks out : List ℕ) (e j : ℕ) → n ≤ length marks → n ≤ j → Missed n m marks out e j
    → (e ≡ length (missing m (held (take n marks)))) × (take e out ≡ missing m (held (take n marks)))
missed_end n m marks out e j hn hj M =
    let l : length (held (take n marks)) ≡ n = length-held (take n marks) ∙ length-take-le n marks hn in
    let c : e ≡ length (missing m (held (take n marks))) = M.count ∙ ap (λ (x : List ℕ). length (missing m x)) (take_all j (held (take n marks)) (omega arith)) in
    (c, M.list ∙ take_all e (missing m (held (take n marks))) (omega arith))

-- ---- the list of rows

pub record Picked (n m : ℕ) (marks out : List ℕ) (e got k : ℕ) : Type 0 where
  pub room : length out ≡ 32
  pub most : got ≤ e
  pub count : got ≡ length (present 0 (take k (held (drop n marks))))
  pub list : take got out ≡ take got (present 0 (held (drop n marks)))
  pub words : (i : ℕ) → get_or out i 0 < 65536

pub picked_start : (n m : ℕ) (marks out : List ℕ) (e : ℕ) → length out ≡ 32 → ((i : ℕ) → get_or out i 0 < 65536) → Picked n m marks out e 0 0
unfolding present
picked_start n m marks out e l b = record { room = l; most = omega arith; count = refl; list = refl; words = b }

-- a word written among words
set-words : (out : List ℕ) (p v : ℕ) → p < length out → v < 65536 → ((i : ℕ) → get_or out i 0 < 65536) → (i : ℕ) → get_or (set out p v) i 0 < 65536
set-words out p v h hv b i = go (ℕ_discrete i p)
  where
    go : Dec (i ≡ p) → get_or (set out p v) i 0 < 65536
    go (yes e) = rw (e, get_or-set_same out p v 0 h) hv
    go (no ne) = rw (get_or-set_other out p i v 0 ne) (b i)

pub picked_more : (n m : ℕ) (marks out : List ℕ) (e got k : ℕ) → length marks ≡ n + m → e ≤ length (present 0 (held (drop n marks))) → got < e → Picked n m marks out e got k → k < m
picked_more n m marks out e got k l h g P = go (dec_lt k m)
  where
    ld : length (held (drop n marks)) ≡ m
    ld = length-held (drop n marks) ∙ length-drop n marks ∙ omega arith

    go : Dec (k < m) → k < m
    go (yes q) = q
    go (no q) = absurd (omega (arith, P.count ∙ ap (λ (x : List ℕ). length (present 0 x)) (take_all k (held (drop n marks)) (omega (arith, ld)))))

pub picked_skip : (n m : ℕ) (marks out : List ℕ) (e got k : ℕ) → (get_or marks (n + k) 0 ≡ 1 → ⊥) → Picked n m marks out e got k → Picked n m marks out e got (k + 1)
picked_skip n m marks out e got k o P =
    let z : get_or (held (drop n marks)) k 0 ≡ 0 = held_none (drop n marks) k (λ q. o (sym (get_or-drop n marks k 0) ∙ q)) in
    record { room = P.room; most = P.most; count = P.count ∙ sym (ap (λ (i : ℕ). length (present 0 (take i (held (drop n marks))))) (add-one k) ∙ present-same 0 (held (drop n marks)) k z); list = P.list; words = P.words }

pub picked-take : (n m : ℕ) (marks out : List ℕ) (e got k v : ℕ) → get_or marks (n + k) 0 ≡ 1 → got < e → e ≤ 32 → v ≡ k → v < 65536 → Picked n m marks out e got k → Picked n m marks (set out got v) e (got + 1) (k + 1)
picked-take n m marks out e got k v o g h32 ev hv P =
    let z : 0 < get_or (held (drop n marks)) k 0 = omega (arith, held_one (drop n marks) k (get_or-drop n marks k 0 ∙ o)) in
    let p = present-rank 0 (held (drop n marks)) k z in
    let at : get_or (present 0 (held (drop n marks))) got 0 ≡ 0 + k = ap (λ (i : ℕ). get_or (present 0 (held (drop n marks))) i 0) P.count ∙ p.0 in
    record {
      room = length-set out got v ∙ P.room;
      most = omega arith;
      count = add-one got ∙ ap suc P.count ∙ sym (ap (λ (i : ℕ). length (present 0 (take i (held (drop n marks))))) (add-one k) ∙ present_more 0 (held (drop n marks)) k z);
      list = write_next (present 0 (held (drop n marks))) out got v P.list (at ∙ omega arith) (omega (arith, P.count, p.1)) (omega (arith, P.room));
      words = set-words out got v (omega (arith, P.room)) hv P.words;
    }

-- ---- where as many data blocks are missing as there are, none is held

count_some : (hs : List ℕ) (j : ℕ) → get_or hs j 0 ≡ 1 → 0 < count hs
unfolding count
count_some [] j e = absurd (omega arith)
count_some (zero ∷ hs) zero e = absurd (omega arith)
count_some (zero ∷ hs) (suc j) e = count_some hs j e
count_some (suc h ∷ hs) j e = omega arith

pub all-missing : (n m e : ℕ) (marks : List ℕ) → length marks ≡ n + m → e ≡ length (missing m (held (take n marks))) → e ≡ n → (j : ℕ) → j < n → get_or marks j 0 ≡ 1 → ⊥
all-missing n m e marks l ee en j h one =
    let t : length (take n marks) ≡ n = length-take-le n marks (omega arith) in
    let o = count_some (held (take n marks)) j (held_one (take n marks) j (get_or-take n marks j 0 h ∙ one)) in
    omega (arith, length-missing m (held (take n marks)), length-held (take n marks))

-- ---- how many are held

pub holding-count : (ms : List ℕ) → count_by (λ (mark : ℕ). eqb mark 1) ms ≡ count (held ms)
unfolding count held
holding-count ms = sym (is_count_by (λ (l : List ℕ). count (held l)) (λ (mark : ℕ). eqb mark 1) refl (λ mark l. go (eqb mark 1) l) ms)
  where
    go : (t : Bool) (l : List ℕ) → count (cond t 1 0 ∷ held l) ≡ cond t (1 + count (held l)) (count (held l))
    go true l = omega arith
    go false l = refl
