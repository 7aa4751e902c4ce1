-- Laws of feeding and finishing, which the proofs of the running hash's methods cite: a full piece settled, a part that
-- fits into the piece, the end. Assumes nothing.
use Rattle.std.proofs.Common.{◌≡◌, ℕ, suc, ◌+◌, ◌-◌, ◌*◌, ◌/◌, ◌%◌, ◌<◌, ◌≤◌, Bool, true, false, not, ◌&&◌, eqb, List, [], ◌∷◌, ◌++◌, length, take, drop, set, sym, refl, ap, ◌∙◌, append_assoc, add-zero, arith, length-set, take-append-drop, drop-drop, take-suc-set, drop-set-lt, ne_eqb, eqb-true}
use borrow.Author.Tests.{eqb-false, not-true}
use borrow.Rule.Slice.PartMut.{put_mid}
use Rattle.little.specs.Parts.{put}
use Rattle.little.proofs.Laws.{put_laws}
use Rattle.blake3.specs.Tree.{piece}
use Rattle.blake3.specs.Stack.{pushed, closed, root_flag, is_full, settled, pieces_done, ending}
use Rattle.blake3.specs.Running.{with_byte, with_bytes}
use Rattle.blake3.specs.declared.running.Running.{Running}
use Rattle.blake3.proofs.RunningLaws.{with_both}

-- ---- a full piece

and-told : (a b : Bool) → (a && b) ≡ true → (a ≡ true) × (b ≡ true)
and-told true b h = (refl, h)
and-told false b h = let z : ◌≡◌ {A = ℕ} 0 1 = cc in absurd (omega arith)

pub full_told : (fed : ℕ) → is_full fed ≡ true → (0 < fed) × (fed % 1024 ≡ 0)
full_told fed t =
    let q = and-told (not (eqb fed 0)) (eqb (fed % 1024) 0) t in
    let n = eqb-false fed 0 (not-true (eqb fed 0) q.0) in
    let z = eqb-true (fed % 1024) 0 q.1 in
    (omega arith, z)

pub settled_full : (fed : ℕ) (bytes : List ℕ) (s : List (List ℕ)) {cv : List ℕ} {r : List (List ℕ)} → is_full fed ≡ true → cv ≡ piece (fed / 1024 - 1) 0 bytes
    → r ≡ pushed 30 0 (fed / 1024 - 1) cv s → r ≡ settled fed bytes s
unfolding settled
settled_full fed bytes s t ec er = rw (t, er, ec)

pub settled-not : (fed : ℕ) (bytes : List ℕ) (s : List (List ℕ)) → is_full fed ≡ false → s ≡ settled fed bytes s
unfolding settled
settled-not fed bytes s t = rw t

and-false : (a : Bool) → (a && false) ≡ false
and-false true = refl
and-false false = refl

not_full : (fed : ℕ) → 0 < fed % 1024 → is_full fed ≡ false
not_full fed pos =
    let n : fed % 1024 ≡ 0 → ⊥ = λ z. absurd (omega arith) in
    rw (ne_eqb (fed % 1024) 0 n) (and-false (not (eqb fed 0)))

-- ---- a part that fits into the piece

abbrev state : List ℕ → ℕ → List (List ℕ) → Running
state xs fed s = record { piece = xs; fed = fed; stack = s }

put_nothing : (xs : List ℕ) (k : ℕ) → put xs k [] ≡ xs
put_nothing xs k = take-append-drop k xs

put-one_more : (xs : List ℕ) (k x : ℕ) (p : List ℕ) → k < length xs → put (set xs k x) (k + 1) p ≡ put xs k (x ∷ p)
put-one_more xs k x p lt =
    let e : k + 1 ≡ suc k = omega arith in
    let l : k < suc k = omega arith in
    let n : suc k + length p ≡ k + suc (length p) = omega arith in
    let d : drop (length p) (drop (suc k) xs) ≡ drop (suc (length p)) (drop k xs)
    = drop-drop (length p) (suc k) xs ∙ ap (λ (m : ℕ). drop m xs) n ∙ sym (drop-drop (suc (length p)) k xs) in
    rw (e, take-suc-set xs k x lt, drop-set-lt (suc k) xs k x l, d)
    (append_assoc (take k xs) (x ∷ []) (p ++ drop (suc (length p)) (drop k xs)))

state-eq : {xs xs' : List ℕ} {s s' : List (List ℕ)} {fed fed' : ℕ} → xs ≡ xs' → fed ≡ fed' → s ≡ s' → state xs fed s ≡ state xs' fed' s'
state-eq ex ef es = λ i. record { piece = ex i; fed = ef i; stack = es i }

-- bytes after the first one of a part: the piece is neither empty nor full before each of them
run : (p xs : List ℕ) (s : List (List ℕ)) (k fed : ℕ) → length xs ≡ 1024 → 0 < k → k + length p ≤ 1024 → (0 < length p → fed % 1024 ≡ k)
    → with_bytes (state xs fed s) p ≡ state (put xs k p) (fed + length p) s
unfolding with_bytes with_byte
run [] xs s k fed lx pos le at = state-eq (sym (put_nothing xs k)) (sym (add-zero fed)) refl
run (x ∷ p) xs s k fed lx pos le at =
    let e : fed % 1024 ≡ k = at (omega arith) in
    let lt : k < length xs = omega arith in
    let f : 0 < fed % 1024 = omega arith in
    let n : is_full fed ≡ false = not_full fed f in
    let ls = length-set xs k x in
    let more : 0 < length p → (fed + 1) % 1024 ≡ k + 1 = λ h. omega arith in
    let ih = run p (set xs k x) s (k + 1) (fed + 1) (omega arith) (omega arith) (omega arith) more in
    let m : fed + 1 + length p ≡ fed + suc (length p) = omega arith in
    ap (λ (r : Running). with_bytes r p) (state-eq (ap (λ (j : ℕ). set xs j x) e) refl (sym (settled-not fed xs s n)))
    ∙ ih ∙ state-eq (put-one_more xs k x p lt) m refl

-- a whole part, of one byte or more
run_from : (p xs : List ℕ) (s : List (List ℕ)) (fed : ℕ) → length xs ≡ 1024 → 0 < length p → fed % 1024 + length p ≤ 1024
    → with_bytes (state xs fed s) p ≡ state (put xs (fed % 1024) p) (fed + length p) (settled fed xs s)
unfolding with_bytes with_byte
run_from [] xs s fed lx pos le = absurd (omega arith)
run_from (x ∷ p) xs s fed lx pos le =
    let k = fed % 1024 in
    let lt : fed % 1024 < length xs = omega arith in
    let ls = length-set xs (fed % 1024) x in
    let more : 0 < length p → (fed + 1) % 1024 ≡ fed % 1024 + 1 = λ h. omega arith in
    let ih = run p (set xs (fed % 1024) x) (settled fed xs s) (fed % 1024 + 1) (fed + 1) (omega arith) (omega arith) (omega arith) more in
    let m : fed + 1 + length p ≡ fed + suc (length p) = omega arith in
    ih ∙ state-eq (put-one_more xs (fed % 1024) x p lt) m refl

pub piece_long : (xs q ys : List ℕ) (fed : ℕ) → length xs ≡ 1024 → fed % 1024 + length q ≤ 1024 → ys ≡ q
    → length (put_mid (fed % 1024) (fed % 1024 + length q - fed % 1024) xs ys) ≡ 1024
piece_long xs q ys fed lx room ey =
    let n : fed % 1024 + length q - fed % 1024 ≡ length q = omega arith in
    rw (n, ey) (put_laws.length-put xs (fed % 1024) q (omega arith) ∙ lx)

-- a turn of the loop: a part of the rest, q, has gone into the settled record's piece, and what is later is to come
pub fed_more : (r r' final : Running) (q ys later rest : List ℕ) → length r.piece ≡ 1024 → 0 < length q → r.fed % 1024 + length q ≤ 1024 → rest ≡ q ++ later
    → (r'.piece ≡ r.piece) × (r'.fed ≡ r.fed) → r'.stack ≡ settled r.fed r.piece r.stack → ys ≡ q → with_bytes r rest ≡ final
    → with_bytes (state (put_mid (r'.fed % 1024) (r'.fed % 1024 + length q - r'.fed % 1024) r'.piece ys) (r'.fed + length q) r'.stack) later ≡ final
fed_more r r' final q ys later rest lx pos room cut same es ey inv =
    let n : r'.fed % 1024 + length q - r'.fed % 1024 ≡ length q = omega arith in
    let here : state (put_mid (r'.fed % 1024) (r'.fed % 1024 + length q - r'.fed % 1024) r'.piece ys) (r'.fed + length q) r'.stack ≡ with_bytes r q
    = rw (n, ey, same.0, same.1, es) (sym (run_from q r.piece r.stack r.fed lx pos room)) in
    ap (λ (s : Running). with_bytes s later) here ∙ sym (with_both r q later) ∙ ap (λ (l : List ℕ). with_bytes r l) (sym cut) ∙ inv

pub fed_end : (r final : Running) (rest : List ℕ) → length rest ≡ 0 → with_bytes r rest ≡ final → r ≡ final
unfolding with_bytes
fed_end r final [] e inv = inv
fed_end r final (x ∷ rest) e inv = absurd (omega arith)

-- ---- the finish

pub ending-made : (fed t : ℕ) (bytes : List ℕ) (s : List (List ℕ)) {cv r : List ℕ} {root : ℕ} → t ≡ pieces_done fed → root ≡ root_flag t
    → cv ≡ piece t root (take (fed - t * 1024) bytes) → r ≡ closed 30 0 t cv s → r ≡ ending fed bytes s
unfolding ending
ending-made fed t bytes s et eo ec er = rw (er, ec, eo, et)
