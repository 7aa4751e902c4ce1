-- What a record holds of the text fed so far, that each byte keeps it, and that the finish is then the hash. Assumes nothing.
use Rattle.std.proofs.Common.{◌≡◌, ℕ, zero, suc, ◌+◌, ◌-◌, ◌*◌, ◌/◌, ◌%◌, ◌<◌, ◌≤◌, true, false, List, [], ◌∷◌, ◌++◌, length, take, drop, set, sym, refl, ap, ◌∙◌, append-nil, arith, length-append, length-drop, length-set, take_all, take-suc-set, le-ltb}
use Rattle.std.specs.Prelude.{Ok}
use borrow.Author.Tests.{eqb-false}
use lib.Dec.{eqb-suc-zero}
use lib.ListN.{length-replicate}
use lib.Seq.{drop-append-le, drop-append_seam, append_snoc}
use Rattle.blake3.specs.Tree.{piece, tree, hash}
use Rattle.blake3.specs.Stack.{pushed, root_flag, closed, is_full, settled, pieces_done, ending}
use Rattle.blake3.specs.Running.{most_fed, with_byte, with_bytes, fresh, finished}
use Rattle.blake3.specs.declared.running.Running.{Running}
use Rattle.blake3.proofs.Splits.{either}
use Rattle.blake3.proofs.FeedLaws.{full_told, settled_full, settled-not}
use Rattle.blake3.proofs.Heights.{by_height, whole, height_tree}
use Rattle.blake3.proofs.Waiting.{Waits, waits_more, waits_eq, waits_none, pushed_waits, length-pushed, closed-tree}

-- ---- a record and the text fed so far

pub record Holds (r : Running) (xs : List ℕ) : Type 0 where
  pub full_piece : length r.piece ≡ 1024
  pub full_stack : length r.stack ≡ 30
  pub size : length xs ≡ r.fed
  pub last : take (r.fed - pieces_done r.fed * 1024) r.piece ≡ drop (pieces_done r.fed * 1024) xs
  pub before : Waits 30 0 (pieces_done r.fed) (pieces_done r.fed) r.stack xs

pub holds_fresh : Holds fresh []
holds_fresh = record {
  full_piece = length-replicate {A = ℕ} 1024 0;
  full_stack = refl;
  size = refl;
  last = refl;
  before = waits_none 30 0 fresh.stack [];
}

-- where the piece has room, the next byte goes into it
room_told : (fed : ℕ) → is_full fed ≡ false → (fed - pieces_done fed * 1024 ≡ fed % 1024) × (pieces_done fed ≡ pieces_done (fed + 1))
room_told zero t = (refl, refl)
room_told (suc fed) t = let n = eqb-false (suc fed % 1024) 0 (rw (eqb-suc-zero fed) at t) in (omega arith, omega arith)

-- one byte more where the piece has room
byte_in : (r : Running) (xs : List ℕ) (x : ℕ) → is_full r.fed ≡ false → Holds r xs
    → Holds (with_byte r x) (xs ++ (x ∷ []))
unfolding with_byte
byte_in r xs x t w =
    let z = w.size in
    let lp = w.full_piece in
    let k = r.fed % 1024 in
    let q = room_told r.fed t in
    let e₁ = q.0 in
    let e₃ = q.1 in
    let e₂ : (r.fed + 1) - pieces_done (r.fed + 1) * 1024 ≡ suc (r.fed % 1024) = omega arith in
    let le : pieces_done r.fed * 1024 ≤ length xs = omega arith in
    let lt : r.fed % 1024 < length r.piece = omega arith in
    let a = length-append xs (x ∷ []) in
    record {
      full_piece = length-set r.piece (r.fed % 1024) x ∙ lp;
      full_stack = ap (λ (s : List (List ℕ)). length s) (sym (settled-not r.fed r.piece r.stack t)) ∙ w.full_stack;
      size = omega arith;
      last = ap (λ (m : ℕ). take m (set r.piece (r.fed % 1024) x)) e₂ ∙ take-suc-set r.piece (r.fed % 1024) x lt
          ∙ ap (λ (l : List ℕ). l ++ (x ∷ [])) (ap (λ (m : ℕ). take m r.piece) (sym e₁) ∙ w.last)
          ∙ sym (drop-append-le (pieces_done r.fed * 1024) xs (x ∷ []) le) ∙ ap (λ (m : ℕ). drop (m * 1024) (xs ++ (x ∷ []))) e₃;
      before = rw (← settled-not r.fed r.piece r.stack t) (waits_eq 30 0 r.stack (xs ++ (x ∷ [])) e₃ e₃ (waits_more 30 0 (pieces_done r.fed) (pieces_done r.fed) r.stack xs (x ∷ []) le w.before));
    }

-- one byte more where the piece is full: it goes to the stack first
byte_over : (r : Running) (xs : List ℕ) (x : ℕ) → is_full r.fed ≡ true → r.fed < most_fed → Holds r xs → Holds (with_byte r x) (xs ++ (x ∷ []))
unfolding with_byte whole by_height
byte_over r xs x t small w =
    let f = full_told r.fed t in
    let z = w.size in
    let lp = w.full_piece in
    let ls = w.full_stack in
    let n = r.fed / 1024 - 1 in
    let e₀ : pieces_done r.fed ≡ r.fed / 1024 - 1 = omega arith in
    let e₁ : r.fed - pieces_done r.fed * 1024 ≡ 1024 = omega arith in
    let e₂ : (r.fed + 1) - pieces_done (r.fed + 1) * 1024 ≡ suc (r.fed % 1024) = omega arith in
    let e₃ : r.fed / 1024 - 1 + 1 ≡ pieces_done (r.fed + 1) = omega arith in
    let e₄ : pieces_done (r.fed + 1) * 1024 ≡ length xs = omega arith in
    let lt : r.fed % 1024 < length r.piece = omega arith in
    let a = length-append xs (x ∷ []) in
    let cut : length (drop ((r.fed / 1024 - 1) * 1024) xs) ≤ 1024 = omega (arith, length-drop ((r.fed / 1024 - 1) * 1024) xs) in
    let all : length r.piece ≤ 1024 = omega arith in
    let same : r.piece ≡ take 1024 (drop ((r.fed / 1024 - 1) * 1024) xs)
    = sym (take_all 1024 r.piece all) ∙ ap (λ (m : ℕ). take m r.piece) (sym e₁) ∙ w.last
    ∙ ap (λ (m : ℕ). drop (m * 1024) xs) e₀ ∙ sym (take_all 1024 (drop ((r.fed / 1024 - 1) * 1024) xs) cut) in
    let cv = piece (r.fed / 1024 - 1) 0 r.piece in
    let es : pushed 30 0 (r.fed / 1024 - 1) cv r.stack ≡ settled r.fed r.piece r.stack = settled_full r.fed r.piece r.stack t refl refl in
    let w₀ : Waits 30 0 (r.fed / 1024 - 1) (r.fed / 1024 - 1) r.stack xs = waits_eq 30 0 r.stack xs e₀ e₀ w.before in
    let w₁ : Waits 30 0 (r.fed / 1024 - 1 + 1) (r.fed / 1024 - 1 + 1) (pushed 30 0 (r.fed / 1024 - 1) cv r.stack) xs
    = pushed_waits 30 0 (r.fed / 1024 - 1) (r.fed / 1024 - 1) r.stack xs cv refl ls (omega arith) (omega arith) (ap (λ (l : List ℕ). piece (r.fed / 1024 - 1) 0 l) same) w₀ in
    let le : (r.fed / 1024 - 1 + 1) * 1024 ≤ length xs = omega arith in
    let w₂ = waits_more 30 0 (r.fed / 1024 - 1 + 1) (r.fed / 1024 - 1 + 1) (pushed 30 0 (r.fed / 1024 - 1) cv r.stack) xs (x ∷ []) le w₁ in
    let first : take (r.fed % 1024) r.piece ≡ [] = ap (λ (m : ℕ). take m r.piece) f.1 in
    record {
      full_piece = length-set r.piece (r.fed % 1024) x ∙ lp;
      full_stack = ap (λ (s : List (List ℕ)). length s) (sym es) ∙ length-pushed 30 0 (r.fed / 1024 - 1) r.stack cv ∙ ls;
      size = omega arith;
      last = ap (λ (m : ℕ). take m (set r.piece (r.fed % 1024) x)) e₂ ∙ take-suc-set r.piece (r.fed % 1024) x lt
          ∙ ap (λ (l : List ℕ). l ++ (x ∷ [])) first ∙ sym (ap (λ (m : ℕ). drop m (xs ++ (x ∷ []))) e₄ ∙ drop-append_seam xs (x ∷ []));
      before = rw (← es) (waits_eq 30 0 (pushed 30 0 (r.fed / 1024 - 1) cv r.stack) (xs ++ (x ∷ [])) e₃ e₃ w₂);
    }

byte_holds : (r : Running) (xs : List ℕ) (x : ℕ) → r.fed < most_fed → Holds r xs → Holds (with_byte r x) (xs ++ (x ∷ []))
byte_holds r xs x small w =
    either (is_full r.fed) (λ t. byte_over r xs x t small w) (λ t. byte_in r xs x t w)

pub bytes_hold : (p : List ℕ) (r : Running) (xs : List ℕ) → length xs + length p ≤ most_fed → Holds r xs → Holds (with_bytes r p) (xs ++ p)
unfolding with_bytes
bytes_hold [] r xs le w = rw append-nil w
bytes_hold (x ∷ p) r xs le w =
    let z = w.size in
    let a = length-append xs (x ∷ []) in
    let le' : length (xs ++ (x ∷ [])) + length p ≤ most_fed = omega arith in
    rw (← append_snoc xs x p) (bytes_hold p (with_byte r x) (xs ++ (x ∷ [])) le' (byte_holds r xs x (omega arith) w))

-- ---- the finish

pub finish_holds : (r : Running) (xs : List ℕ) → length xs ≤ most_fed → Holds r xs → finished r ≡ Ok (hash xs)
unfolding finished ending hash by_height
finish_holds r xs le w =
    let z = w.size in
    let t = pieces_done r.fed in
    let le' : r.fed ≤ most_fed = omega arith in
    let e : closed 30 0 t (piece t (root_flag t) (take (r.fed - t * 1024) r.piece)) r.stack ≡ tree (length xs) 0 8 xs
    = closed-tree 30 0 t t r.stack xs _ refl (λ k. omega arith) (omega arith) (ap (λ (l : List ℕ). piece t (root_flag t) l) w.last) w.before
    ∙ height_tree 30 0 8 xs (omega arith) in
    rw (le-ltb most_fed r.fed le', e)
