-- What lies in the store where nothing is held has no part in what a block request, a turn, a release or a prefix answers.
-- Assumes nothing.
use Prim.Native.Nat.{ℕ, zero, suc, ◌+◌, ◌*◌, ◌<◌, ◌≤◌}
use mathlib.Core.Path.{◌≡◌, refl, sym, ap, ap₂, ◌∙◌}
use mathlib.Core.Bool.{Bool, true, false, cond, not, ◌&&◌}
use mathlib.Core.Logic.{◌⊎◌, inl, inr, ⊎_elim}
use mathlib.Core.List.{List, [], ◌∷◌, ◌++◌}
use native.Mathlib.Nat.{suc-mul}
use native.Mathlib.Omega.{arith}
use borrow.Author.Tests.{eqb-true, ltb-false, leb-false, lt-ltb, not-false}
use lib.Dec.{ltb}
use lib.ListN.{length, get_or, take, length-take}
use lib.Seq.{get_or-take, take-add}
use Rattle.little.specs.Parts.{put, block}
use Rattle.little.proofs.Laws.{test_laws}
use Rattle.cauchy.specs.Decode.{rank, decode}
use Rattle.cauchy.specs.Calls.{rebuilt_scratch}
use Rattle.cauchy.proofs.Laws.{code_laws, scratch_laws}
use Rattle.cauchy.proofs.Theorems.{theorems}
use Rattle.sfc.specs.answer.Numbers.{Check, checked, passes, Passed}
use Rattle.sfc.specs.answer.Places.{number, place, unverified_block}
use Rattle.sfc.specs.session.Marks.{is_held, held_count}
use Rattle.sfc.specs.session.Session.{Session}
use Rattle.sfc.specs.session.Lent.{lent_wrong, Lent, rebuild_wrong, columns_wrong}
use Rattle.sfc.specs.give.Prefix.{leading, prefix_blocks, prefix_given}
use Rattle.sfc.specs.give.HandOut.{lent_after}
use Rattle.sfc.specs.give.Turns.{turn_count, turn, piece_of, joined_bytes, joined_of, release}
use Rattle.sfc.specs.give.Block.{block_given, block_lent, block_checks, block_request}
use Rattle.sfc.specs.demand.Demand3.{SameHeld}
use Rattle.sfc.specs.declared.format.header.Head.{Head}
use Rattle.sfc.specs.declared.answer.reason.Reason.{Reason}
use Rattle.sfc.proofs.session.SessionLaws.{right_lent}
use Rattle.sfc.proofs.session.HeldLaws.{decode-held}
use Rattle.sfc.proofs.give.TurnLaws.{right_columns}
use Rattle.sfc.proofs.give.ColumnLaws.{count_fits}
use Rattle.sfc.proofs.give.GivenLaws.{lent_right}
use Rattle.std.specs.Prelude.{Ok, Err}

-- what comes after checks matters only where they all pass
checked-same : {A : Type 0} (cs : List Check) (refuse : Reason → A) (a b : A) → (Passed cs → a ≡ b) → checked cs refuse a ≡ checked cs refuse b
checked-same [] refuse a b f = f tt
checked-same ((true, k) ∷ cs) refuse a b f = refl
checked-same ((false, k) ∷ cs) refuse a b f = checked-same cs refuse a b (λ p. f (refl, p))

and-false : (a b : Bool) → (a && b) ≡ false → (a ≡ false) ⊎ (b ≡ false)
and-false true b e = inr e
and-false false b e = inl refl

module _ (h : Head) (x y : Session) (alike : SameHeld h x y) (l : Lent) where
  same-wrong : rebuild_wrong h y.store y.marks l ≡ rebuild_wrong h x.store x.marks l
  unfolding rebuild_wrong lent_wrong
  same-wrong = rw (alike.marks, alike.store_long)

  module _ (right : rebuild_wrong h x.store x.marks l ≡ false) where
    same-decode : h.n ≤ held_count x.marks → (j : ℕ) → j < h.n
        → decode h.n h.m h.s x.marks y.store j ≡ decode h.n h.m h.s x.marks x.store j
    same-decode v j q =
        let r = right_lent h.size h.n h.m h.s x.store x.marks (lent_right h x.store x.marks l right) in
        theorems.blind h.n h.m h.s x.marks y.store x.store r.shape.s_even r.marks_long (omega (arith)) alike.blocks j q

  same-given : (j : ℕ) → Passed (block_checks h x.store x.marks j l) → block_given h y.store x.marks j ≡ block_given h x.store x.marks j
  same-given j p =
      let q : j < h.n = leb-false h.n j p.1.0 in
      ⊎_elim
      (λ (a : ltb (held_count x.marks) h.n ≡ false). same-decode p.0 (ltb-false (held_count x.marks) h.n a) j q)
      (λ (a : not (is_held (get_or x.marks j 0)) ≡ false).
      let o : get_or x.marks j 0 ≡ 1 = eqb-true (get_or x.marks j 0) 1 (not-false (is_held (get_or x.marks j 0)) a) in
      decode-held h.n h.m h.s x.marks y.store j o ∙ alike.blocks j (omega arith) o ∙ sym (decode-held h.n h.m h.s x.marks x.store j o))
      (and-false (ltb (held_count x.marks) h.n) (not (is_held (get_or x.marks j 0))) p.1.1.1.0)

  pub block_unseen : (j : ℕ) → block_request h y.store y.marks j l ≡ block_request h x.store x.marks j l
  unfolding block_request
  block_unseen j =
      rw (same-wrong, alike.marks)
      (ap (λ (o : List ℕ). record {
        answer = checked (block_checks h x.store x.marks j l) Err (Ok (unverified_block (number j) (place (j * h.s))));
        lent = lent_after (passes (block_lent h x.store x.marks j l)) l o;
      })
      (checked-same (block_checks h x.store x.marks j l) (λ (r : Reason). l.output) _ _ (λ p. ap (put l.output 0) (same-given j p))))

-- ---- turns and a release

module _ (h : Head) (x y : Session) (alike : SameHeld h x y) where
  same-columns : (scratch : List ℕ) (f : ℕ) → columns_wrong h.size h.n h.m h.s y.store y.marks scratch f
      ≡ columns_wrong h.size h.n h.m h.s x.store x.marks scratch f
  unfolding columns_wrong lent_wrong
  same-columns scratch f = rw (alike.marks, alike.store_long)

  same-rebuilt : (scratch : List ℕ) (f b : ℕ) → columns_wrong h.size h.n h.m h.s x.store x.marks scratch f ≡ false → h.n ≤ held_count x.marks
      → rebuilt_scratch h.n h.m h.s x.marks y.store f (turn_count h x.marks f b) scratch
      ≡ rebuilt_scratch h.n h.m h.s x.marks x.store f (turn_count h x.marks f b) scratch
  same-rebuilt scratch f b e v =
      let r = right_columns h.size h.n h.m h.s x.store x.marks scratch f e in
      scratch_laws.blind_rebuilt h.n h.m h.s x.marks y.store x.store f (turn_count h x.marks f b) scratch
      r.right.shape.s_even r.right.marks_long v (count_fits h x.marks f b r.beside.most) alike.blocks

  pub turn_unseen : (scratch numbers : List ℕ) (f b : ℕ) → turn h y.store y.marks scratch numbers f b ≡ turn h x.store x.marks scratch numbers f b
  unfolding turn
  turn_unseen scratch numbers f b = go (columns_wrong h.size h.n h.m h.s x.store x.marks scratch f) refl
    where
      go : (t : Bool) → columns_wrong h.size h.n h.m h.s x.store x.marks scratch f ≡ t
          → turn h y.store y.marks scratch numbers f b ≡ turn h x.store x.marks scratch numbers f b
      go true w = rw (same-columns scratch f, w)
      go false w =
          ⊎_elim (λ (v : held_count x.marks < h.n). rw (same-columns scratch f, alike.marks, w, lt-ltb (held_count x.marks) h.n v))
          (λ (v : h.n ≤ held_count x.marks). rw (same-columns scratch f, alike.marks, w, same-rebuilt scratch f b w v)) (test_laws.below_or (held_count x.marks) h.n)

  -- of the store only held blocks are joined
  same-piece : (scratch : List ℕ) (j : ℕ) → j < h.n → piece_of h.s y.store x.marks scratch j ≡ piece_of h.s x.store x.marks scratch j
  same-piece scratch j q = go (is_held (get_or x.marks j 0)) refl
    where
      go : (t : Bool) → is_held (get_or x.marks j 0) ≡ t
          → cond t (block h.s y.store j) (block h.s scratch (rank j x.marks)) ≡ cond t (block h.s x.store j) (block h.s scratch (rank j x.marks))
      go true e = alike.blocks j (omega arith) (eqb-true (get_or x.marks j 0) 1 e)
      go false e = refl

  same-joined : (scratch : List ℕ) → joined_of h y.store x.marks scratch ≡ joined_of h x.store x.marks scratch
  unfolding joined_bytes
  same-joined scratch = ap (take h.size) (code_laws.joined_ext _ _ h.n (same-piece scratch))

  pub release_unseen : (scratch : List ℕ) (f : ℕ) (out : List ℕ) → release h y.store y.marks scratch f out ≡ release h x.store x.marks scratch f out
  unfolding release
  release_unseen scratch f out = rw (same-columns scratch f, alike.marks, same-joined scratch)

-- ---- the prefix

-- the marks that it counts say held
leading_is_held : (marks : List ℕ) (j : ℕ) → j < leading marks → (j < length marks) × (get_or marks j 0 ≡ 1)
unfolding leading
leading_is_held [] j q = absurd (omega arith)
leading_is_held (k ∷ marks) j q = go (is_held k) refl j q (leading_is_held marks)
  where
    go : (b : Bool) → is_held k ≡ b → (j : ℕ) → j < cond b (1 + leading marks) 0 → ((i : ℕ) → i < leading marks → (i < length marks) × (get_or marks i 0 ≡ 1))
        → (j < suc (length marks)) × (get_or (k ∷ marks) j 0 ≡ 1)
    go true e zero q rest = (omega arith, eqb-true k 1 e)
    go true e (suc j) q rest = let r = rest j (omega arith) in (omega arith, r.1)
    go false e j q rest = absurd (omega arith)

front_same : (s k : ℕ) (a b : List ℕ) → ((j : ℕ) → j < k → block s a j ≡ block s b j) → take (k * s) a ≡ take (k * s) b
front_same s zero a b same = let z : 0 * s ≡ 0 = omega arith in rw z
front_same s (suc k) a b same =
    let e : suc k * s ≡ k * s + s = omega (arith, suc-mul k s) in
    rw e (take-add (k * s) s a ∙ ap₂ ◌++◌ (front_same s k a b (λ j q. same j (omega arith))) (same k (omega arith)) ∙ sym (take-add (k * s) s b))

pub prefix_unseen : (h : Head) (x y : Session) → SameHeld h x y → (out : List ℕ) → prefix_given h y.store y.marks out ≡ prefix_given h x.store x.marks out
unfolding prefix_given lent_wrong
prefix_unseen h x y alike out =
    rw (
      alike.marks,
      alike.store_long,
      front_same h.s (prefix_blocks h x.marks) y.store x.store
          (λ j q.
          let r = leading_is_held (take h.n x.marks) j q in
          let d : j < h.n = omega (arith, r.0, length-take h.n x.marks) in
          alike.blocks j (omega arith) (sym (get_or-take h.n x.marks j 0 d) ∙ r.1)),
    )
