-- What an offer comes to, by its cases; what 71 and the chunk's checks let through. Assumes nothing.
use Prim.Native.Nat.{ℕ, zero, suc, ◌+◌, ◌-◌, ◌*◌, ◌<◌, ◌≤◌}
use mathlib.Core.Path.{◌≡◌, refl, sym, ap, ap₂, ◌∙◌, subst}
use mathlib.Core.Bool.{Bool, true, false, not, ◌&&◌}
use mathlib.Core.List.{List, [], ◌∷◌, ◌++◌}
use native.Mathlib.Omega.{arith}
use borrow.Author.Tests.{eq-eqb, ne_eqb, eqb-true, ltb-false, leb-true, leb-false, not-false}
use lib.Dec.{T, eqb, leb}
use lib.ListN.{length, set, take, drop, length-replicate}
use Rattle.little.specs.Parts.{part, put, put_block}
use Rattle.little.proofs.Laws.{put_laws, part_laws, block_laws, test_laws}
use Rattle.little.specs.Runs.{zeros, same}
use Rattle.sfc.specs.answer.Numbers.{NumbersAre, Check, checked, verdict, number_of, reason_of}
use Rattle.sfc.specs.session.Lent.{marks_wrong, lent_wrong}
use Rattle.sfc.specs.format.Chunk.{index_of, payload_length, payload_of, chunk_length, chunk_checks}
use Rattle.sfc.specs.answer.Places.{number, place}
use Rattle.sfc.specs.session.Tallies.{tally_full, counted_refusal, counted}
use Rattle.sfc.specs.session.Session.{Session, mark, block_of, session_wrong, mark_checks, welcomed, verdict_of, settled, after_verdict, after}
use Rattle.sfc.specs.inner.Steps.{Stepped, stepped, Welcome, Judged, judged_of, judged}
use Rattle.sfc.specs.session.Right.{RightLent}
use Rattle.sfc.specs.declared.format.header.Head.{Head}
use Rattle.sfc.specs.declared.session.tallies.Tallies.{Tallies}
use Rattle.sfc.specs.declared.answer.reason.Reason.{Reason}
use Rattle.sfc.specs.declared.answer.reason.Reason.TheVariants.{Lent, TallyFull, Conflict, Barred}
use Rattle.sfc.specs.declared.session.offer.Verdict.{Verdict}
use Rattle.sfc.specs.declared.session.offer.Verdict.TheVariants.{Fresh, Repeat, Refused}
use Rattle.sfc.specs.declared.session.offer.Step.{Step}
use Rattle.sfc.specs.declared.session.offer.Step.TheVariants.{Laid, Copy, Differs, Barred as StepBarred}
use Rattle.sfc.proofs.answer.CheckLaws.{passed, good_then, refused_then}
use Rattle.sfc.proofs.session.MarkLaws.{right_marks, fit_at}
use Rattle.std.specs.Prelude.{Err}

-- ---- what 71 lets through

pub right_lent : (size n m s : ℕ) (store marks : List ℕ) → lent_wrong size n m s store marks ≡ false → RightLent size n m s store marks
unfolding lent_wrong
right_lent size n m s store marks e =
    let a = test_laws.or-false (marks_wrong size n m s marks) (not (eqb (length store) ((n + m) * s))) e in
    let r = right_marks size n m s marks a.0 in
    record {
      shape = r.shape;
      store_long = eqb-true (length store) ((n + m) * s) (not-false (eqb (length store) ((n + m) * s)) a.1);
      marks_long = r.marks_long;
      fit = r.fit;
    }

pub lent_marks : (size n m s : ℕ) (store marks : List ℕ) → marks_wrong size n m s marks ≡ true → true ≡ lent_wrong size n m s store marks
unfolding lent_wrong
lent_marks size n m s store marks e = rw e

pub lent_store : (size n m s : ℕ) (store marks : List ℕ) → marks_wrong size n m s marks ≡ false
    → not (eqb (length store) ((n + m) * s)) ≡ lent_wrong size n m s store marks
unfolding lent_wrong
lent_store size n m s store marks e = rw e

-- ---- a block's step, by its cases

abbrev made : List ℕ → Step → Stepped
made b t = record { block = b; step = t }

pub step_laid : (k : ℕ) (b p : List ℕ) → k ≡ 0 → made p Laid ≡ stepped k b p
unfolding stepped
step_laid k b p e = rw (eq-eqb k 0 e)

pub step_copy : (k : ℕ) (b p : List ℕ) → k ≡ 1 → same b p ≡ true → made b Copy ≡ stepped k b p
unfolding stepped
step_copy k b p e f = rw (ne_eqb k 0 (λ z. omega arith), eq-eqb k 1 e, f)

pub step_differs : (k : ℕ) (b p : List ℕ) → k ≡ 1 → same b p ≡ false → made (zeros (length b)) Differs ≡ stepped k b p
unfolding stepped
step_differs k b p e f = rw (ne_eqb k 0 (λ z. omega arith), eq-eqb k 1 e, f)

pub step_barred : (k : ℕ) (b p : List ℕ) → (k ≡ 0 → ⊥) → (k ≡ 1 → ⊥) → made b StepBarred ≡ stepped k b p
unfolding stepped
step_barred k b p e f = rw (ne_eqb k 0 e, ne_eqb k 1 f)

-- what a step tells of mark, block and payload
abbrev pub Told : ℕ → List ℕ → List ℕ → Stepped → Type 0
Told k b p s = told_of s.step k b p s.block
  where
    told_of : Step → ℕ → List ℕ → List ℕ → List ℕ → Type 0
    told_of Laid k b p b' = (k ≡ 0) × (b' ≡ p)
    told_of Copy k b p b' = (k ≡ 1) × (same b p ≡ true) × (b' ≡ b)
    told_of Differs k b p b' = (k ≡ 1) × (same b p ≡ false) × (b' ≡ zeros (length b))
    told_of StepBarred k b p b' = (k ≡ 0 → ⊥) × (k ≡ 1 → ⊥) × (b' ≡ b)

told-all : (k : ℕ) (b p : List ℕ) → Told k b p (stepped k b p)
told-all zero b p = subst (Told 0 b p) (step_laid 0 b p refl) (refl, refl)
told-all (suc zero) b p = go (same b p) refl
  where
    go : (t : Bool) → same b p ≡ t → Told 1 b p (stepped 1 b p)
    go true e = subst (Told 1 b p) (step_copy 1 b p refl e) (refl, e, refl)
    go false e = subst (Told 1 b p) (step_differs 1 b p refl e) (refl, e, refl)
told-all (suc (suc k)) b p =
    let z : suc (suc k) ≡ 0 → ⊥ = λ e. omega arith in
    let o : suc (suc k) ≡ 1 → ⊥ = λ e. omega arith in
    subst (Told (suc (suc k)) b p) (step_barred (suc (suc k)) b p z o) (z, o, refl)

pub told : (k : ℕ) (b p b' : List ℕ) (t : Step) → made b' t ≡ stepped k b p → Told k b p (made b' t)
told k b p b' t e = subst (Told k b p) (sym e) (told-all k b p)

-- ---- an offer past 71, 43 and 30 to 40

pub record Facts (h : Head) (x : Session) (c : List ℕ) : Type 0 where
  pub right : RightLent h.size h.n h.m h.s x.store x.marks
  pub inside : index_of c < h.n + h.m
  pub long : payload_length c ≡ h.s
  pub there : 84 + payload_length c ≤ length c
  pub block_in : index_of c * h.s + h.s ≤ length x.store
  pub store_small : length x.store ≤ 4325376

pub facts : (h : Head) (x : Session) (c : List ℕ) → Welcome h x c → Facts h x c
facts h x c w =
    let r = right_lent h.size h.n h.m h.s x.store x.marks w.lent in
    let p = passed (chunk_checks h c) w.whole in
    let i : index_of c < h.n + h.m = leb-false (h.n + h.m) (index_of c) p.1.1.1.1.1.1.1.0 in
    record {
      right = r;
      inside = i;
      long = eqb-true (payload_length c) h.s (not-false (eqb (payload_length c) h.s) p.1.1.1.1.1.1.1.1.1.1.1.0);
      there = ltb-false (length c) (chunk_length c) p.1.1.1.0;
      block_in = omega (arith, r.store_long, block_laws.block_inside h.s (h.n + h.m) (index_of c) i);
      store_small = omega (arith, r.store_long, r.shape.small);
    }

-- the payload as the code lends it
payload_lent : (h : Head) (x : Session) (c : List ℕ) → Facts h x c → part c 48 (48 + h.s - 48) ≡ payload_of c
payload_lent h x c f = let e : 48 + h.s - 48 ≡ payload_length c = omega (arith, f.long) in ap (λ (n : ℕ). part c 48 n) e

-- ---- the verdict, and what it makes of the session

between : (k : ℕ) → T (leb 30 k && leb k 40) → (30 ≤ k) × (k ≤ 40)
between k t = go (leb 30 k) (leb k 40) refl refl t
  where
    go : (a b : Bool) → leb 30 k ≡ a → leb k 40 ≡ b → T (a && b) → (30 ≤ k) × (k ≤ 40)
    go true true e f t = (leb-true 30 k e, leb-true k 40 f)
    go true false e f t = absurd t
    go false b e f t = absurd t

-- the number of a refusal is one of the list's
pub number_in : (P : ℕ → Type 0) (cs : List Check) (r : Reason) → NumbersAre P cs → verdict cs ≡ Err r → P (number_of r)
number_in P [] r o e = absurd (let z : ◌≡◌ {A = ℕ} 0 1 = cc in omega arith)
number_in P ((true, k) ∷ cs) r o e = let f : reason_of k ≡ r = cc in subst (λ (q : Reason). P (number_of q)) f o.0
number_in P ((false, k) ∷ cs) r o e = number_in P cs r o.1 e

abbrev made_by : Head → Session → List ℕ → Verdict → Judged
made_by h x c v = record { session = after_verdict h x c v; verdict = v }

module _ (h : Head) (x : Session) (c : List ℕ) where
  judged_by : (v : Verdict) → verdict_of h x c ≡ v → made_by h x c v ≡ judged h x c
  unfolding judged after
  judged_by v e = ap (made_by h x c) (sym e)

  pub after_by : (v : Verdict) → verdict_of h x c ≡ v → after h x c ≡ after_verdict h x c v
  unfolding after
  after_by v e = ap (after_verdict h x c) e

  pub judged-session : (judged h x c).session ≡ after h x c
  unfolding judged
  judged-session = refl

  -- a refusal that is not 41 leaves store and marks
  refused_by_lem : (r : Reason) → verdict_of h x c ≡ Refused r → (number_of r ≡ 41 → ⊥)
      → judged_of x.store x.marks (counted_refusal x.tallies (number_of r)) (Refused r) ≡ judged h x c
  unfolding settled counted
  refused_by_lem r e n = rw (ne_eqb (number_of r) 41 n) at (judged_by (Refused r) e)

  pub lent_refused : session_wrong h x ≡ true → judged_of x.store x.marks x.tallies (Refused Lent) ≡ judged h x c
  unfolding verdict_of counted_refusal
  lent_refused e = refused_by_lem Lent (rw e) (λ z. omega arith)

  pub full_refused : session_wrong h x ≡ false → tally_full x.tallies ≡ true → judged_of x.store x.marks x.tallies (Refused TallyFull) ≡ judged h x c
  unfolding verdict_of counted_refusal
  full_refused e f = refused_by_lem TallyFull (rw (e, f)) (λ z. omega arith)

  pub past_two : session_wrong h x ≡ false → tally_full x.tallies ≡ false → verdict_of h x c ≡ checked (chunk_checks h c ++ mark_checks h x c) Refused (welcomed h x c)
  unfolding verdict_of
  past_two e f = rw (e, f)

  -- a chunk's own refusals are 30 to 40
  pub chunk-number : (r : Reason) → verdict (chunk_checks h c) ≡ Err r → (30 ≤ number_of r) × (number_of r ≤ 40)
  chunk-number r e =
      number_in (λ (k : ℕ). (30 ≤ k) × (k ≤ 40)) (chunk_checks h c) r
      (between 30 tt, (between 31 tt, (between 32 tt, (between 30 tt, (between 33 tt, (between 34 tt, (between 35 tt, (between 36 tt, (between 37 tt, (between 38 tt, (between 39 tt, (between 40 tt, tt)))))))))))) e

  pub chunk_refused : session_wrong h x ≡ false → tally_full x.tallies ≡ false → (r : Reason) → verdict (chunk_checks h c) ≡ Err r → (t : Tallies)
      → t ≡ counted_refusal x.tallies (number_of r) → judged_of x.store x.marks t (Refused r) ≡ judged h x c
  chunk_refused e f r g t et =
      ap (λ (u : Tallies). judged_of x.store x.marks u (Refused r)) et
      ∙ refused_by_lem r (past_two e f ∙ refused_then Refused (chunk_checks h c) (mark_checks h x c) (welcomed h x c) r g) (λ z. omega (arith, chunk-number r g))

  module _ (w : Welcome h x c) where
    pub past_all : verdict_of h x c ≡ checked (mark_checks h x c) Refused (welcomed h x c)
    past_all = past_two w.lent w.room ∙ good_then Refused (chunk_checks h c) (mark_checks h x c) (welcomed h x c) w.whole

    pub verdict-fresh : mark x (index_of c) ≡ 0 → verdict_of h x c ≡ Fresh (number (index_of c)) (place (index_of c * h.s))
    verdict-fresh e = past_all ∙ (rw e)

    pub verdict_repeat : mark x (index_of c) ≡ 1 → same (block_of h x (index_of c)) (payload_of c) ≡ true
        → verdict_of h x c ≡ Repeat (number (index_of c)) (place (index_of c * h.s))
    verdict_repeat e f = past_all ∙ (rw (e, f))

    pub verdict_conflict : mark x (index_of c) ≡ 1 → same (block_of h x (index_of c)) (payload_of c) ≡ false → verdict_of h x c ≡ Refused Conflict
    verdict_conflict e f = past_all ∙ (rw (e, f))

    pub verdict_barred : mark x (index_of c) ≡ 2 → verdict_of h x c ≡ Refused Barred
    verdict_barred e = past_all ∙ (rw e)

    -- ---- the same, as the code leaves store and marks: b is what the lent block of n bytes came back as

    module _ (n : ℕ) (b : List ℕ) (en : n ≡ h.s) where
      -- the block as it was lent
      lent_block : part x.store (index_of c * h.s) n ≡ block_of h x (index_of c)
      lent_block = ap (λ (k : ℕ). part x.store (index_of c * h.s) k) en

      length_lent : length (part x.store (index_of c * h.s) n) ≡ h.s
      length_lent = ap length lent_block ∙ part_laws.length_part x.store (index_of c * h.s) h.s (facts h x c w).block_in

      -- the store with b in the block's place
      stored : length b ≡ h.s → take (index_of c * h.s) x.store ++ (b ++ drop n (drop (index_of c * h.s) x.store)) ≡ put_block h.s x.store (index_of c) b
      stored l = put_laws.lent x.store b (index_of c * h.s) n (l ∙ sym en)

      unchanged : b ≡ part x.store (index_of c * h.s) n → take (index_of c * h.s) x.store ++ (b ++ drop n (drop (index_of c * h.s) x.store)) ≡ x.store
      unchanged e =
          stored (ap length e ∙ length_lent) ∙ ap (put x.store (index_of c * h.s)) (e ∙ lent_block)
          ∙ put_laws.put_same x.store (index_of c * h.s) h.s (facts h x c w).block_in

      module _ (t : Tallies) where
        pub whole-laid : made b Laid ≡ stepped (mark x (index_of c)) (part x.store (index_of c * h.s) n) (part c 48 (48 + h.s - 48))
            → t ≡ record { fresh = x.tallies.fresh + 1; repeat = x.tallies.repeat; refused = x.tallies.refused }
            → judged_of (take (index_of c * h.s) x.store ++ (b ++ drop n (drop (index_of c * h.s) x.store))) (set x.marks (index_of c) 1) t
            (Fresh (number (index_of c)) (place (index_of c * h.s))) ≡ judged h x c
        unfolding settled counted
        whole-laid e et =
            let q = told (mark x (index_of c)) (part x.store (index_of c * h.s) n) (part c 48 (48 + h.s - 48)) b Laid e in
            let f = facts h x c w in
            let eb : b ≡ payload_of c = q.1 ∙ payload_lent h x c f in
            let lb : length b ≡ h.s = ap length eb ∙ part_laws.length_part c 48 (payload_length c) (omega (arith, f.there)) ∙ f.long in
            rw (stored lb, eb, et) (judged_by (Fresh (number (index_of c)) (place (index_of c * h.s))) (verdict-fresh q.0))

        pub whole_copy : made b Copy ≡ stepped (mark x (index_of c)) (part x.store (index_of c * h.s) n) (part c 48 (48 + h.s - 48))
            → t ≡ record { fresh = x.tallies.fresh; repeat = x.tallies.repeat + 1; refused = x.tallies.refused }
            → judged_of (take (index_of c * h.s) x.store ++ (b ++ drop n (drop (index_of c * h.s) x.store))) x.marks t
            (Repeat (number (index_of c)) (place (index_of c * h.s))) ≡ judged h x c
        unfolding settled counted
        whole_copy e et =
            let q = told (mark x (index_of c)) (part x.store (index_of c * h.s) n) (part c 48 (48 + h.s - 48)) b Copy e in
            let f = facts h x c w in
            let s : same (block_of h x (index_of c)) (payload_of c) ≡ true = ap₂ same (sym lent_block) (sym (payload_lent h x c f)) ∙ q.1 in
            rw (unchanged q.2, et) (judged_by (Repeat (number (index_of c)) (place (index_of c * h.s))) (verdict_repeat q.0 s))

        pub whole_differs : made b Differs ≡ stepped (mark x (index_of c)) (part x.store (index_of c * h.s) n) (part c 48 (48 + h.s - 48))
            → t ≡ counted_refusal x.tallies 41
            → judged_of (take (index_of c * h.s) x.store ++ (b ++ drop n (drop (index_of c * h.s) x.store))) (set x.marks (index_of c) 2) t (Refused Conflict) ≡ judged h x c
        unfolding settled counted
        whole_differs e et =
            let q = told (mark x (index_of c)) (part x.store (index_of c * h.s) n) (part c 48 (48 + h.s - 48)) b Differs e in
            let f = facts h x c w in
            let eb : b ≡ zeros h.s = q.2 ∙ ap (λ (k : ℕ). zeros k) length_lent in
            let s : same (block_of h x (index_of c)) (payload_of c) ≡ false = ap₂ same (sym lent_block) (sym (payload_lent h x c f)) ∙ q.1 in
            rw (stored (ap length eb ∙ length-replicate {A = ℕ} h.s 0), eb, et) (judged_by (Refused Conflict) (verdict_conflict q.0 s))

        pub whole_barred : made b StepBarred ≡ stepped (mark x (index_of c)) (part x.store (index_of c * h.s) n) (part c 48 (48 + h.s - 48))
            → t ≡ counted_refusal x.tallies 42
            → judged_of (take (index_of c * h.s) x.store ++ (b ++ drop n (drop (index_of c * h.s) x.store))) x.marks t (Refused Barred) ≡ judged h x c
        unfolding settled counted
        whole_barred e et =
            let q = told (mark x (index_of c)) (part x.store (index_of c * h.s) n) (part c 48 (48 + h.s - 48)) b StepBarred e in
            let m : mark x (index_of c) < 3 = fit_at x.marks (index_of c) (facts h x c w).right.fit in
            let two : mark x (index_of c) ≡ 2 = omega (arith, q.0, q.1) in
            rw (unchanged q.2, et) (judged_by (Refused Barred) (verdict_barred two))

-- ---- what the code's needs ask

-- a payload copied over the whole block
pub block-laid : (k : ℕ) (b p u : List ℕ) → k ≡ 0 → u ≡ p → made u Laid ≡ stepped k b p
block-laid k b p u e q = ap (λ (v : List ℕ). made v Laid) q ∙ step_laid k b p e

pub record InStore (h : Head) (x : Session) (c : List ℕ) (i : ℕ) : Type 0 where
  pub end_in : i * h.s + h.s ≤ length x.store
  pub small : length x.store ≤ 4325376
  pub mark_in : i < length x.marks
  pub payload_in : 48 + h.s ≤ length c

pub in_store : (h : Head) (x : Session) (c : List ℕ) → Welcome h x c → (i : ℕ) → i ≡ index_of c → InStore h x c i
in_store h x c w i e =
    let f = facts h x c w in
    record {
      end_in = omega (arith, f.block_in, ap (λ (k : ℕ). k * h.s) e);
      small = f.store_small;
      mark_in = omega (arith, f.inside, f.right.marks_long);
      payload_in = omega (arith, f.there, f.long);
    }

-- the lent block and the lent payload are of one length
pub lent_lengths : (h : Head) (x : Session) (c : List ℕ) → Welcome h x c → (i : ℕ) → i ≡ index_of c
    → length (part x.store (i * h.s) (i * h.s + h.s - i * h.s)) ≡ length (part c 48 (48 + h.s - 48))
lent_lengths h x c w i e =
    let n = in_store h x c w i e in
    part_laws.length_part x.store (i * h.s) (i * h.s + h.s - i * h.s) (omega (arith, n.end_in))
    ∙ omega arith ∙ sym (part_laws.length_part c 48 (48 + h.s - 48) (omega (arith, n.payload_in)))
