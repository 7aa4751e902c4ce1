-- Histories: store and marks follow from the chunks alone, in any order, and foreign chunks leave only their tally. Assumes
-- nothing.
use Prim.Native.Nat.{ℕ, zero, suc, ◌+◌, ◌-◌, ◌*◌, ◌<◌, ◌≤◌}
use mathlib.Core.Path.{◌≡◌, refl, sym, ap, ap₂, ◌∙◌}
use mathlib.Core.List.{List, [], ◌∷◌, ◌++◌, Permᴰ}
use mathlib.Core.Bool.{Bool, true, false, cond, not, ◌||◌}
use native.Mathlib.Decide.{ℕ_discrete}
use native.Mathlib.Omega.{arith}
use borrow.Author.Tests.{eq-eqb, lt-leb}
use lib.Dec.{eqb}
use lib.ListN.{length, get_or, set, length-append}
use lib.Seq.{set-get_or, get_or-set_other, set_comm}
use Rattle.little.specs.Parts.{put_block}
use Rattle.little.proofs.Laws.{part_laws, put_laws, test_laws}
use Rattle.little.specs.Runs.{zeros, same}
use Rattle.sfc.specs.answer.Numbers.{verdict, number_of, Checked}
use Rattle.sfc.specs.session.Lent.{shape_wrong, marks_wrong, lent_wrong}
use Rattle.sfc.specs.session.Marks.{marks_known}
use Rattle.sfc.specs.format.Chunk.{index_of, payload_length, payload_of, chunk_checks}
use Rattle.sfc.specs.answer.Places.{number, place}
use Rattle.sfc.specs.session.Tallies.{no_tallies, sum, total, tally_of, tally_full, counted_refusal, counted}
use Rattle.sfc.specs.session.Session.{Session, mark, block_of, session_wrong, verdict_of, with_block, settled, tallied, after}
use Rattle.sfc.specs.inner.Steps.{Welcome}
use Rattle.sfc.specs.session.History.{after_all}
use Rattle.sfc.specs.session.SessionTheorems.{SameKept, ShortOf43, ManyOffers}
use Rattle.sfc.specs.declared.format.header.Head.{Head}
use Rattle.sfc.specs.declared.session.tallies.Tallies.{Tallies}
use Rattle.sfc.specs.declared.answer.reason.Reason.{Reason}
use Rattle.sfc.specs.declared.answer.reason.Reason.TheVariants.{Conflict, Barred}
use Rattle.sfc.specs.declared.session.offer.Verdict.{Verdict}
use Rattle.sfc.specs.declared.session.offer.Verdict.TheVariants.{Fresh, Repeat, Refused}
use Rattle.sfc.proofs.session.SessionLaws.{right_lent, Facts, facts, after_by, judged-session, lent_refused, chunk_refused, verdict-fresh, verdict_repeat, verdict_conflict, verdict_barred}
use Rattle.sfc.proofs.session.MarkLaws.{fit_at, fit_all}
use Rattle.sfc.proofs.session.BlockSteps.{done, done_absent, done_copy, done_differs, done_barred, Kept, Sound, laid_at, laid_sound, laid_swap}
use Rattle.std.specs.Prelude.{Ok, Err}

-- ---- what is lent rightly, as facts

abbrev pub kept_of : Session → Kept
kept_of x = record { store = x.store; marks = x.marks }

none_full : tally_full no_tallies ≡ false
unfolding tally_full sum
none_full = refl

-- what each verdict keeps
module _ (h : Head) (x : Session) (c : List ℕ) where
  fresh_kept : (i p : ℕ) → kept_of (tallied (settled h x c (Fresh (number i) (place p))) (Fresh (number i) (place p))) ≡ record { store = put_block h.s x.store (index_of c) (payload_of c); marks = set x.marks (index_of c) 1 }
  unfolding settled
  fresh_kept i p = refl

  repeat_kept : (i p : ℕ) → kept_of (tallied (settled h x c (Repeat (number i) (place p))) (Repeat (number i) (place p))) ≡ kept_of x
  unfolding settled
  repeat_kept i p = refl

  conflict_kept : kept_of (tallied (settled h x c (Refused Conflict)) (Refused Conflict)) ≡ record { store = put_block h.s x.store (index_of c) (zeros h.s); marks = set x.marks (index_of c) 2 }
  unfolding settled
  conflict_kept = refl

  barred_kept : kept_of (tallied (settled h x c (Refused Barred)) (Refused Barred)) ≡ kept_of x
  unfolding settled
  barred_kept = refl

module _ (h : Head) where
  abbrev pub kept_wrong : Kept → Bool
  kept_wrong k = lent_wrong h.size h.n h.m h.s k.store k.marks

  pub sound : (k : Kept) → kept_wrong k ≡ false → Sound h.s (h.n + h.m) k
  sound k e =
      let r = right_lent h.size h.n h.m h.s k.store k.marks e in
      record { store_long = r.store_long; marks_long = r.marks_long; fit = λ i. fit_at k.marks i r.fit }

  -- a session of the same shape is as right
  pub right_again : (k l : Kept) → kept_wrong k ≡ false → Sound h.s (h.n + h.m) l → kept_wrong l ≡ false
  unfolding lent_wrong marks_wrong
  right_again k l e g =
      let a = test_laws.or-false (marks_wrong h.size h.n h.m h.s k.marks) (not (eqb (length k.store) ((h.n + h.m) * h.s))) e in
      let b = test_laws.or-false _ (not (marks_known k.marks)) a.0 in
      let c = test_laws.or-false (shape_wrong h.size h.n h.m h.s) (not (eqb (length k.marks) (h.n + h.m))) b.0 in
      rw (c.0, eq-eqb (length l.store) ((h.n + h.m) * h.s) g.store_long, eq-eqb (length l.marks) (h.n + h.m) g.marks_long, fit_all l.marks g.fit)

  -- ---- one offer, on store and marks alone

  pub keep_by : Checked → Kept → List ℕ → Kept
  keep_by (Ok u) k c = laid_at h.s (h.n + h.m) k (index_of c) (payload_of c)
  keep_by (Err r) k c = k

  pub keep : Kept → List ℕ → Kept
  keep k c = cond (kept_wrong k) k (keep_by (verdict (chunk_checks h c)) k c)

  -- what a good chunk brings
  pub record Brings (c : List ℕ) : Type 0 where
    pub inside : index_of c < h.n + h.m
    pub long : length (payload_of c) ≡ h.s

  pub brings : (x : Session) (c : List ℕ) → Welcome h x c → Brings c
  brings x c w =
      let f = facts h x c w in
      record { inside = f.inside; long = part_laws.length_part c 48 (payload_length c) (omega (arith, f.there)) ∙ f.long }

  -- past 71, 43 and 30 to 40
  welcome-kept : (x : Session) (c : List ℕ) → Welcome h x c → kept_of (after h x c) ≡ laid_at h.s (h.n + h.m) (kept_of x) (index_of c) (payload_of c)
  welcome-kept x c w = go (mark x (index_of c)) refl
    where
      f : Facts h x c
      f = facts h x c w

      same_store : put_block h.s x.store (index_of c) (block_of h x (index_of c)) ≡ x.store
      same_store = put_laws.put_same x.store (index_of c * h.s) h.s f.block_in

      same-marks : (k : ℕ) → mark x (index_of c) ≡ k → set x.marks (index_of c) k ≡ x.marks
      same-marks k e = ap (set x.marks (index_of c)) (sym e) ∙ set-get_or x.marks (index_of c) 0

      laid : (k : ℕ) (y : List ℕ × ℕ) → mark x (index_of c) ≡ k → done k (block_of h x (index_of c)) (payload_of c) ≡ y
          → laid_at h.s (h.n + h.m) (kept_of x) (index_of c) (payload_of c) ≡ record { store = put_block h.s x.store (index_of c) y.0; marks = set x.marks (index_of c) y.1 }
      laid k y e d = rw (e, d)

      unchanged : (k : ℕ) (v : Verdict) → mark x (index_of c) ≡ k → done k (block_of h x (index_of c)) (payload_of c) ≡ (block_of h x (index_of c), k)
          → kept_of (after h x c) ≡ kept_of x → kept_of (after h x c) ≡ laid_at h.s (h.n + h.m) (kept_of x) (index_of c) (payload_of c)
      unchanged k v e d q = q ∙ sym (laid k (block_of h x (index_of c), k) e d ∙ (rw (same_store, same-marks k e)))

      go : (k : ℕ) → mark x (index_of c) ≡ k → kept_of (after h x c) ≡ laid_at h.s (h.n + h.m) (kept_of x) (index_of c) (payload_of c)
      go zero e =
          ap kept_of (after_by h x c (Fresh (number (index_of c)) (place (index_of c * h.s))) (verdict-fresh h x c w e)) ∙ fresh_kept h x c _ _
          ∙ sym (laid 0 (payload_of c, 1) e (done_absent (block_of h x (index_of c)) (payload_of c)))
      go (suc zero) e = at_one (same (block_of h x (index_of c)) (payload_of c)) refl
        where
          at_one : (t : Bool) → same (block_of h x (index_of c)) (payload_of c) ≡ t → kept_of (after h x c) ≡ laid_at h.s (h.n + h.m) (kept_of x) (index_of c) (payload_of c)
          at_one true t =
              unchanged 1 (Repeat (number 0) (place 0)) e (done_copy (block_of h x (index_of c)) (payload_of c) t)
              (ap kept_of (after_by h x c (Repeat (number (index_of c)) (place (index_of c * h.s))) (verdict_repeat h x c w e t)) ∙ repeat_kept h x c _ _)
          at_one false t =
              let l : length (block_of h x (index_of c)) ≡ h.s = part_laws.length_part x.store (index_of c * h.s) h.s f.block_in in
              ap kept_of (after_by h x c (Refused Conflict) (verdict_conflict h x c w e t)) ∙ conflict_kept h x c
              ∙ ap (λ (n : ℕ). record { store = put_block h.s x.store (index_of c) (zeros n); marks = set x.marks (index_of c) 2 }) (sym l)
              ∙ sym (laid 1 (zeros (length (block_of h x (index_of c))), 2) e (done_differs (block_of h x (index_of c)) (payload_of c) t))
      go (suc (suc k)) e =
          let m : mark x (index_of c) < 3 = fit_at x.marks (index_of c) f.right.fit in
          let two : mark x (index_of c) ≡ 2 = omega arith in
          unchanged (suc (suc k)) (Refused Barred) e (done_barred (block_of h x (index_of c)) (payload_of c) k)
          (ap kept_of (after_by h x c (Refused Barred) (verdict_barred h x c w two)) ∙ barred_kept h x c)

  pub kept-after : (x : Session) (c : List ℕ) → tally_full x.tallies ≡ false → kept_of (after h x c) ≡ keep (kept_of x) c
  unfolding keep keep_by
  kept-after x c f = go (session_wrong h x) (verdict (chunk_checks h c)) refl refl
    where
      go : (t : Bool) (v : Checked) → session_wrong h x ≡ t → verdict (chunk_checks h c) ≡ v → kept_of (after h x c) ≡ cond (kept_wrong (kept_of x)) (kept_of x) (keep_by (verdict (chunk_checks h c)) (kept_of x) c)
      go true v e g = ap kept_of (sym (judged-session h x c)) ∙ ap (λ o. kept_of o.session) (sym (lent_refused h x c e)) ∙ (rw e)
      go false (Err r) e g =
          ap kept_of (sym (judged-session h x c)) ∙ ap (λ o. kept_of o.session) (sym (chunk_refused h x c e f r g (counted_refusal x.tallies (number_of r)) refl)) ∙ (rw (e, g))
      go false (Ok u) e g = welcome-kept x c (record { lent = e; room = f; whole = g }) ∙ (rw (e, g))

  pub keep-wrong : (k : Kept) (c : List ℕ) → kept_wrong k ≡ true → keep k c ≡ k
  unfolding keep
  keep-wrong k c e = rw e

  pub keep_foreign : (k : Kept) (c : List ℕ) (r : Reason) → verdict (chunk_checks h c) ≡ Err r → keep k c ≡ k
  unfolding keep keep_by
  keep_foreign k c r e = rw e (both (kept_wrong k))
    where
      both : (t : Bool) → cond t k k ≡ k
      both true = refl
      both false = refl

  pub keep_good : (k : Kept) (c : List ℕ) → kept_wrong k ≡ false → verdict (chunk_checks h c) ≡ Ok tt → keep k c ≡ laid_at h.s (h.n + h.m) k (index_of c) (payload_of c)
  unfolding keep keep_by
  keep_good k c e f = rw (e, f)

  -- what a good chunk brings, whatever is lent
  pub good_brings : (k : Kept) (c : List ℕ) → kept_wrong k ≡ false → verdict (chunk_checks h c) ≡ Ok tt → Brings c
  good_brings k c e f = brings (record { store = k.store; marks = k.marks; tallies = no_tallies }) c (record { lent = e; room = none_full; whole = f })

  -- what is right stays right
  pub keep_right : (k : Kept) (c : List ℕ) → kept_wrong k ≡ false → kept_wrong (keep k c) ≡ false
  keep_right k c e = go (verdict (chunk_checks h c)) refl
    where
      go : (v : Checked) → verdict (chunk_checks h c) ≡ v → kept_wrong (keep k c) ≡ false
      go (Err r) f = rw (keep_foreign k c r f) e
      go (Ok tt) f =
          let b = good_brings k c e f in
          rw (keep_good k c e f) (right_again k _ e (laid_sound h.s (h.n + h.m) k (sound k e) (index_of c) b.inside (payload_of c) b.long))

  pub keep_swap : (k : Kept) (c d : List ℕ) → keep (keep k c) d ≡ keep (keep k d) c
  keep_swap k c d = go (kept_wrong k) (verdict (chunk_checks h c)) (verdict (chunk_checks h d)) refl refl refl
    where
      go : (t : Bool) (u v : Checked) → kept_wrong k ≡ t → verdict (chunk_checks h c) ≡ u → verdict (chunk_checks h d) ≡ v → keep (keep k c) d ≡ keep (keep k d) c
      go true u v e f g = rw (keep-wrong k c e, keep-wrong k d e, keep-wrong k c e)
      go false (Err r) v e f g = rw (keep_foreign k c r f, keep_foreign (keep k d) c r f)
      go false (Ok u) (Err q) e f g = rw (keep_foreign k d q g, keep_foreign (keep k c) d q g)
      go false (Ok u) (Ok w) e f g =
          let b = good_brings k c e f in
          let b' = good_brings k d e g in
          rw (
            keep_good (keep k c) d (keep_right k c e) g,
            keep_good (keep k d) c (keep_right k d e) f,
            keep_good k c e f,
            keep_good k d e g,
          )
          (laid_swap h.s (h.n + h.m) k (sound k e) (index_of c) (index_of d) b.inside b'.inside (payload_of c) (payload_of d) b.long b'.long)

  -- ---- many offers

  unfoldable pub keep_all : Kept → List (List ℕ) → Kept
  keep_all k [] = k
  keep_all k (c ∷ cs) = keep_all (keep k c) cs

  pub any_order : (k : Kept) {cs ds : List (List ℕ)} → Permᴰ cs ds → keep_all k cs ≡ keep_all k ds
  unfolding keep_all
  any_order k Permᴰ.nil = refl
  any_order k (Permᴰ.cons {a = a} {b = b} {l₂ = l} e d) = any_order (keep k a) d ∙ ap (λ (c : List ℕ). keep_all (keep k c) l) e
  any_order k (Permᴰ.swap {a = a} {b = b} {l = l} e f) = rw (← e, ← f, keep_swap k a b)
  any_order k (Permᴰ.trans d d') = any_order k d ∙ any_order k d'

  -- a chunk that is refused by itself may be left out
  pub without : (k : Kept) (cs ds : List (List ℕ)) (c : List ℕ) (r : Reason) → verdict (chunk_checks h c) ≡ Err r → keep_all k (cs ++ (c ∷ ds)) ≡ keep_all k (cs ++ ds)
  unfolding keep_all
  without k [] ds c r e = ap (λ (l : Kept). keep_all l ds) (keep_foreign k c r e)
  without k (b ∷ cs) ds c r e = without (keep k b) cs ds c r e

-- ---- tallies

sum-set : (xs : List ℕ) (i : ℕ) → sum (set xs i (get_or xs i 0 + 1)) ≤ sum xs + 1
unfolding sum
sum-set [] i = omega arith
sum-set (x ∷ xs) zero = omega arith
sum-set (x ∷ xs) (suc i) = omega (arith, sum-set xs i)

total_refusal : (t : Tallies) (k : ℕ) → total (counted_refusal t k) ≤ total t + 1
unfolding counted_refusal
total_refusal t k = go (eqb k 71 || eqb k 43)
  where
    go : (b : Bool) → total (cond b t (record { fresh = t.fresh; repeat = t.repeat; refused = set t.refused (k - 30) (tally_of t k + 1) })) ≤ total t + 1
    go true = omega arith
    go false = omega (arith, sum-set t.refused (k - 30))

pub total-counted : (t : Tallies) (v : Verdict) → total (counted t v) ≤ total t + 1
unfolding counted
total-counted t (Fresh i p) = omega arith
total-counted t (Repeat i p) = omega arith
total-counted t (Refused r) = total_refusal t (number_of r)

pub settled_tallies : (h : Head) (x : Session) (c : List ℕ) (v : Verdict) → (settled h x c v).tallies ≡ x.tallies
unfolding settled
settled_tallies h x c (Fresh i p) = refl
settled_tallies h x c (Repeat i p) = refl
settled_tallies h x c (Refused r) = go (eqb (number_of r) 41)
  where
    go : (b : Bool) → (cond b (with_block h x (index_of c) (zeros h.s) 2) x).tallies ≡ x.tallies
    go true = refl
    go false = refl

pub after_tallies : (h : Head) (x : Session) (c : List ℕ) → (after h x c).tallies ≡ counted x.tallies (verdict_of h x c)
unfolding after
after_tallies h x c = ap (λ (t : Tallies). counted t (verdict_of h x c)) (settled_tallies h x c (verdict_of h x c))

pub not_full : (t : Tallies) → total t < 4294967295 → tally_full t ≡ false
unfolding tally_full
not_full t l = lt-leb 4294967295 (total t) l

-- short of 43, store and marks of a session are those of its chunks alone
pub kept-all : (h : Head) (x : Session) (cs : List (List ℕ)) → ShortOf43 x (length cs) → kept_of (after_all h x cs) ≡ keep_all h (kept_of x) cs
unfolding after_all keep_all
kept-all h x [] s = refl
kept-all h x (c ∷ cs) s =
    let n : total (after h x c).tallies ≤ total x.tallies + 1 = rw (after_tallies h x c) (total-counted x.tallies (verdict_of h x c)) in
    kept-all h (after h x c) cs (omega arith) ∙ ap (λ (k : Kept). keep_all h k cs) (kept-after h x c (not_full x.tallies (omega arith)))

pub perm_length : {cs ds : List (List ℕ)} → Permᴰ cs ds → length cs ≡ length ds
perm_length Permᴰ.nil = refl
perm_length (Permᴰ.cons e d) = ap suc (perm_length d)
perm_length (Permᴰ.swap e f) = refl
perm_length (Permᴰ.trans d d') = perm_length d ∙ perm_length d'

pub same_kept : (x y : Session) → kept_of x ≡ kept_of y → SameKept x y
same_kept x y e = record { store = sym (ap (λ (k : Kept). k.store) e); marks = sym (ap (λ (k : Kept). k.marks) e) }

pub order_free : (h : Head) (x : Session) (cs ds : List (List ℕ)) → Permᴰ cs ds → ShortOf43 x (length cs) → SameKept (after_all h x cs) (after_all h x ds)
order_free h x cs ds p s =
    same_kept (after_all h x cs) (after_all h x ds)
    (kept-all h x cs s ∙ any_order h (kept_of x) p ∙ sym (kept-all h x ds (omega (arith, perm_length p))))

-- ---- a foreign chunk leaves its tally alone

-- short of 43 the verdict follows from store and marks
verdict-kept : (h : Head) (x : Session) (c : List ℕ) → tally_full x.tallies ≡ false
    → verdict_of h x c ≡ verdict_of h (record { store = x.store; marks = x.marks; tallies = no_tallies }) c
unfolding verdict_of
verdict-kept h x c f = rw (f, none_full)

verdict-same : (h : Head) (x y : Session) (c : List ℕ) → kept_of x ≡ kept_of y → tally_full x.tallies ≡ false → tally_full y.tallies ≡ false → verdict_of h x c ≡ verdict_of h y c
verdict-same h x y c e f g =
    verdict-kept h x c f ∙ ap (λ (k : Kept). verdict_of h (record { store = k.store; marks = k.marks; tallies = no_tallies }) c) e ∙ sym (verdict-kept h y c g)

sum_more : (xs : List ℕ) (i : ℕ) → sum xs ≤ sum (set xs i (get_or xs i 0 + 1))
unfolding sum
sum_more [] i = omega arith
sum_more (x ∷ xs) zero = omega arith
sum_more (x ∷ xs) (suc i) = omega (arith, sum_more xs i)

abbrev raised : Tallies → ℕ → Tallies
raised t k = record { fresh = t.fresh; repeat = t.repeat; refused = set t.refused (k - 30) (tally_of t k + 1) }

total_more : (t : Tallies) (k : ℕ) → total t ≤ total (counted_refusal t k)
unfolding counted_refusal
total_more t k = go (eqb k 71 || eqb k 43)
  where
    go : (b : Bool) → total t ≤ total (cond b t (raised t k))
    go true = omega arith
    go false = omega (arith, sum_more t.refused (k - 30))

raised_swap : (t : Tallies) (a b : ℕ) → raised (raised t a) b ≡ raised (raised t b) a
raised_swap t a b = go (ℕ_discrete (a - 30) (b - 30))
  where
    go : Dec (a - 30 ≡ b - 30) → raised (raised t a) b ≡ raised (raised t b) a
    go (yes e) = rw e
    go (no d) =
        let p = get_or-set_other t.refused (a - 30) (b - 30) (tally_of t a + 1) 0 (λ e. d (sym e)) in
        let q = get_or-set_other t.refused (b - 30) (a - 30) (tally_of t b + 1) 0 d in
        rw (p, q) (λ i. record { fresh = t.fresh; repeat = t.repeat; refused = set_comm t.refused (a - 30) (b - 30) (tally_of t a + 1) (tally_of t b + 1) d i })

refusals_swap : (t : Tallies) (a b : ℕ) → counted_refusal (counted_refusal t a) b ≡ counted_refusal (counted_refusal t b) a
unfolding counted_refusal
refusals_swap t a b = go (eqb a 71 || eqb a 43) (eqb b 71 || eqb b 43)
  where
    go : (u v : Bool) → cond v (cond u t (raised t a)) (raised (cond u t (raised t a)) b) ≡ cond u (cond v t (raised t b)) (raised (cond v t (raised t b)) a)
    go true true = refl
    go true false = refl
    go false true = refl
    go false false = raised_swap t a b

-- a refusal's tally and the two others do not meet
fresh_swap : (t : Tallies) (k : ℕ)
    → record { fresh = (counted_refusal t k).fresh + 1; repeat = (counted_refusal t k).repeat; refused = (counted_refusal t k).refused }
    ≡ counted_refusal (record { fresh = t.fresh + 1; repeat = t.repeat; refused = t.refused }) k
unfolding counted_refusal
fresh_swap t k = go (eqb k 71 || eqb k 43)
  where
    u : Tallies
    u = record { fresh = t.fresh + 1; repeat = t.repeat; refused = t.refused }

    go : (b : Bool) → record { fresh = (cond b t (raised t k)).fresh + 1; repeat = (cond b t (raised t k)).repeat; refused = (cond b t (raised t k)).refused } ≡ cond b u (raised u k)
    go true = refl
    go false = refl

repeat_swap : (t : Tallies) (k : ℕ)
    → record { fresh = (counted_refusal t k).fresh; repeat = (counted_refusal t k).repeat + 1; refused = (counted_refusal t k).refused }
    ≡ counted_refusal (record { fresh = t.fresh; repeat = t.repeat + 1; refused = t.refused }) k
unfolding counted_refusal
repeat_swap t k = go (eqb k 71 || eqb k 43)
  where
    u : Tallies
    u = record { fresh = t.fresh; repeat = t.repeat + 1; refused = t.refused }

    go : (b : Bool) → record { fresh = (cond b t (raised t k)).fresh; repeat = (cond b t (raised t k)).repeat + 1; refused = (cond b t (raised t k)).refused } ≡ cond b u (raised u k)
    go true = refl
    go false = refl

counts_swap : (t : Tallies) (k : ℕ) (v : Verdict) → counted (counted_refusal t k) v ≡ counted_refusal (counted t v) k
unfolding counted
counts_swap t k (Refused q) = refusals_swap t k (number_of q)
counts_swap t k (Fresh i p) = fresh_swap t k
counts_swap t k (Repeat i p) = repeat_swap t k

tallies_with : (h : Head) (x y : Session) (ds : List (List ℕ)) (k : ℕ) → kept_of x ≡ kept_of y → y.tallies ≡ counted_refusal x.tallies k → ShortOf43 y (length ds)
    → (after_all h y ds).tallies ≡ counted_refusal (after_all h x ds).tallies k
unfolding after_all
tallies_with h x y [] k e f s = f
tallies_with h x y (d ∷ ds) k e f s =
    let m : total x.tallies ≤ total y.tallies = rw f (total_more x.tallies k) in
    let nx = not_full x.tallies (omega arith) in
    let ny = not_full y.tallies (omega arith) in
    let v : verdict_of h x d ≡ verdict_of h y d = verdict-same h x y d e nx ny in
    let n : total (after h y d).tallies ≤ total y.tallies + 1 = rw (after_tallies h y d) (total-counted y.tallies (verdict_of h y d)) in
    tallies_with h (after h x d) (after h y d) ds k
    (kept-after h x d nx ∙ ap (λ (l : Kept). keep h l d) e ∙ sym (kept-after h y d ny))
    (after_tallies h y d ∙ ap₂ counted f (sym v) ∙ counts_swap x.tallies k (verdict_of h x d) ∙ ap (λ (t : Tallies). counted_refusal t k) (sym (after_tallies h x d)))
    (omega arith)

-- an offer adds one to the tallies at most
pub total-all : (h : Head) (x : Session) (cs : List (List ℕ)) → total (after_all h x cs).tallies ≤ total x.tallies + length cs
unfolding after_all
total-all h x [] = omega arith
total-all h x (c ∷ cs) =
    let n : total (after h x c).tallies ≤ total x.tallies + 1 = rw (after_tallies h x c) (total-counted x.tallies (verdict_of h x c)) in
    omega (arith, total-all h (after h x c) cs)

pub after-append : (h : Head) (x : Session) (cs ds : List (List ℕ)) → after_all h x (cs ++ ds) ≡ after_all h (after_all h x cs) ds
unfolding after_all
after-append h x [] ds = refl
after-append h x (c ∷ cs) ds = after-append h (after h x c) cs ds

pub right_all : (h : Head) (k : Kept) (cs : List (List ℕ)) → kept_wrong h k ≡ false → kept_wrong h (keep_all h k cs) ≡ false
unfolding keep_all
right_all h k [] e = e
right_all h k (c ∷ cs) e = right_all h (keep h k c) cs (keep_right h k c e)

pub foreign_removable : (h : Head) (x : Session) (cs ds : List (List ℕ)) (c : List ℕ) (r : Reason) → verdict (chunk_checks h c) ≡ Err r → session_wrong h x ≡ false
    → ShortOf43 x (length (cs ++ (c ∷ ds)))
    → SameKept (after_all h x (cs ++ ds)) (after_all h x (cs ++ (c ∷ ds)))
    × ((after_all h x (cs ++ (c ∷ ds))).tallies ≡ counted (after_all h x (cs ++ ds)).tallies (Refused r))
unfolding counted after_all
foreign_removable h x cs ds c r e w s =
    let l = length-append cs (c ∷ ds) in
    let l' = length-append cs ds in
    let t = total-all h x cs in
    let wy : session_wrong h (after_all h x cs) ≡ false = ap (λ (k : Kept). kept_wrong h k) (kept-all h x cs (omega arith)) ∙ right_all h (kept_of x) cs w in
    let fy : tally_full (after_all h x cs).tallies ≡ false = not_full (after_all h x cs).tallies (omega arith) in
    let o = sym (judged-session h (after_all h x cs) c) ∙ ap (λ z. z.session) (sym (chunk_refused h (after_all h x cs) c wy fy r e (counted_refusal (after_all h x cs).tallies (number_of r)) refl)) in
    let k : kept_of (after_all h x cs) ≡ kept_of (after h (after_all h x cs) c) = sym (ap kept_of o) in
    let u : (after h (after_all h x cs) c).tallies ≡ counted_refusal (after_all h x cs).tallies (number_of r) = ap (λ (z : Session). z.tallies) o in
    let b = total_refusal (after_all h x cs).tallies (number_of r) in
    let su : total (after h (after_all h x cs) c).tallies ≤ total (after_all h x cs).tallies + 1 = rw u b in (
      same_kept (after_all h x (cs ++ ds)) (after_all h x (cs ++ (c ∷ ds)))
          (kept-all h x (cs ++ ds) (omega arith) ∙ sym (without h (kept_of x) cs ds c r e) ∙ sym (kept-all h x (cs ++ (c ∷ ds)) s)),
      ap (λ (z : Session). z.tallies) (after-append h x cs (c ∷ ds))
          ∙ tallies_with h (after_all h x cs) (after h (after_all h x cs) c) ds (number_of r) k u (omega arith)
          ∙ ap (λ (z : Session). counted_refusal z.tallies (number_of r)) (sym (after-append h x cs ds)),
    )

pub many_offers : ManyOffers
many_offers = record { order_free = order_free; foreign_removable = foreign_removable }
