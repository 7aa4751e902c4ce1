-- Two tallies that the marks tell: fresh counts the indices that are held or barred, and 41 those that are barred. Assumes nothing.
use Prim.Native.Nat.{ℕ, zero, suc, ◌+◌, ◌<◌, ◌≤◌}
use mathlib.Core.Path.{◌≡◌, refl, sym, ap, ◌∙◌}
use mathlib.Core.Logic.{⊎_elim}
use mathlib.Core.Bool.{Bool, true, false, cond}
use mathlib.Core.List.{List, [], ◌∷◌}
use native.Mathlib.Decide.{ℕ_discrete}
use native.Mathlib.Omega.{arith}
use borrow.Author.Tests.{eq-eqb, ne_eqb}
use lib.Dec.{eqb, lit≤}
use lib.ListN.{length, get_or, set, length-set, get_or-eq_default}
use lib.Seq.{get_or-set_same, get_or-set_other, ext_get_or}
use Rattle.little.specs.Runs.{zeros}
use Rattle.little.proofs.Laws.{test_laws}
use Rattle.cauchy.specs.Decode.{held, count}
use Rattle.sfc.specs.answer.Numbers.{number_of}
use Rattle.sfc.specs.format.Chunk.{index_of, payload_of}
use Rattle.sfc.specs.session.Marks.{is_held, held_count, barred_count}
use Rattle.sfc.specs.session.Tallies.{tally_of}
use Rattle.sfc.specs.session.Session.{Session, blank, mark, verdict_of, after}
use Rattle.sfc.specs.session.History.{after_all}
use Rattle.sfc.specs.session.SessionTheorems.{ChangesOne, is_fresh, is_refusal}
use Rattle.sfc.specs.declared.format.header.Head.{Head}
use Rattle.sfc.specs.declared.session.offer.Verdict.{Verdict}
use Rattle.sfc.specs.declared.session.offer.Verdict.TheVariants.{Fresh, Repeat, Refused}
use Rattle.sfc.proofs.session.HistoryLaws.{after_tallies}
use Rattle.sfc.proofs.session.OfferLaws.{one_offer}
use Rattle.sfc.proofs.session.CountLaws.{fresh_step, refused_step, tallies_count}

-- ---- a count over marks, where one of them changes

module _ (p : ℕ → Bool) (f : List ℕ → ℕ) (more : (a : ℕ) (l : List ℕ) → f (a ∷ l) ≡ cond (p a) 1 0 + f l) where
  one_changes : (l : List ℕ) (i k : ℕ) → i < length l → f (set l i k) + cond (p (get_or l i 0)) 1 0 ≡ f l + cond (p k) 1 0
  one_changes [] i k h = absurd (omega arith)
  one_changes (a ∷ l) zero k h = omega (arith, more a l, more k l)
  one_changes (a ∷ l) (suc i) k h = omega (arith, more a l, more a (set l i k), one_changes l i k (omega arith))

  none_in_zeros : f [] ≡ 0 → p 0 ≡ false → (n : ℕ) → f (zeros n) ≡ 0
  none_in_zeros e q zero = e
  none_in_zeros e q (suc n) = more 0 (zeros n) ∙ (rw q (omega (arith, none_in_zeros e q n)))

held_more : (a : ℕ) (l : List ℕ) → held_count (a ∷ l) ≡ cond (is_held a) 1 0 + held_count l
unfolding held count
held_more a l = go (is_held a)
  where
    go : (b : Bool) → count (cond b 1 0 ∷ held l) ≡ cond b 1 0 + count (held l)
    go true = omega arith
    go false = omega arith

barred_more : (a : ℕ) (l : List ℕ) → barred_count (a ∷ l) ≡ cond (eqb a 2) 1 0 + barred_count l
unfolding barred_count
barred_more a l = go (eqb a 2)
  where
    go : (b : Bool) → cond b (suc (barred_count l)) (barred_count l) ≡ cond b 1 0 + barred_count l
    go true = omega arith
    go false = omega arith

-- ---- what an offer makes of the counts

module _ (h : Head) (x y : Session) (i k : ℕ) (b : List ℕ) (o : ChangesOne h x y i b k) (some : 0 < k) where
  mark-there : i < length x.marks
  mark-there =
      ⊎_elim (λ (a : i < length x.marks). a)
      (λ (a : length x.marks ≤ i). absurd (omega (arith, o.new_mark, get_or-eq_default y.marks 0 {n = i} (omega (arith, o.marks-length)))))
      (test_laws.below_or i (length x.marks))

  one_set : y.marks ≡ set x.marks i k
  one_set = ext_get_or 0 y.marks (set x.marks i k) (o.marks-length ∙ sym (length-set x.marks i k)) (λ j u. at j (ℕ_discrete j i))
    where
      at : (j : ℕ) → Dec (j ≡ i) → get_or y.marks j 0 ≡ get_or (set x.marks i k) j 0
      at j (yes e) = rw e (o.new_mark ∙ sym (get_or-set_same x.marks i k 0 mark-there))
      at j (no d) = o.other-marks j d ∙ sym (get_or-set_other x.marks i j k 0 d)

  held_then : held_count y.marks + cond (is_held (mark x i)) 1 0 ≡ held_count x.marks + cond (is_held k) 1 0
  held_then = rw one_set (one_changes is_held held_count held_more x.marks i k mark-there)

  barred_then : barred_count y.marks + cond (eqb (mark x i) 2) 1 0 ≡ barred_count x.marks + cond (eqb k 2) 1 0
  barred_then = rw one_set (one_changes (λ (a : ℕ). eqb a 2) barred_count barred_more x.marks i k mark-there)

-- by a verdict v
abbrev Moves : Session → Session → Verdict → Type 0
Moves x y v =
    (held_count y.marks + barred_count y.marks ≡ held_count x.marks + barred_count x.marks + cond (is_fresh v) 1 0)
    × (barred_count y.marks ≡ barred_count x.marks + cond (is_refusal 41 v) 1 0)

moves : (h : Head) (x : Session) (c : List ℕ) (v : Verdict) → verdict_of h x c ≡ v → Moves x (after h x c) v
moves h x c (Fresh j p) e =
    let t = one_offer.fresh_changes_one h x c j.0 p.0 e in
    let a = rw t.2 at (held_then h x (after h x c) j.0 1 (payload_of c) t.3 (omega arith)) in
    let b = rw t.2 at (barred_then h x (after h x c) j.0 1 (payload_of c) t.3 (omega arith)) in
    (omega arith, omega arith)
moves h x c (Repeat j p) e =
    let s = (one_offer.repeat_changes_nothing h x c j.0 p.0 e).4.marks in
    (omega (arith, ap held_count s, ap barred_count s), omega (arith, ap barred_count s))
moves h x c (Refused r) e = go (ℕ_discrete (number_of r) 41)
  where
    go : Dec (number_of r ≡ 41) → Moves x (after h x c) (Refused r)
    go (yes q) =
        let t = one_offer.barring_changes_one h x c r e q in
        let a = rw t.0 at (held_then h x (after h x c) (index_of c) 2 (zeros h.s) t.2 (omega arith)) in
        let b = rw t.0 at (barred_then h x (after h x c) (index_of c) 2 (zeros h.s) t.2 (omega arith)) in
        rw (eq-eqb (number_of r) 41 q) (omega arith, omega arith)
    go (no n) =
        let s = (one_offer.refused_changes_nothing h x c r e n).marks in
        rw (ne_eqb (number_of r) 41 n) (omega (arith, ap held_count s, ap barred_count s), omega (arith, ap barred_count s))

-- ---- the tallies and the marks, side by side

record Agree (x : Session) : Type 0 where
  fresh : x.tallies.fresh ≡ held_count x.marks + barred_count x.marks
  conflicts : tally_of x.tallies 41 ≡ barred_count x.marks
  places : length x.tallies.refused ≡ 13

agree_next : (h : Head) (x : Session) (c : List ℕ) → Agree x → Agree (after h x c)
agree_next h x c a =
    let m = moves h x c (verdict_of h x c) refl in
    let f = fresh_step x.tallies (verdict_of h x c) in
    let r = refused_step x.tallies (verdict_of h x c) 41 (lit≤ tt) (lit≤ tt) (tallies_count.numbers h x c) a.places in
    let t = after_tallies h x c in
    record {
      fresh = rw t (f ∙ omega (arith, m.0, a.fresh));
      conflicts = rw t (r.0 ∙ omega (arith, m.1, a.conflicts));
      places = rw t r.1;
    }

agree-all : (h : Head) (x : Session) (cs : List (List ℕ)) → Agree x → Agree (after_all h x cs)
unfolding after_all
agree-all h x [] a = a
agree-all h x (c ∷ cs) a = agree-all h (after h x c) cs (agree_next h x c a)

agree-blank : (h : Head) → Agree (blank h)
unfolding held count barred_count
agree-blank h = record {
  fresh = omega (arith, none_in_zeros is_held held_count held_more refl refl (h.n + h.m), none_in_zeros (λ (a : ℕ). eqb a 2) barred_count barred_more refl refl (h.n + h.m));
  conflicts = sym (none_in_zeros (λ (a : ℕ). eqb a 2) barred_count barred_more refl refl (h.n + h.m));
  places = refl;
}

pub fresh-counts : (h : Head) (cs : List (List ℕ))
    → (after_all h (blank h) cs).tallies.fresh ≡ held_count (after_all h (blank h) cs).marks + barred_count (after_all h (blank h) cs).marks
fresh-counts h cs = (agree-all h (blank h) cs (agree-blank h)).fresh

pub conflicts_count : (h : Head) (cs : List (List ℕ)) → tally_of (after_all h (blank h) cs).tallies 41 ≡ barred_count (after_all h (blank h) cs).marks
conflicts_count h cs = (agree-all h (blank h) cs (agree-blank h)).conflicts
