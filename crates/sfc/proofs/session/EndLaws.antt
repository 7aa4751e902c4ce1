-- What each index comes to follows from the payloads that came for it (SessionTheorems, EndState). Assumes nothing.
use Prim.Native.Nat.{ℕ, ◌+◌, ◌*◌, ◌<◌}
use mathlib.Core.Path.{◌≡◌, refl, sym, ap, ap₂, ◌∙◌}
use mathlib.Core.Bool.{Bool, true, false, cond, ◌&&◌}
use mathlib.Core.List.{List, [], ◌∷◌}
use native.Mathlib.Decide.{ℕ_discrete}
use native.Mathlib.Omega.{arith}
use borrow.Author.Tests.{eq-eqb, ne_eqb}
use lib.Dec.{eqb}
use lib.ListN.{length, get_or, length-replicate}
use lib.Seq.{get_or-set_same, get_or-set_other, ext_get_or}
use Rattle.little.specs.Parts.{block}
use Rattle.little.proofs.Laws.{part_laws, block_laws}
use Rattle.little.specs.Runs.{zeros, same}
use Rattle.sfc.specs.answer.Numbers.{verdict, passes, Checked}
use Rattle.sfc.specs.format.Chunk.{index_of, payload_of, chunk_checks}
use Rattle.sfc.specs.session.Session.{blank}
use Rattle.sfc.specs.session.History.{payloads_for, all_same, end_of}
use Rattle.sfc.specs.session.SessionTheorems.{EndState}
use Rattle.sfc.specs.declared.format.header.Head.{Head}
use Rattle.sfc.proofs.answer.CheckLaws.{good_passes, wrong_fails}
use Rattle.sfc.proofs.session.BlockSteps.{done, done_absent, done_copy, done_differs, done_barred, Kept, Sound, done_at, laid_at, keeps}
use Rattle.sfc.proofs.session.HistoryLaws.{kept_of, kept_wrong, sound, keep, keep_foreign, keep_good, keep_right, good_brings, keep_all, kept-all}
use Rattle.sfc.proofs.session.RightLaws.{zero-at}
use Rattle.std.specs.Prelude.{Ok, Err}

-- ---- one block under a list of payloads

pub done_all : List ℕ × ℕ → List (List ℕ) → List ℕ × ℕ
done_all y [] = y
done_all y (p ∷ ps) = done_all (done y.1 y.0 p) ps

barred_stays : (b : List ℕ) (ps : List (List ℕ)) → done_all (b, 2) ps ≡ (b, 2)
unfolding done_all
barred_stays b [] = refl
barred_stays b (p ∷ ps) = ap (λ (y : List ℕ × ℕ). done_all y ps) (done_barred b p 0) ∙ barred_stays b ps

held-end : (s : ℕ) (p : List ℕ) (ps : List (List ℕ)) → length p ≡ s → done_all (p, 1) ps ≡ cond (all_same p ps) (p, 1) (zeros s, 2)
unfolding done_all all_same
held-end s p [] l = refl
held-end s p (q ∷ qs) l = go (same p q) refl (held-end s p qs l)
  where
    go : (t : Bool) → same p q ≡ t → done_all (p, 1) qs ≡ cond (all_same p qs) (p, 1) (zeros s, 2) → done_all (done 1 p q) qs ≡ cond (same p q && all_same p qs) (p, 1) (zeros s, 2)
    go true e ih = rw (done_copy p q e, e) ih
    go false e ih = rw (done_differs p q e, e, l) (barred_stays (zeros s) qs)

abbrev FirstLong : ℕ → List (List ℕ) → Type 0
FirstLong s [] = Unit {0}
FirstLong s (p ∷ ps) = length p ≡ s

absent_end : (s : ℕ) (ps : List (List ℕ)) → FirstLong s ps → done_all (zeros s, 0) ps ≡ end_of s ps
unfolding done_all end_of
absent_end s [] l = refl
absent_end s (p ∷ ps) l = ap (λ (y : List ℕ × ℕ). done_all y ps) (done_absent (zeros s) p) ∙ held-end s p ps l

-- ---- in the store

module _ (h : Head) (i : ℕ) (inside : i < h.n + h.m) where
  abbrev there : Kept → List ℕ × ℕ
  there k = (block h.s k.store i, get_or k.marks i 0)

  -- a payload for i, or for another index
  here : (k : Kept) → Sound h.s (h.n + h.m) k → (p : List ℕ) → length p ≡ h.s → there (laid_at h.s (h.n + h.m) k i p) ≡ done_at h.s (h.n + h.m) k i p
  here k g p l =
      ap₂ (λ (b : List ℕ) (m : ℕ). (b, m))
      (block_laws.block-put h.s (h.n + h.m) k.store g.store_long i inside (done_at h.s (h.n + h.m) k i p).0 (keeps h.s (h.n + h.m) k g i inside p l).0)
      (get_or-set_same k.marks i (done_at h.s (h.n + h.m) k i p).1 0 (omega (arith, g.marks_long)))

  away : (k : Kept) → Sound h.s (h.n + h.m) k → (j : ℕ) → j < h.n + h.m → (j ≡ i → ⊥) → (p : List ℕ) → length p ≡ h.s → there (laid_at h.s (h.n + h.m) k j p) ≡ there k
  away k g j q d p l =
      ap₂ (λ (b : List ℕ) (m : ℕ). (b, m))
      (block_laws.block-put-other h.s (h.n + h.m) k.store g.store_long j q (done_at h.s (h.n + h.m) k j p).0 (keeps h.s (h.n + h.m) k g j q p l).0 i inside d)
      (get_or-set_other k.marks j i (done_at h.s (h.n + h.m) k j p).1 0 (λ e. d (sym e)))

  all_there : (k : Kept) (cs : List (List ℕ)) → kept_wrong h k ≡ false → there (keep_all h k cs) ≡ done_all (there k) (payloads_for h i cs)
  unfolding keep_all payloads_for done_all
  all_there k [] e = refl
  all_there k (c ∷ cs) e = go (verdict (chunk_checks h c)) (ℕ_discrete (index_of c) i) refl (all_there (keep h k c) cs (keep_right h k c e))
    where
      go : (v : Checked) → Dec (index_of c ≡ i) → verdict (chunk_checks h c) ≡ v → there (keep_all h (keep h k c) cs) ≡ done_all (there (keep h k c)) (payloads_for h i cs)
          → there (keep_all h (keep h k c) cs) ≡ done_all (there k) (cond (passes (chunk_checks h c) && eqb (index_of c) i) (payload_of c ∷ payloads_for h i cs) (payloads_for h i cs))
      go (Err r) d f ih = rw (wrong_fails (chunk_checks h c) r f) (ih ∙ ap (λ (l : Kept). done_all (there l) (payloads_for h i cs)) (keep_foreign h k c r f))
      go (Ok tt) (yes d) f ih =
          let b = good_brings h k c e f in
          rw (good_passes (chunk_checks h c) f, eq-eqb (index_of c) i d)
          (ih ∙ ap (λ (l : Kept). done_all (there l) (payloads_for h i cs)) (keep_good h k c e f)
          ∙ ap (λ (j : ℕ). done_all (there (laid_at h.s (h.n + h.m) k j (payload_of c))) (payloads_for h i cs)) d
          ∙ ap (λ (y : List ℕ × ℕ). done_all y (payloads_for h i cs)) (here k (sound h k e) (payload_of c) b.long))
      go (Ok tt) (no d) f ih =
          let b = good_brings h k c e f in
          rw (good_passes (chunk_checks h c) f, ne_eqb (index_of c) i d)
          (ih ∙ ap (λ (l : Kept). done_all (there l) (payloads_for h i cs)) (keep_good h k c e f)
          ∙ ap (λ (y : List ℕ × ℕ). done_all y (payloads_for h i cs)) (away k (sound h k e) (index_of c) b.inside d (payload_of c) b.long))

  first_long : (k : Kept) (cs : List (List ℕ)) → kept_wrong h k ≡ false → FirstLong h.s (payloads_for h i cs)
  unfolding payloads_for
  first_long k [] e = tt
  first_long k (c ∷ cs) e = go (verdict (chunk_checks h c)) (eqb (index_of c) i) refl (first_long k cs e)
    where
      go : (v : Checked) (t : Bool) → verdict (chunk_checks h c) ≡ v → FirstLong h.s (payloads_for h i cs)
          → FirstLong h.s (cond (passes (chunk_checks h c) && t) (payload_of c ∷ payloads_for h i cs) (payloads_for h i cs))
      go (Err r) t f ih = rw (wrong_fails (chunk_checks h c) r f) ih
      go (Ok u) true f ih = rw (good_passes (chunk_checks h c) f) (good_brings h k c e f).long
      go (Ok u) false f ih = rw (good_passes (chunk_checks h c) f) ih

-- ---- a session that starts blank

blank-block : (s n i : ℕ) → i < n → block s (zeros (n * s)) i ≡ zeros s
blank-block s n i h =
    let l : length (zeros (n * s)) ≡ n * s = length-replicate {A = ℕ} (n * s) 0 in
    ext_get_or 0 _ _ (block_laws.length-block s n (zeros (n * s)) l i h ∙ sym (length-replicate {A = ℕ} s 0))
    (λ k u. part_laws.get_or-part (zeros (n * s)) (i * s) s k (omega (arith, block_laws.length-block s n (zeros (n * s)) l i h)) ∙ zero-at (n * s) (i * s + k) ∙ sym (zero-at s k))

pub end-state : EndState
end-state h cs i e s inside =
    ap (there h i inside) (kept-all h (blank h) cs s) ∙ all_there h i inside (kept_of (blank h)) cs e
    ∙ ap (λ (y : List ℕ × ℕ). done_all y (payloads_for h i cs))
    (ap₂ (λ (b : List ℕ) (m : ℕ). (b, m)) (blank-block h.s (h.n + h.m) i inside) (zero-at (h.n + h.m) i))
    ∙ absent_end h.s (payloads_for h i cs) (first_long h i inside (kept_of (blank h)) cs e)
