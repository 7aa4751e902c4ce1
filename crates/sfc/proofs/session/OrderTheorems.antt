-- What the order of offers decides and what it does not (specs/session/OrderTheorems). Assumes nothing.
use Prim.Native.Nat.{ℕ, ◌+◌, ◌-◌, ◌*◌, ◌≤◌, ◌<◌}
use mathlib.Core.Path.{◌≡◌, refl, sym, ap, ◌∙◌, subst}
use mathlib.Core.Logic.{◌≢◌}
use mathlib.Core.Bool.{Bool, true, false, cond, not, ◌&&◌, ◌||◌}
use mathlib.Core.List.{List, [], ◌∷◌, ◌++◌, append-nil, Permᴰ}
use native.Mathlib.Decide.{ℕ_discrete}
use native.Mathlib.Omega.{arith}
use borrow.Author.Tests.{eqb-false, eq-eqb, ne_eqb, ltb-true, ltb-false}
use lib.Dec.{eqb, ltb, lit≤}
use lib.ListN.{length, get_or, set, length-set}
use lib.Seq.{get_or-set_same, get_or-set_other, set_out}
use Rattle.little.specs.Parts.{block}
use Rattle.little.specs.Runs.{same}
use Rattle.little.proofs.Laws.{test_laws, same_laws}
use Rattle.sfc.specs.answer.Numbers.{verdict, passes, number_of, Checked}
use Rattle.sfc.specs.answer.Places.{number, place}
use Rattle.sfc.specs.format.Chunk.{index_of, payload_of, chunk_checks}
use Rattle.sfc.specs.session.Lent.{shape_wrong}
use Rattle.sfc.specs.session.Tallies.{sum, total, tally_of, tally_full, counted_refusal, counted}
use Rattle.sfc.specs.session.Session.{Session, blank, mark, block_of, session_wrong, mark_checks, welcomed, verdict_of, after}
use Rattle.sfc.specs.session.History.{after_all, verdicts}
use Rattle.sfc.specs.session.SessionTheorems.{ShortOf43, is_refusal}
use Rattle.sfc.specs.session.OrderTheorems.{Differing, copy_first, copy_last, counted_all, TellsOrder, OfChunkAlone, OrderTheorems}
use Rattle.sfc.specs.writing.Writer.{compression, erasure_for, chunk_bytes}
use Rattle.sfc.specs.declared.format.header.Head.{Head}
use Rattle.sfc.specs.declared.session.tallies.Tallies.{Tallies}
use Rattle.sfc.specs.declared.answer.reason.Reason.{Reason}
use Rattle.sfc.specs.declared.answer.reason.Reason.TheVariants.{Conflict, Barred}
use Rattle.sfc.specs.declared.session.offer.Verdict.{Verdict}
use Rattle.sfc.specs.declared.session.offer.Verdict.TheVariants.{Fresh, Repeat, Refused}
use Rattle.sfc.proofs.answer.CheckLaws.{passes_good, good_passes, refused_then}
use Rattle.sfc.proofs.session.MarkLaws.{right_shape}
use Rattle.sfc.proofs.session.TallyLaws.{counts-one}
use Rattle.sfc.proofs.session.SessionLaws.{judged-session, lent_refused, past_two, past_all, verdict-fresh, verdict_repeat, verdict_conflict, verdict_barred}
use Rattle.sfc.proofs.session.HistoryLaws.{after_tallies, total-counted, not_full, perm_length, many_offers}
use Rattle.sfc.proofs.session.OfferLaws.{one_offer}
use Rattle.sfc.proofs.session.CountLaws.{tallies_count}
use Rattle.sfc.proofs.session.TallyMarks.{fresh-counts, conflicts_count}
use Rattle.sfc.proofs.session.RightLaws.{zero-at, blank_right}
use Rattle.sfc.proofs.writing.ChunkBack.{Made, index_back, payload-back, chunk_good}
use Rattle.std.specs.Prelude.{Ok, Err}

-- ---- the tallies of a history are counted from its verdicts

tallies_of : (h : Head) (x : Session) (cs : List (List ℕ)) → (after_all h x cs).tallies ≡ counted_all x.tallies (verdicts h x cs)
unfolding after_all verdicts counted_all
tallies_of h x [] = refl
tallies_of h x (c ∷ cs) = tallies_of h (after h x c) cs ∙ ap (λ (t : Tallies). counted_all t (verdicts h (after h x c) cs)) (after_tallies h x c)

-- one offer takes at most one of the tallies' room
less_room : (h : Head) (x : Session) (c : List ℕ) → total (after h x c).tallies ≤ total x.tallies + 1
less_room h x c = rw (after_tallies h x c) (total-counted x.tallies (verdict_of h x c))

-- ---- two payloads for one index that is absent

module _ (h : Head) (x : Session) (c d : List ℕ) (r : session_wrong h x ≡ false) (s : ShortOf43 x 3) (g : Differing h c d) (absent : mark x (index_of c) ≡ 0) where
  abbrev one : Session
  one = after h x c

  fresh-first : verdict_of h x c ≡ Fresh (number (index_of c)) (place (index_of c * h.s))
  fresh-first = verdict-fresh h x c (record { lent = r; room = not_full x.tallies (omega arith); whole = passes_good (chunk_checks h c) g.passes-first }) absent

  one_right : session_wrong h one ≡ false
  one_right = one_offer.lent_stays h x c r

  held : mark one (index_of c) ≡ 1
  held = (one_offer.fresh_changes_one h x c (index_of c) (index_of c * h.s) fresh-first).3.new_mark

  kept : block_of h one (index_of c) ≡ payload_of c
  kept = (one_offer.fresh_changes_one h x c (index_of c) (index_of c * h.s) fresh-first).3.new_block

  -- c again
  repeat_second : verdict_of h one c ≡ Repeat (number (index_of c)) (place (index_of c * h.s))
  repeat_second =
      verdict_repeat h one c (record { lent = one_right; room = not_full one.tallies (omega (arith, less_room h x c)); whole = passes_good (chunk_checks h c) g.passes-first })
      held (ap (λ (l : List ℕ). same l (payload_of c)) kept ∙ same_laws.same_refl (payload_of c))

  -- d, in a session that holds the payload of c
  conflict_in : (y : Session) → session_wrong h y ≡ false → total y.tallies < 4294967295 → mark y (index_of c) ≡ 1 → block_of h y (index_of c) ≡ payload_of c
      → verdict_of h y d ≡ Refused Conflict
  conflict_in y w t m b =
      verdict_conflict h y d (record { lent = w; room = not_full y.tallies t; whole = passes_good (chunk_checks h d) g.passes-second })
      (ap (mark y) g.one_index ∙ m)
      (same_laws.same_differ (block_of h y (index_of d)) (payload_of d) (λ e. g.payloads (sym b ∙ sym (ap (block_of h y) g.one_index) ∙ e)))

  conflict_third : verdict_of h (after h one c) d ≡ Refused Conflict
  conflict_third =
      let q = (one_offer.repeat_changes_nothing h one c (index_of c) (index_of c * h.s) repeat_second).4 in
      conflict_in (after h one c) (one_offer.lent_stays h one c one_right) (omega (arith, less_room h x c, less_room h one c))
      (ap (λ (l : List ℕ). get_or l (index_of c) 0) q.marks ∙ held)
      (ap (λ (l : List ℕ). block h.s l (index_of c)) q.store ∙ kept)

  conflict_second : verdict_of h one d ≡ Refused Conflict
  conflict_second = conflict_in one one_right (omega (arith, less_room h x c)) held kept

  barred_third : verdict_of h (after h one d) c ≡ Refused Barred
  barred_third =
      let q = (one_offer.barring_changes_one h one d Conflict conflict_second refl).2 in
      verdict_barred h (after h one d) c
      (record {
        lent = one_offer.lent_stays h one d one_right;
        room = not_full (after h one d).tallies (omega (arith, less_room h x c, less_room h one d));
        whole = passes_good (chunk_checks h c) g.passes-first;
      })
      (ap (mark (after h one d)) (sym g.one_index) ∙ q.new_mark)

  first : verdicts h x (c ∷ c ∷ d ∷ []) ≡ copy_first h c
  unfolding verdicts
  first = rw (fresh-first, repeat_second, conflict_third)

  last : verdicts h x (c ∷ d ∷ c ∷ []) ≡ copy_last h c
  unfolding verdicts
  last = rw (fresh-first, conflict_second, barred_third)

  first_counted : (after_all h x (c ∷ c ∷ d ∷ [])).tallies ≡ counted_all x.tallies (copy_first h c)
  first_counted = tallies_of h x (c ∷ c ∷ d ∷ []) ∙ ap (counted_all x.tallies) first

  last_counted : (after_all h x (c ∷ d ∷ c ∷ [])).tallies ≡ counted_all x.tallies (copy_last h c)
  last_counted = tallies_of h x (c ∷ d ∷ c ∷ []) ∙ ap (counted_all x.tallies) last

  repeats : (counted_all x.tallies (copy_first h c)).repeat ≡ (counted_all x.tallies (copy_last h c)).repeat + 1
  unfolding counted_all counted counted_refusal
  repeats = refl

  order_tells : TellsOrder h x c d
  order_tells = record {
    first-verdicts = first;
    last_verdicts = last;
    first_tallies = first_counted;
    last_tallies = last_counted;
    one_repeat = ap (λ (t : Tallies). t.repeat) first_counted ∙ repeats ∙ ap (λ (t : Tallies). t.repeat + 1) (sym last_counted);
    same_kept = many_offers.order_free h x (c ∷ c ∷ d ∷ []) (c ∷ d ∷ c ∷ []) (Permᴰ.cons refl (Permᴰ.swap refl refl)) s;
  }

-- ---- such chunks, as the writer makes them

module _ (h : Head) (u : length h.uuid ≡ 16) (w : shape_wrong h.size h.n h.m h.s ≡ false) (ec : h.compression ≡ compression) (ee : h.erasure ≡ erasure_for h.m)
    (i : ℕ) (inside : i < h.n + h.m) where
  abbrev laid : List ℕ → List ℕ
  laid p = chunk_bytes h.uuid h.n h.m h.s i p

  record Laid (p c : List ℕ) : Type 0 where
    whole : passes (chunk_checks h c) ≡ true
    index : index_of c ≡ i
    payload : payload_of c ≡ p

  laid_good : (p : List ℕ) → length p ≡ h.s → Laid p (laid p)
  laid_good p l =
      let r = right_shape h.size h.n h.m h.s w in
      let m : Made h i p = record {
        uuid_long = u;
        erasure = ee;
        compression_none = ec;
        s_small = omega (arith, r.s_most);
        all_small = omega (arith, r.n_most, r.m_most);
        inside = inside;
        payload_long = l;
      } in
      subst (Laid p) (append-nil (laid p)) (record {
        whole = good_passes (chunk_checks h (laid p ++ [])) (chunk_good h i p [] m);
        index = index_back h i p [] m;
        payload = payload-back h i p [] m;
      })

  short : ShortOf43 (blank h) 3
  unfolding sum
  short = lit≤ tt

  order_example : (p q : List ℕ) → length p ≡ h.s → length q ≡ h.s → p ≢ q → TellsOrder h (blank h) (laid p) (laid q)
  order_example p q lp lq n =
      let a = laid_good p lp in
      let b = laid_good q lq in
      order_tells h (blank h) (laid p) (laid q) (blank_right h w).lent short
      (record { passes-first = a.whole; passes-second = b.whole; one_index = b.index ∙ sym a.index; payloads = λ e. n (sym a.payload ∙ e ∙ b.payload) })
      (zero-at (h.n + h.m) (index_of (laid p)))

-- ---- the tallies of 30 to 40

module _ (h : Head) (k : ℕ) (alone : OfChunkAlone k) where
  -- whether a chunk's own checks refuse it by k
  unfoldable by_itself : Checked → Bool
  by_itself (Ok u) = false
  by_itself (Err r) = eqb (number_of r) k

  -- how many of some chunks, each counted as u
  unfoldable counts : ℕ → List (List ℕ) → ℕ
  counts u [] = 0
  counts u (c ∷ cs) = cond (by_itself (verdict (chunk_checks h c))) u 0 + counts u cs

  counts_same : (u : ℕ) {cs ds : List (List ℕ)} → Permᴰ cs ds → counts u cs ≡ counts u ds
  unfolding counts
  counts_same u Permᴰ.nil = refl
  counts_same u (Permᴰ.cons {a = a} {b = b} e p) = rw (← e) (omega (arith, counts_same u p))
  counts_same u (Permᴰ.swap {a = a} {b = b} e f) = rw (← e, ← f) (omega arith)
  counts_same u (Permᴰ.trans p q) = counts_same u p ∙ counts_same u q

  -- a session's verdict refuses by k just where the chunk's own checks do
  marks-others : (a b e : Bool) (v w : Verdict) → is_refusal k v ≡ false → is_refusal k w ≡ false
      → is_refusal k (cond a (Refused Barred) (cond b (Refused Conflict) (cond e v w))) ≡ false
  marks-others true b e v w p q = ne_eqb 42 k (λ z. omega (arith, alone.1))
  marks-others false true e v w p q = ne_eqb 41 k (λ z. omega (arith, alone.1))
  marks-others false false true v w p q = p
  marks-others false false false v w p q = q

  refused_alike : (x : Session) (c : List ℕ) → session_wrong h x ≡ false → tally_full x.tallies ≡ false → is_refusal k (verdict_of h x c) ≡ by_itself (verdict (chunk_checks h c))
  unfolding by_itself
  refused_alike x c r f = go (verdict (chunk_checks h c)) refl
    where
      go : (v : Checked) → verdict (chunk_checks h c) ≡ v → is_refusal k (verdict_of h x c) ≡ by_itself (verdict (chunk_checks h c))
      go (Err q) e = rw e (ap (is_refusal k) (past_two h x c r f ∙ refused_then Refused (chunk_checks h c) (mark_checks h x c) (welcomed h x c) q e))
      go (Ok tt) e =
          let barred = eqb (mark x (index_of c)) 2 in
          let other = eqb (mark x (index_of c)) 1 && not (same (block_of h x (index_of c)) (payload_of c)) in
          let absent = eqb (mark x (index_of c)) 0 in
          let i = number (index_of c) in
          let p = place (index_of c * h.s) in
          rw e (ap (is_refusal k) (past_all h x c (record { lent = r; room = f; whole = e })) ∙ marks-others barred other absent (Fresh i p) (Repeat i p) refl refl)

  -- what one refusal adds to the tally of k: 1, or 0 where the tallies have no such place
  abbrev unit : Tallies → ℕ
  unit t = cond (ltb (k - 30) (length t.refused)) 1 0

  -- t' has so much more at k than t, and as many places
  abbrev Adds : Tallies → Tallies → ℕ → Type 0
  Adds t t' u = (tally_of t' k ≡ tally_of t k + u) × (length t'.refused ≡ length t.refused)

  abbrev raised : Tallies → ℕ → Tallies
  raised t n = record { fresh = t.fresh; repeat = t.repeat; refused = set t.refused (n - 30) (tally_of t n + 1) }

  raises : (t : Tallies) → Adds t (raised t k) (unit t)
  raises t = go (ltb (k - 30) (length t.refused)) refl
    where
      go : (b : Bool) → ltb (k - 30) (length t.refused) ≡ b → Adds t (raised t k) (cond (ltb (k - 30) (length t.refused)) 1 0)
      go true e = rw e (
        get_or-set_same t.refused (k - 30) (tally_of t k + 1) 0 (ltb-true (k - 30) (length t.refused) e),
        length-set t.refused (k - 30) (tally_of t k + 1),
      )
      go false e = rw (e, set_out t.refused (k - 30) (tally_of t k + 1) (ltb-false (k - 30) (length t.refused) e)) (omega arith, refl)

  -- another number's refusal
  leaves : (t : Tallies) (n : ℕ) → n ≢ k → (n ≢ 71 → n ≢ 43 → (30 ≤ n) × (n ≤ 42)) → Adds t (counted_refusal t n) 0
  unfolding counted_refusal
  leaves t n d o = go (eqb n 71 || eqb n 43) refl
    where
      go : (b : Bool) → (eqb n 71 || eqb n 43) ≡ b → Adds t (cond b t (raised t n)) 0
      go true e = (omega arith, refl)
      go false e =
          let f = test_laws.or-false (eqb n 71) (eqb n 43) e in
          let q : (30 ≤ n) × (n ≤ 42) = o (eqb-false n 71 f.0) (eqb-false n 43 f.1) in (
            get_or-set_other t.refused (n - 30) (k - 30) (tally_of t n + 1) 0 (λ z. d (omega (arith, q.0, alone.0))) ∙ omega arith,
            length-set t.refused (n - 30) (tally_of t n + 1),
          )

  refusal_adds : (t : Tallies) (n : ℕ) → (n ≢ 71 → n ≢ 43 → (30 ≤ n) × (n ≤ 42)) → Adds t (counted_refusal t n) (cond (eqb n k) (unit t) 0)
  refusal_adds t n o = go (ℕ_discrete n k)
    where
      go : Dec (n ≡ k) → Adds t (counted_refusal t n) (cond (eqb n k) (unit t) 0)
      go (yes e) = rw (eq-eqb n k e, e, counts-one t k alone.0 (omega (arith, alone.1))) (raises t)
      go (no d) = rw (ne_eqb n k d) (leaves t n d o)

  verdict_adds : (t : Tallies) (v : Verdict) → ((r : Reason) → v ≡ Refused r → number_of r ≢ 71 → number_of r ≢ 43 → (30 ≤ number_of r) × (number_of r ≤ 42))
      → Adds t (counted t v) (cond (is_refusal k v) (unit t) 0)
  unfolding counted
  verdict_adds t (Fresh i p) o = (omega arith, refl)
  verdict_adds t (Repeat i p) o = (omega arith, refl)
  verdict_adds t (Refused r) o = refusal_adds t (number_of r) (o r refl)

  offer_adds : (x : Session) (c : List ℕ) → session_wrong h x ≡ false → tally_full x.tallies ≡ false
      → Adds x.tallies (after h x c).tallies (cond (by_itself (verdict (chunk_checks h c))) (unit x.tallies) 0)
  offer_adds x c r f =
      rw (after_tallies h x c, ← refused_alike x c r f) (verdict_adds x.tallies (verdict_of h x c) (tallies_count.numbers h x c))

  tally_counts : (x : Session) (cs : List (List ℕ)) → session_wrong h x ≡ false → ShortOf43 x (length cs)
      → tally_of (after_all h x cs).tallies k ≡ tally_of x.tallies k + counts (unit x.tallies) cs
  unfolding after_all counts
  tally_counts x [] r s = omega arith
  tally_counts x (c ∷ cs) r s =
      let a = offer_adds x c r (not_full x.tallies (omega arith)) in
      let u : counts (unit (after h x c).tallies) cs ≡ counts (unit x.tallies) cs =
      ap (λ (n : ℕ). counts (cond (ltb (k - 30) n) 1 0) cs) a.1 in
      omega (arith, tally_counts (after h x c) cs (one_offer.lent_stays h x c r) (omega (arith, less_room h x c)), a.0, u)

-- what is lent wrongly stays as it is
wrong_stays : (h : Head) (x : Session) (cs : List (List ℕ)) → session_wrong h x ≡ true → after_all h x cs ≡ x
unfolding after_all
wrong_stays h x [] e = refl
wrong_stays h x (c ∷ cs) e =
    ap (λ (y : Session). after_all h y cs) (sym (judged-session h x c) ∙ ap (λ o. o.session) (sym (lent_refused h x c e)))
    ∙ wrong_stays h x cs e

thirties_order_free : (h : Head) (x : Session) (cs ds : List (List ℕ)) → Permᴰ cs ds → ShortOf43 x (length cs) → (k : ℕ) → OfChunkAlone k
    → tally_of (after_all h x cs).tallies k ≡ tally_of (after_all h x ds).tallies k
thirties_order_free h x cs ds p s k alone = go (session_wrong h x) refl
  where
    go : (b : Bool) → session_wrong h x ≡ b → tally_of (after_all h x cs).tallies k ≡ tally_of (after_all h x ds).tallies k
    go true e = ap (λ (y : Session). tally_of y.tallies k) (wrong_stays h x cs e ∙ sym (wrong_stays h x ds e))
    go false e =
        tally_counts h k alone x cs e s
        ∙ ap (λ (n : ℕ). tally_of x.tallies k + n) (counts_same h k alone (cond (ltb (k - 30) (length x.tallies.refused)) 1 0) p)
        ∙ sym (tally_counts h k alone x ds e (omega (arith, perm_length p)))

pub order_theorems : OrderTheorems
order_theorems = record {
  order_tells = order_tells;
  order_example = λ h u w ec ee i inside p q. order_example h u w ec ee i inside p q;
  thirties_order_free = thirties_order_free;
  fresh-counts = fresh-counts;
  conflicts_count = conflicts_count;
}
