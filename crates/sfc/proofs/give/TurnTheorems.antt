-- Turns and releases (specs/give/TurnTheorems.antt), from the invariant of ColumnLaws. Assumes nothing.
use Prim.Native.Nat.{ℕ, ◌+◌, ◌-◌, ◌*◌, ◌/◌, ◌%◌, ◌<◌, ◌≤◌, min}
use mathlib.Core.Path.{◌≡◌, refl, sym, ap, ◌∙◌}
use mathlib.Core.Bool.{Bool, true, false, cond}
use mathlib.Core.Logic.{⊎_elim, ◌↔◌}
use mathlib.Core.List.{List, [], ◌∷◌}
use native.Mathlib.Omega.{arith}
use native.Mathlib.Nat.{min-eq_left, min_comm, mul-le-mul_right, suc-mul, div-add-mod', mod-lt}
use borrow.Author.Tests.{eq-eqb, le-ltb, ltb-false, not-false}
use lib.ListN.{length, get_or, length-replicate}
use Rattle.little.specs.Parts.{put}
use Rattle.little.specs.Runs.{zeros, same}
use Rattle.little.proofs.Laws.{test_laws, same_laws}
use Rattle.blake3.specs.Tree.{hash}
use Rattle.cauchy.specs.Code.{word_of}
use Rattle.cauchy.specs.Calls.{rebuilt_scratch}
use Rattle.cauchy.proofs.Laws.{scratch_laws}
use Rattle.cauchy.proofs.Theorems.{theorems}
use Rattle.sfc.specs.answer.Numbers.{checked, verdict, passes, Checked}
use Rattle.sfc.specs.answer.Places.{place, columns, complete}
use Rattle.sfc.specs.session.Marks.{held_count}
use Rattle.sfc.specs.session.Lent.{lent_wrong, columns_wrong, lent_of, rebuild_wrong}
use Rattle.sfc.specs.session.Tallies.{no_tallies, sum}
use Rattle.sfc.specs.session.Session.{Session, session_of}
use Rattle.sfc.specs.give.HandOut.{content_checks, hand_out}
use Rattle.sfc.specs.session.History.{after_all}
use Rattle.sfc.specs.session.Offer.{Logged, logged, blank_logged, beside_wrong, offer_verdict, logged_after}
use Rattle.sfc.specs.give.Turns.{gone, columns_left, Turning, turn_checks, turn_count, turn, turn_done, joined_of, release_lent, release_checks, release, Act, turning, acted, acted_all, offers_in}
use Rattle.sfc.specs.give.TurnTheorems.{missing_word, DidColumns, ColumnsRight, GoingOn, turns_in, Ready, Finished, Releasable, turns_of, in_turns, HandsOutAs, InTurns}
use Rattle.sfc.specs.declared.format.header.Head.{Head}
use Rattle.sfc.specs.declared.answer.places.BytePlace.{BytePlace}
use Rattle.sfc.specs.declared.answer.places.ColumnCount.{ColumnCount}
use Rattle.sfc.specs.declared.answer.reason.Reason.{Reason}
use Rattle.sfc.proofs.answer.CheckLaws.{good_all, let_through}
use Rattle.sfc.proofs.session.RightLaws.{zero-at}
use Rattle.sfc.proofs.session.SessionLaws.{right_lent}
use Rattle.sfc.proofs.session.KeptLaws.{RightBeside, beside_right, right_beside, own_offer, restart, goes_on}
use Rattle.sfc.proofs.give.RebuildLaws.{RightRebuild, right_rebuild}
use Rattle.sfc.proofs.give.TurnLaws.{right_columns, left_none, left_some}
use Rattle.sfc.proofs.give.ColumnLaws.{turn_good, turn-not, turn_past, lent_part, count_fits, Made, made_start, made-beside, made-turn, made-acted, kept_on, blank_scratch, made_hands_out}
use Rattle.sfc.specs.declared.give.release.Complete.{Complete}
use Rattle.std.specs.Prelude.{Result, Ok, Err}

-- ---- one turn

no_turn : {A : Type 0} (r : Reason) (k : ColumnCount) → ◌≡◌ {A = Result ColumnCount Reason} (Err r) (Ok k) → A
no_turn r k e = absurd (let z : ◌≡◌ {A = ℕ} 0 1 = cc in omega arith)

abbrev did_count : Result ColumnCount Reason → ℕ
did_count (Ok k) = k.0
did_count (Err r) = 0

did_one : (i k : ℕ) → ◌≡◌ {A = Result ColumnCount Reason} (Ok (columns i)) (Ok (columns k)) → k ≡ i
did_one i k e = sym (ap did_count e)

module _ (h : Head) (store marks scratch numbers : List ℕ) (f b k : ℕ) (e : (turn h store marks scratch numbers f b).answer ≡ Ok (columns k)) where
  did : verdict (turn_checks h store marks scratch numbers f) ≡ Ok tt
  did = go (verdict (turn_checks h store marks scratch numbers f)) refl
    where
      go : (v : Checked) → verdict (turn_checks h store marks scratch numbers f) ≡ v → v ≡ Ok tt
      go (Ok u) q = refl
      go (Err r) q = no_turn r (columns k) (sym (ap (λ (z : Turning). z.answer) (turn-not h store marks scratch numbers f b r q)) ∙ e)

  as_done : turn h store marks scratch numbers f b ≡ turn_done h store marks scratch f (turn_count h marks f b)
  as_done = turn_good h store marks scratch numbers f b did

  counted : k ≡ turn_count h marks f b
  counted = did_one (turn_count h marks f b) k (sym (ap (λ (z : Turning). z.answer) as_done) ∙ e)

  done : turn h store marks scratch numbers f b ≡ turn_done h store marks scratch f k
  done = as_done ∙ ap (turn_done h store marks scratch f) (sym counted)

  turn-counts : DidColumns h store marks scratch f b k (turn h store marks scratch numbers f b)
  turn-counts =
      let p = turn_past h store marks scratch numbers f did in
      let r = right_columns h.size h.n h.m h.s store marks scratch f p.right in
      let c : (turn h store marks scratch numbers f b).scratch ≡ rebuilt_scratch h.n h.m h.s marks store f k scratch = ap (λ (z : Turning). z.scratch) done in
      record {
        count = counted;
        finished = ap (λ (z : Turning). z.finished) done;
        long = ap length c ∙ scratch_laws.length-rebuilt h.n h.m h.s marks store f k scratch;
        right = λ l w hl hf hw. ap (λ (x : List ℕ). word_of h.s x l w) c
            ∙ theorems.decodes_words h.n h.m h.s marks store scratch f k r.right.shape.s_least r.right.shape.s_even r.right.marks_long
            r.beside.long p.enough (omega (arith, count_fits h marks f b r.beside.most, counted)) l w hl hf hw;
        else_kept = λ q o. ap (λ (x : List ℕ). get_or x q 0) c ∙ scratch_laws.else_kept h.n h.m h.s marks store f k scratch q o;
        numbers = ap (λ (z : Turning). z.numbers) done;
      }

-- ---- any history of a session

made_all : (h : Head) (acts : List Act) (y : Logged) → Made h (blank_scratch h) y → Made h (blank_scratch h) (acted_all h y acts)
unfolding acted_all
made_all h [] y k = k
made_all h (a ∷ acts) y k = made_all h acts (acted h y a) (made-acted h y k a)

pub made_history : (h : Head) (acts : List Act) → Made h (blank_scratch h) (acted_all h (blank_logged h) acts)
made_history h acts = made_all h acts (blank_logged h) (made_start h (blank_logged h).session (blank_scratch h) (length-replicate (h.m * h.s) 0))

columns_right : (h : Head) (acts : List Act) → ColumnsRight h (acted_all h (blank_logged h) acts)
columns_right h acts = record {
  most = k.most;
  enough = k.enough;
  long = (made-beside h (blank_scratch h) y k).long;
  right = right;
  else_zeros = λ q o. ap (λ (x : List ℕ). get_or x q 0) k.whole
      ∙ scratch_laws.else_kept h.n h.m h.s y.session.marks y.session.store 0 y.finished (blank_scratch h) q o ∙ zero-at (h.m * h.s) q;
}
  where
    y : Logged
    y = acted_all h (blank_logged h) acts

    k : Made h (blank_scratch h) y
    k = made_history h acts

    right : (l w : ℕ) → l < gone h.n y.session.marks → w < y.finished → word_of h.s y.scratch l w ≡ missing_word h y.session.store y.session.marks l w
    right l w hl hw =
        let r = right_lent h.size h.n h.m h.s y.session.store y.session.marks (k.lent (omega (arith, hw))) in
        ap (λ (x : List ℕ). word_of h.s x l w) k.whole
        ∙ theorems.decodes_words h.n h.m h.s y.session.marks y.session.store (blank_scratch h) 0 y.finished r.shape.s_least r.shape.s_even
        r.marks_long k.long (k.enough (omega (arith, hw))) (omega (arith, k.most)) l w hl (omega arith) (omega (arith, hw))

-- ---- turns alone, with offers that restart nothing between them

-- what a rebuild needs to go on
record Able (h : Head) (y : Logged) : Type 0 where
  right : columns_wrong h.size h.n h.m h.s y.session.store y.session.marks y.scratch y.finished ≡ false
  enough : h.n ≤ held_count y.session.marks
  some : 0 < gone h.n y.session.marks

able_most : (h : Head) (y : Logged) → Able h y → y.finished ≤ h.s / 2
able_most h y a = (right_columns h.size h.n h.m h.s y.session.store y.session.marks y.scratch y.finished a.right).beside.most

able_same : (h : Head) (y z : Logged) → z.session.store ≡ y.session.store → z.session.marks ≡ y.session.marks → z.scratch ≡ y.scratch
    → z.finished ≡ y.finished → Able h y → Able h z
able_same h y z es em ec ef a = record { right = rw (es, em, ec, ef) a.right; enough = rw em a.enough; some = rw em a.some }

right_again : (h : Head) (store marks scratch scratch' : List ℕ) (f f' : ℕ) → columns_wrong h.size h.n h.m h.s store marks scratch f ≡ false
    → length scratch' ≡ h.m * h.s → f' ≤ h.s / 2 → columns_wrong h.size h.n h.m h.s store marks scratch' f' ≡ false
unfolding columns_wrong
right_again h store marks scratch scratch' f f' e l m =
    rw (lent_part h.size h.n h.m h.s store marks scratch f e, beside_right h.m h.s scratch' f' (record { long = l; most = m }))

module _ (h : Head) (y : Logged) (a : Able h y) (numbers : List ℕ) (long : length numbers ≡ 1024) (b : ℕ) where
  goes : verdict (turn_checks h y.session.store y.session.marks y.scratch numbers y.finished) ≡ Ok tt
  goes = rw (a.right, eq-eqb (length numbers) 1024 long, le-ltb (held_count y.session.marks) h.n a.enough)

  -- it finishes the budget more, or all
  step_finished : (acted h y (Act.Turn numbers b)).finished ≡ y.finished + min b (h.s / 2 - y.finished)
  unfolding acted
  step_finished =
      ap (λ (z : Turning). z.finished) (turn_good h y.session.store y.session.marks y.scratch numbers y.finished b goes)
      ∙ ap (λ (k : ℕ). y.finished + min b k) (left_some h.n h.s y.session.marks y.finished (λ z. omega (arith, a.some, z)))

  able_turn : Able h (acted h y (Act.Turn numbers b))
  unfolding acted
  able_turn =
      let t = turn_good h y.session.store y.session.marks y.scratch numbers y.finished b goes in
      let r = right_columns h.size h.n h.m h.s y.session.store y.session.marks y.scratch y.finished a.right in
      record {
        right = right_again h y.session.store y.session.marks y.scratch (turning h y numbers b).scratch y.finished (turning h y numbers b).finished
            a.right
            (ap (λ (z : Turning). length z.scratch) t ∙ scratch_laws.length-rebuilt h.n h.m h.s y.session.marks y.session.store y.finished (turn_count h y.session.marks y.finished b) y.scratch ∙ r.beside.long)
            (omega (arith, ap (λ (z : Turning). z.finished) t, count_fits h y.session.marks y.finished b r.beside.most));
        enough = a.enough;
        some = a.some;
      }

-- so much is finished after k turns: the budgets together, or all
abbrev Grown : ℕ → ℕ → ℕ → Type 0
Grown f t half = (f ≤ half) × ((t ≤ half) → f ≡ t) × ((half ≤ t) → f ≡ half)

grown_min : (f t half : ℕ) → Grown f t half → f ≡ min t half
grown_min f t half g =
    ⊎_elim (λ (l : t < half). g.1 (omega (arith, l)) ∙ sym (min-eq_left (omega (arith, l)))) (λ (l : half ≤ t). g.2 l ∙ sym (min_comm t half ∙ min-eq_left l)) (test_laws.below_or t half)

min_step : (f b half : ℕ) → f ≤ half → Grown (f + min b (half - f)) (f + b) half
min_step f b half m =
    ⊎_elim
    (λ (l : b < half - f). let e : min b (half - f) ≡ b = min-eq_left (omega (arith, l)) in (omega (arith, e, l), λ u. omega (arith, e), λ u. absurd (omega (arith, l, u))))
    (λ (l : half - f ≤ b). let e : min b (half - f) ≡ half - f = min_comm b (half - f) ∙ min-eq_left l in (omega (arith, e, m), λ u. omega (arith, e, m, l, u), λ u. omega (arith, e, m)))
    (test_laws.below_or b (half - f))

grown_on : (f b half t k : ℕ) → f ≤ half → Grown t (f + min b (half - f) + k) half → Grown t (f + (b + k)) half
grown_on f b half t k m g =
    let s = min_step f b half m in (
      g.0,
      λ u. g.1 (omega (arith, s.1 (omega (arith, u)), u)) ∙ omega (arith, s.1 (omega (arith, u))),
      λ u. ⊎_elim (λ (l : f + b < half). g.2 (omega (arith, s.1 (omega (arith, l)), u))) (λ (l : half ≤ f + b). g.2 (omega (arith, s.2 l))) (test_laws.below_or (f + b) half),
    )

abbrev SoFar : Head → ℕ → Logged → List Act → Type 0
SoFar h b y acts =
    Grown (acted_all h y acts).finished (y.finished + turns_in acts * b) (h.s / 2) × ((acted_all h y acts).session.marks ≡ y.session.marks)

grown_as : {f t u half : ℕ} → t ≡ u → Grown f t half → Grown f u half
grown_as e g = rw e at g

so_far : (h : Head) (b : ℕ) (acts : List Act) (y : Logged) → Able h y → GoingOn h b y acts → SoFar h b y acts
unfolding acted_all turns_in acted
so_far h b [] y a g = ((able_most h y a, λ u. omega arith, λ u. omega (arith, able_most h y a, u)), refl)
so_far h b (Act.Offer c ∷ acts) y a g =
    let k = kept_on h y c g.0 in
    let o = goes_on h y c (offer_verdict h y c) refl g.0 in
    let r = so_far h b acts (logged_after h y c) (able_same h y (logged_after h y c) k.0 k.1 o.scratch o.finished a) g.1 in
    (grown_as (ap (λ (f : ℕ). f + turns_in acts * b) o.finished) r.0, r.1 ∙ k.1)
so_far h b (Act.Turn numbers budget ∷ acts) y a g =
    let r = so_far h b acts (acted h y (Act.Turn numbers budget)) (able_turn h y a numbers g.0 budget) g.2 in
    let e : (acted h y (Act.Turn numbers budget)).finished ≡ y.finished + min b (h.s / 2 - y.finished)
    = step_finished h y a numbers g.0 budget ∙ ap (λ (k : ℕ). y.finished + min k (h.s / 2 - y.finished)) g.1 in
    let w = grown_on y.finished b (h.s / 2) _ (turns_in acts * b) (able_most h y a) (grown_as (ap (λ (f : ℕ). f + turns_in acts * b) e) r.0) in
    (grown_as (omega (arith, suc-mul (turns_in acts) b)) w, r.1)
so_far h b (Act.Release out ∷ acts) y a g = absurd g

-- k turns of b columns come to so many columns just from the rounded quotient on
enough_turns : (half b k : ℕ) → 1 ≤ b → (half ≤ k * b) ↔ ((half + (b - 1)) / b ≤ k)
enough_turns half b k p = (to, from)
  where
    q : ℕ
    q = (half + (b - 1)) / b

    whole : q * b + (half + (b - 1)) % b ≡ half + (b - 1)
    whole = div-add-mod' (half + (b - 1)) b

    below : (half + (b - 1)) % b < b
    below = mod-lt (half + (b - 1)) (omega (arith, p))

    to : half ≤ k * b → q ≤ k
    to l =
        ⊎_elim (λ (u : q < k + 1). omega (arith, u)) (λ (u : k + 1 ≤ q). absurd (omega (arith, mul-le-mul_right {m = k + 1} {n = q} b u, suc-mul k b, l, whole, p))) (test_laws.below_or q (k + 1))

    from : q ≤ k → half ≤ k * b
    from l = omega (arith, mul-le-mul_right {m = q} {n = k} b l, whole, below, p)

turns_enough : (h : Head) (y : Logged) (b : ℕ) (acts : List Act) → Ready h y → 1 ≤ b → GoingOn h b y acts → Finished h b (turns_in acts) (acted_all h y acts)
turns_enough h y b acts r p g =
    let a : Able h y = record { right = r.right; enough = r.enough; some = r.some } in
    let s = so_far h b acts y a g in
    let w : Grown (acted_all h y acts).finished (turns_in acts * b) (h.s / 2) = from_start r.start s.0 in
    let left = left_some h.n h.s y.session.marks (acted_all h y acts).finished (λ z. omega (arith, r.some, z)) in
    let e : columns_left h.n h.s (acted_all h y acts).session.marks (acted_all h y acts).finished ≡ h.s / 2 - (acted_all h y acts).finished
    = ap (λ (m : List ℕ). columns_left h.n h.s m (acted_all h y acts).finished) s.1 ∙ left in
    let t = enough_turns (h.s / 2) b (turns_in acts) p in
    record {
      count = grown_min (acted_all h y acts).finished (turns_in acts * b) (h.s / 2) w;
      none_left = (
        λ z. t.0 (⊎_elim (λ (l : turns_in acts * b < h.s / 2). absurd (omega (arith, w.1 (omega (arith, l)), l, e, z))) (λ (l : h.s / 2 ≤ turns_in acts * b). l) (test_laws.below_or (turns_in acts * b) (h.s / 2))),
        λ z. e ∙ omega (arith, w.2 (t.1 z)),
      );
    }
  where
    from_start : {f : ℕ} → y.finished ≡ 0 → Grown f (y.finished + turns_in acts * b) (h.s / 2) → Grown f (turns_in acts * b) (h.s / 2)
    from_start z w = let q : y.finished + turns_in acts * b ≡ turns_in acts * b = omega (arith, z) in rw q at w

-- ---- a release

no_refusal : (r : Reason) (p : BytePlace) → ◌≡◌ {A = Result Complete Reason} (Err r) (Ok (complete p)) → ⊥
no_refusal r p e = let z : ◌≡◌ {A = ℕ} 0 1 = cc in omega arith

complete_one : (p q : BytePlace) → ◌≡◌ {A = Result Complete Reason} (Ok (complete p)) (Ok (complete q)) → p ≡ q
complete_one p q e = let f : complete p ≡ complete q = cc in ap (λ (c : Complete). c.end) f

module _ (h : Head) (store marks scratch : List ℕ) (f : ℕ) (out : List ℕ) where
  pub released : (p : BytePlace) → (release h store marks scratch f out).answer ≡ Ok (complete p) → Releasable h store marks scratch f out × (place h.size ≡ p)
  unfolding release
  released p e =
      let t = let_through Err (release_checks h store marks scratch f out) (Ok (complete (place h.size))) (Ok (complete p)) (λ r. no_refusal r p) e in (
        record {
          right = t.0.0;
          room = ltb-false (length out) h.size t.0.1.0;
          enough = ltb-false (held_count marks) h.n t.0.1.1.0;
          none_left = omega (arith, ltb-false 0 (columns_left h.n h.s marks f) t.0.1.1.1.0);
          has_hash = same_laws.same-eq (hash (joined_of h store marks scratch)) h.hash (not-false (same (hash (joined_of h store marks scratch)) h.hash) t.0.1.1.1.1.0);
        },
        complete_one (place h.size) p t.1,
      )

  pub good_release : Releasable h store marks scratch f out → verdict (release_checks h store marks scratch f out) ≡ Ok tt
  good_release r =
      rw (r.right, le-ltb (length out) h.size r.room, le-ltb (held_count marks) h.n r.enough, r.none_left, r.has_hash, same_laws.same_refl h.hash)

  pub release_gives : (p : BytePlace) → (release h store marks scratch f out).answer ≡ Ok (complete p)
      → (p ≡ place h.size) × ((release h store marks scratch f out).output ≡ put out 0 (joined_of h store marks scratch))
  unfolding release
  release_gives p e =
      let t = released p e in
      (sym t.1, good_all (λ (r : Reason). out) (release_checks h store marks scratch f out) (put out 0 (joined_of h store marks scratch)) (good_release t.0))

  release_judges : ((release h store marks scratch f out).answer ≡ Ok (complete (place h.size))) ↔ Releasable h store marks scratch f out
  unfolding release
  release_judges = (
    λ e. (released (place h.size) e).0,
    λ r. good_all Err (release_checks h store marks scratch f out) (Ok (complete (place h.size))) (good_release r),
  )

-- ---- turns of budgets for all columns, and then a release

made_turns : (h : Head) (base budgets : List ℕ) (y : Logged) → Made h base y → Made h base (acted_all h y (turns_of budgets))
unfolding acted_all turns_of
made_turns h base [] y k = k
made_turns h base (b ∷ bs) y k = made_turns h base bs (acted h y (Act.Turn (zeros 1024) b)) (made-turn h base y k (zeros 1024) b)

pub turns_session : (h : Head) (budgets : List ℕ) (y : Logged) → (acted_all h y (turns_of budgets)).session ≡ y.session
unfolding acted_all turns_of acted
turns_session h [] y = refl
turns_session h (b ∷ bs) y = turns_session h bs (acted h y (Act.Turn (zeros 1024) b))

all-turned : (h : Head) (budgets : List ℕ) (y : Logged) → Able h y → h.s / 2 ≤ y.finished + sum budgets → h.s / 2 ≤ (acted_all h y (turns_of budgets)).finished
unfolding acted_all turns_of sum
all-turned h [] y a l = omega (arith, l)
all-turned h (b ∷ bs) y a l =
    let long : length (zeros 1024) ≡ 1024 = refl in
    let e = step_finished h y a (zeros 1024) long b in
    let s = min_step y.finished b (h.s / 2) (able_most h y a) in
    all-turned h bs (acted h y (Act.Turn (zeros 1024) b)) (able_turn h y a (zeros 1024) long b)
    (⊎_elim (λ (u : y.finished + b < h.s / 2). omega (arith, e, s.1 (omega (arith, u)), l)) (λ (u : h.s / 2 ≤ y.finished + b). omega (arith, e, s.2 u)) (test_laws.below_or (y.finished + b) (h.s / 2)))

module _ (h : Head) (x : Session) (scratch budgets : List ℕ) (long : length scratch ≡ h.m * h.s) (all : h.s / 2 ≤ sum budgets) where
  pub made_in_turns : Made h scratch (in_turns h x scratch budgets)
  made_in_turns = made_turns h scratch budgets (logged x scratch 0) (made_start h x scratch long)

  pub none_in_turns : lent_wrong h.size h.n h.m h.s (in_turns h x scratch budgets).session.store (in_turns h x scratch budgets).session.marks ≡ false
      → h.n ≤ held_count (in_turns h x scratch budgets).session.marks
      → columns_left h.n h.s (in_turns h x scratch budgets).session.marks (in_turns h x scratch budgets).finished ≡ 0
  unfolding columns_wrong
  none_in_turns e v = rw (turns_session h budgets (logged x scratch 0)) (go (rw (turns_session h budgets (logged x scratch 0)) at e) (rw (turns_session h budgets (logged x scratch 0)) at v))
    where
      go : lent_wrong h.size h.n h.m h.s x.store x.marks ≡ false → h.n ≤ held_count x.marks
          → columns_left h.n h.s x.marks (in_turns h x scratch budgets).finished ≡ 0
      go e v =
          ⊎_elim
          (λ (z : gone h.n x.marks < 1). left_none h.n h.s x.marks (in_turns h x scratch budgets).finished (omega (arith, z)))
          (λ (z : 1 ≤ gone h.n x.marks).
          let a : Able h (logged x scratch 0) = record {
            right = rw (e, beside_right h.m h.s scratch 0 (record { long = long; most = omega arith }));
            enough = v;
            some = omega (arith, z);
          } in
          left_some h.n h.s x.marks (in_turns h x scratch budgets).finished (λ q. omega (arith, q, z))
          ∙ omega (arith, all-turned h budgets (logged x scratch 0) a (omega (arith, all))))
          (test_laws.below_or (gone h.n x.marks) 1)

  pair_is_hand_out : (out : List ℕ) → HandsOutAs h (in_turns h x scratch budgets) out
  pair_is_hand_out out = made_hands_out h scratch (in_turns h x scratch budgets) made_in_turns out none_in_turns

history_is_hand_out : (h : Head) (acts : List Act) (y : Logged) → y ≡ acted_all h (blank_logged h) acts
    → (h.n ≤ held_count y.session.marks → columns_left h.n h.s y.session.marks y.finished ≡ 0)
    → (out : List ℕ) → HandsOutAs h y out
history_is_hand_out h acts y e none out = made_hands_out h (blank_scratch h) y (rw e (made_history h acts)) out (λ r v. none v)

-- ---- the session inside

module _ (h : Head) (store marks scratch : List ℕ) (f : ℕ) (r : RightBeside h.m h.s scratch f) where
  pub beside-turn : (numbers : List ℕ) (b : ℕ) → RightBeside h.m h.s (turn h store marks scratch numbers f b).scratch (turn h store marks scratch numbers f b).finished
  beside-turn numbers b = go (verdict (turn_checks h store marks scratch numbers f)) refl
    where
      go : (v : Checked) → verdict (turn_checks h store marks scratch numbers f) ≡ v
          → RightBeside h.m h.s (turn h store marks scratch numbers f b).scratch (turn h store marks scratch numbers f b).finished
      go (Ok tt) e =
          rw (turn_good h store marks scratch numbers f b e)
          (record {
            long = scratch_laws.length-rebuilt h.n h.m h.s marks store f (turn_count h marks f b) scratch ∙ r.long;
            most = count_fits h marks f b r.most;
          })
      go (Err q) e = rw (turn-not h store marks scratch numbers f b q e) r

  pub beside-release : (out : List ℕ) → RightBeside h.m h.s (release h store marks scratch f out).scratch (release h store marks scratch f out).finished
  unfolding release
  beside-release out = go (passes (release_lent h store marks scratch f out))
    where
      go : (t : Bool) → RightBeside h.m h.s (cond t (zeros (length scratch)) scratch) (cond t 0 f)
      go true = record { long = length-replicate (length scratch) 0 ∙ r.long; most = omega arith }
      go false = r

beside-acted : (h : Head) (y : Logged) (a : Act) → beside_wrong h y ≡ false → beside_wrong h (acted h y a) ≡ false
unfolding acted
beside-acted h y (Act.Offer c) e = (own_offer h y c e).beside
beside-acted h y (Act.Turn numbers b) e =
    beside_right h.m h.s _ _ (beside-turn h y.session.store y.session.marks y.scratch y.finished (right_beside h.m h.s y.scratch y.finished e) numbers b)
beside-acted h y (Act.Release out) e =
    beside_right h.m h.s _ _ (beside-release h y.session.store y.session.marks y.scratch y.finished (right_beside h.m h.s y.scratch y.finished e) out)

pub same-session : (h : Head) (y : Logged) (acts : List Act) → beside_wrong h y ≡ false → (acted_all h y acts).session ≡ after_all h y.session (offers_in acts)
unfolding acted_all after_all offers_in acted
same-session h y [] e = refl
same-session h y (Act.Offer c ∷ acts) e =
    same-session h (acted h y (Act.Offer c)) acts (beside-acted h y (Act.Offer c) e)
    ∙ ap (λ (x : Session). after_all h x (offers_in acts)) (own_offer h y c e).session
same-session h y (Act.Turn numbers b ∷ acts) e = same-session h (acted h y (Act.Turn numbers b)) acts (beside-acted h y (Act.Turn numbers b) e)
same-session h y (Act.Release out ∷ acts) e = same-session h (acted h y (Act.Release out)) acts (beside-acted h y (Act.Release out) e)

-- ---- what the crates above want of one turn and one release

pub turn_long : (h : Head) (store marks scratch numbers : List ℕ) (f b : ℕ)
    → (length (turn h store marks scratch numbers f b).scratch ≡ length scratch) × (length (turn h store marks scratch numbers f b).numbers ≡ length numbers)
turn_long h store marks scratch numbers f b = go (verdict (turn_checks h store marks scratch numbers f)) refl
  where
    go : (v : Checked) → verdict (turn_checks h store marks scratch numbers f) ≡ v
        → (length (turn h store marks scratch numbers f b).scratch ≡ length scratch) × (length (turn h store marks scratch numbers f b).numbers ≡ length numbers)
    go (Ok tt) e =
        rw (turn_good h store marks scratch numbers f b e)
        (scratch_laws.length-rebuilt h.n h.m h.s marks store f (turn_count h marks f b) scratch, length-replicate {A = ℕ} 1024 0 ∙ sym (turn_past h store marks scratch numbers f e).long)
    go (Err r) e = rw (turn-not h store marks scratch numbers f b r e) (refl, refl)

pub release_long : (h : Head) (store marks scratch : List ℕ) (f : ℕ) (out : List ℕ) → length (release h store marks scratch f out).scratch ≡ length scratch
unfolding release
release_long h store marks scratch f out = go (passes (release_lent h store marks scratch f out))
  where
    go : (t : Bool) → length (cond t (zeros (length scratch)) scratch) ≡ length scratch
    go true = length-replicate (length scratch) 0
    go false = refl

-- one turn for all columns
module _ (h : Head) (store marks scratch numbers out : List ℕ) (e : rebuild_wrong h store marks (lent_of scratch numbers out) ≡ false) (o : h.size ≤ length out) where
  abbrev begun : Logged
  begun = logged (session_of store marks no_tallies) scratch 0

  abbrev turned : Logged
  turned = acted h begun (Act.Turn numbers (h.s / 2))

  right : RightRebuild h store marks (lent_of scratch numbers out)
  right = right_rebuild h store marks (lent_of scratch numbers out) e

  lent : lent_wrong h.size h.n h.m h.s store marks ≡ false
  unfolding rebuild_wrong
  lent = (test_laws.or-false _ _ (test_laws.or-false _ _ e).0).0

  none : h.n ≤ held_count marks → columns_left h.n h.s marks turned.finished ≡ 0
  unfolding columns_wrong
  none v =
      ⊎_elim
      (λ (z : gone h.n marks < 1). left_none h.n h.s marks turned.finished (omega (arith, z)))
      (λ (z : 1 ≤ gone h.n marks).
      let a : Able h begun = record {
        right = rw (lent, beside_right h.m h.s scratch 0 (record { long = right.able.scratch_long; most = omega arith }));
        enough = v;
        some = omega (arith, z);
      } in
      let s = step_finished h begun a numbers right.able.numbers_long (h.s / 2) in
      let m = min_step 0 (h.s / 2) (h.s / 2) (omega arith) in
      left_some h.n h.s marks turned.finished (λ q. omega (arith, q, z)) ∙ omega (arith, s, m.2 (omega arith)))
      (test_laws.below_or (gone h.n marks) 1)

  pub whole-turn : (z : Turning) → z ≡ turn h store marks scratch numbers 0 (h.s / 2)
      → (release h store marks z.scratch z.finished out).answer ≡ checked (content_checks h store marks) Err (Ok (complete (place h.size)))
  unfolding acted hand_out
  whole-turn z q =
      let k = made-turn h scratch begun (made_start h begun.session scratch right.able.scratch_long) numbers (h.s / 2) in
      let a = (made_hands_out h scratch turned k out (λ r v. none v)).answer in
      rw q (a ∙ rw (lent, le-ltb (length out) h.size o))

pub in-turns : InTurns
in-turns = record {
  turn-counts = turn-counts;
  columns_right = columns_right;
  turns_enough = turns_enough;
  at_once = λ n s marks f e. left_none n s marks f e;
  release_judges = release_judges;
  release_gives = release_gives;
  pair_is_hand_out = λ h x scratch budgets out l a. pair_is_hand_out h x scratch budgets l a out;
  history_is_hand_out = history_is_hand_out;
  restart = restart;
  own_offer = own_offer;
  same-session = same-session;
}
