-- What turns leave: one invariant, which starts, turns, offers and releases keep; and that a release over it is the hand-out.
-- Assumes nothing.
use Prim.Native.Nat.{ℕ, ◌+◌, ◌*◌, ◌/◌, ◌<◌, ◌≤◌}
use mathlib.Core.Path.{◌≡◌, refl, sym, ap, ap₂, ◌∙◌, subst}
use mathlib.Core.Bool.{Bool, true, false, cond, not, true≢false}
use mathlib.Core.Logic.{⊎_elim}
use mathlib.Core.List.{List}
use native.Mathlib.Omega.{arith}
use native.Mathlib.Nat.{min-le_right}
use borrow.Author.Tests.{le-ltb, lt-ltb, ltb-false, eqb-true, not-false}
use lib.Dec.{eqb}
use lib.ListN.{length, get_or, take, length-replicate}
use Rattle.little.specs.Parts.{put, block}
use Rattle.little.specs.Runs.{zeros, same}
use Rattle.little.proofs.Laws.{test_laws}
use Rattle.blake3.specs.Tree.{hash}
use Rattle.cauchy.specs.Decode.{missing_data, decode, decoded}
use Rattle.cauchy.specs.Calls.{rebuilt_scratch}
use Rattle.cauchy.proofs.Laws.{code_laws, scratch_laws}
use Rattle.sfc.specs.answer.Numbers.{verdict, passes, Checked}
use Rattle.sfc.specs.answer.Places.{place, complete}
use Rattle.sfc.specs.session.Marks.{held_count}
use Rattle.sfc.specs.session.Lent.{lent_wrong, rebuilding_wrong, columns_wrong}
use Rattle.sfc.specs.session.Session.{Session, settled, after_verdict}
use Rattle.sfc.specs.session.Offer.{Logged, logged, offer_verdict, restarts, logged_after}
use Rattle.sfc.specs.session.Right.{RightLent}
use Rattle.sfc.specs.inner.Gather.{Restored}
use Rattle.sfc.specs.give.HandOut.{content_of, hand_out}
use Rattle.sfc.specs.give.Turns.{gone, columns_left, Turning, turning_of, turn_checks, turn_count, turn_done, turn, joined_bytes, joined_of, Releasing, releasing_of, release_lent, release, Act, turning, releasing, acted}
use Rattle.sfc.specs.give.TurnTheorems.{HandsOutAs}
use Rattle.sfc.specs.declared.format.header.Head.{Head}
use Rattle.sfc.specs.declared.answer.reason.Reason.{Reason}
use Rattle.sfc.specs.declared.answer.reason.Reason.TheVariants.{ContentHash}
use Rattle.sfc.specs.declared.session.offer.Verdict.{Verdict}
use Rattle.sfc.specs.declared.session.offer.Verdict.TheVariants.{Fresh, Repeat, Refused}
use Rattle.sfc.proofs.answer.CheckLaws.{good_all, refused_all, passed}
use Rattle.sfc.proofs.session.SessionLaws.{right_lent}
use Rattle.sfc.proofs.session.KeptLaws.{RightBeside, beside_right, by_verdict, anew, goes_on}
use Rattle.sfc.proofs.give.GatherLaws.{piece_restored}
use Rattle.sfc.proofs.give.TurnLaws.{left_some, left_most}
use Rattle.sfc.proofs.give.ReleaseLaws.{gatherable}
use Rattle.std.specs.Prelude.{Ok, Err}

-- ---- a turn, by what its checks come to

module _ (h : Head) (store marks scratch numbers : List ℕ) (f b : ℕ) where
  pub turn_good : verdict (turn_checks h store marks scratch numbers f) ≡ Ok tt
      → turn h store marks scratch numbers f b ≡ turn_done h store marks scratch f (turn_count h marks f b)
  unfolding turn
  turn_good e =
      good_all (λ (r : Reason). turning_of (Err r) f scratch numbers) (turn_checks h store marks scratch numbers f) (turn_done h store marks scratch f (turn_count h marks f b)) e

  pub turn-not : (r : Reason) → verdict (turn_checks h store marks scratch numbers f) ≡ Err r
      → turn h store marks scratch numbers f b ≡ turning_of (Err r) f scratch numbers
  unfolding turn
  turn-not r e =
      refused_all (λ (q : Reason). turning_of (Err q) f scratch numbers) (turn_checks h store marks scratch numbers f) (turn_done h store marks scratch f (turn_count h marks f b)) r e

-- past its checks
pub record Past (h : Head) (store marks scratch numbers : List ℕ) (f : ℕ) : Type 0 where
  pub right : columns_wrong h.size h.n h.m h.s store marks scratch f ≡ false
  pub long : length numbers ≡ 1024
  pub enough : h.n ≤ held_count marks

pub turn_past : (h : Head) (store marks scratch numbers : List ℕ) (f : ℕ) → verdict (turn_checks h store marks scratch numbers f) ≡ Ok tt
    → Past h store marks scratch numbers f
turn_past h store marks scratch numbers f e =
    let p = passed (turn_checks h store marks scratch numbers f) e in
    let t = test_laws.or-false _ (not (eqb (length numbers) 1024)) p.0 in
    record {
      right = t.0;
      long = eqb-true (length numbers) 1024 (not-false (eqb (length numbers) 1024) t.1);
      enough = ltb-false (held_count marks) h.n p.1.0;
    }

pub lent_part : (size n m s : ℕ) (store marks scratch : List ℕ) (f : ℕ) → columns_wrong size n m s store marks scratch f ≡ false
    → lent_wrong size n m s store marks ≡ false
unfolding columns_wrong
lent_part size n m s store marks scratch f e = (test_laws.or-false (lent_wrong size n m s store marks) (rebuilding_wrong m s scratch f) e).0

-- a turn's columns are columns of the blocks
pub count_fits : (h : Head) (marks : List ℕ) (f b : ℕ) → f ≤ h.s / 2 → f + turn_count h marks f b ≤ h.s / 2
count_fits h marks f b m = omega (arith, m, min-le_right b (columns_left h.n h.s marks f), left_most h.n h.s marks f)

-- ---- the invariant: the finished columns are rebuilt, and what lay in scratch before lies there else

pub record Made (h : Head) (base : List ℕ) (y : Logged) : Type 0 where
  pub most : y.finished ≤ h.s / 2
  pub long : length base ≡ h.m * h.s
  pub lent : 0 < y.finished → lent_wrong h.size h.n h.m h.s y.session.store y.session.marks ≡ false
  pub enough : 0 < y.finished → h.n ≤ held_count y.session.marks
  pub whole : y.scratch ≡ rebuilt_scratch h.n h.m h.s y.session.marks y.session.store 0 y.finished base

pub made_start : (h : Head) (x : Session) (base : List ℕ) → length base ≡ h.m * h.s → Made h base (logged x base 0)
made_start h x base l = record {
  most = omega arith;
  long = l;
  lent = λ p. absurd (omega arith);
  enough = λ p. absurd (omega arith);
  whole = sym (scratch_laws.none_rebuilt h.n h.m h.s x.marks x.store 0 base);
}

-- scratch stays as long as it was, so 71 has nothing against it
pub made-beside : (h : Head) (base : List ℕ) (y : Logged) → Made h base y → RightBeside h.m h.s y.scratch y.finished
made-beside h base y k = record {
  long = ap length k.whole ∙ scratch_laws.length-rebuilt h.n h.m h.s y.session.marks y.session.store 0 y.finished base ∙ k.long;
  most = k.most;
}

-- with the store and the marks of a session, its rebuild goes on
made-same : (h : Head) (base : List ℕ) (y z : Logged) → z.session.store ≡ y.session.store → z.session.marks ≡ y.session.marks
    → z.scratch ≡ y.scratch → z.finished ≡ y.finished → Made h base y → Made h base z
made-same h base y z es em ec ef k = record {
  most = rw ef k.most;
  long = k.long;
  lent = λ p. rw (es, em) (k.lent (rw ef at p));
  enough = λ p. rw em (k.enough (rw ef at p));
  whole = ec ∙ k.whole ∙ rw (es, em, ef) refl;
}

module _ (h : Head) (base : List ℕ) (y : Logged) (k : Made h base y) where
  abbrev store : List ℕ
  store = y.session.store

  abbrev marks : List ℕ
  marks = y.session.marks

  pub made-turn : (numbers : List ℕ) (b : ℕ) → Made h base (acted h y (Act.Turn numbers b))
  unfolding acted
  made-turn numbers b = go (verdict (turn_checks h store marks y.scratch numbers y.finished)) refl
    where
      z : Turning
      z = turning h y numbers b

      count : ℕ
      count = turn_count h marks y.finished b

      go : (v : Checked) → verdict (turn_checks h store marks y.scratch numbers y.finished) ≡ v → Made h base (logged y.session z.scratch z.finished)
      go (Err r) e =
          let t = turn-not h store marks y.scratch numbers y.finished b r e in
          made-same h base y (logged y.session z.scratch z.finished) refl refl (ap (λ (q : Turning). q.scratch) t) (ap (λ (q : Turning). q.finished) t) k
      go (Ok tt) e =
          let t = turn_good h store marks y.scratch numbers y.finished b e in
          let p = turn_past h store marks y.scratch numbers y.finished e in
          let ef : z.finished ≡ y.finished + count = ap (λ (q : Turning). q.finished) t in
          let o : 0 + y.finished ≡ y.finished = omega arith in
          record {
            most = rw ef (count_fits h marks y.finished b k.most);
            long = k.long;
            lent = λ q. lent_part h.size h.n h.m h.s store marks y.scratch y.finished p.right;
            enough = λ q. p.enough;
            whole = ap (λ (q : Turning). q.scratch) t
                ∙ ap₂ (λ (i : ℕ) (c : List ℕ). rebuilt_scratch h.n h.m h.s marks store i count c) (sym o) k.whole
                ∙ scratch_laws.rebuilt_on h.n h.m h.s marks store 0 y.finished count base
                ∙ ap (λ (i : ℕ). rebuilt_scratch h.n h.m h.s marks store 0 i base) (sym ef);
          }

-- an offer that restarts nothing changes neither store nor marks
pub kept_by : (h : Head) (x : Session) (c : List ℕ) (v : Verdict) → restarts v ≡ false
    → ((after_verdict h x c v).store ≡ x.store) × ((after_verdict h x c v).marks ≡ x.marks)
unfolding restarts settled
kept_by h x c (Fresh i p) e = absurd (true≢false e)
kept_by h x c (Repeat i p) e = (refl, refl)
kept_by h x c (Refused r) e = rw e (refl, refl)

pub kept_on : (h : Head) (y : Logged) (c : List ℕ) → restarts (offer_verdict h y c) ≡ false
    → ((logged_after h y c).session.store ≡ y.session.store) × ((logged_after h y c).session.marks ≡ y.session.marks)
kept_on h y c e = rw (by_verdict h y c (offer_verdict h y c) refl) (kept_by h y.session c (offer_verdict h y c) e)

-- ---- over a scratch of zeros the rebuild may begin anew, by an offer or by a release

abbrev pub blank_scratch : Head → List ℕ
blank_scratch h = zeros (h.m * h.s)

pub made_anew : (h : Head) (x : Session) (scratch : List ℕ) (f k : ℕ) → scratch ≡ zeros k → k ≡ h.m * h.s → f ≡ 0
    → Made h (blank_scratch h) (logged x scratch f)
made_anew h x scratch f k e l z =
    subst (λ (c : List ℕ). Made h (blank_scratch h) (logged x c f)) (sym (e ∙ ap zeros l))
    (subst (λ (i : ℕ). Made h (blank_scratch h) (logged x (blank_scratch h) i)) (sym z) (made_start h x (blank_scratch h) (length-replicate (h.m * h.s) 0)))

module _ (h : Head) (y : Logged) (k : Made h (blank_scratch h) y) where
  scratch_long : length y.scratch ≡ h.m * h.s
  scratch_long = (made-beside h (blank_scratch h) y k).long

  pub made_offer : (c : List ℕ) → Made h (blank_scratch h) (acted h y (Act.Offer c))
  unfolding acted
  made_offer c = go (restarts (offer_verdict h y c)) refl
    where
      go : (b : Bool) → restarts (offer_verdict h y c) ≡ b → Made h (blank_scratch h) (logged_after h y c)
      go true e =
          let a = anew h y c (offer_verdict h y c) refl e in
          made_anew h (logged_after h y c).session (logged_after h y c).scratch (logged_after h y c).finished (length y.scratch) a.scratch scratch_long a.finished
      go false e =
          let a = goes_on h y c (offer_verdict h y c) refl e in
          let s = kept_on h y c e in
          made-same h (blank_scratch h) y (logged_after h y c) s.0 s.1 a.scratch a.finished k

  pub made-release : (out : List ℕ) → Made h (blank_scratch h) (acted h y (Act.Release out))
  unfolding acted release
  made-release out = go (passes (release_lent h y.session.store y.session.marks y.scratch y.finished out))
    where
      go : (b : Bool) → Made h (blank_scratch h) (logged y.session (cond b (zeros (length y.scratch)) y.scratch) (cond b 0 y.finished))
      go true = made_anew h y.session (zeros (length y.scratch)) 0 (length y.scratch) refl scratch_long refl
      go false = k

  pub made-acted : (a : Act) → Made h (blank_scratch h) (acted h y a)
  made-acted (Act.Offer c) = made_offer c
  made-acted (Act.Turn numbers b) = made-turn h (blank_scratch h) y k numbers b
  made-acted (Act.Release out) = made-release out

-- ---- where no column is left, scratch has the missing blocks, and what is joined is the content

module _ (h : Head) (base : List ℕ) (y : Logged) (k : Made h base y)
    (right : lent_wrong h.size h.n h.m h.s y.session.store y.session.marks ≡ false) (enough : h.n ≤ held_count y.session.marks)
    (none : columns_left h.n h.s y.session.marks y.finished ≡ 0) where
  lent : RightLent h.size h.n h.m h.s y.session.store y.session.marks
  lent = right_lent h.size h.n h.m h.s y.session.store y.session.marks right

  all_finished : 0 < gone h.n y.session.marks → y.finished ≡ h.s / 2
  all_finished p =
      let e = left_some h.n h.s y.session.marks y.finished (λ z. omega (arith, p, z)) in
      omega (arith, k.most, e, none)

  found : (l : ℕ) → l < gone h.n y.session.marks
      → block h.s y.scratch l ≡ decode h.n h.m h.s y.session.marks y.session.store (get_or (missing_data h.n y.session.marks) l 0)
  found l p =
      ap (λ (c : List ℕ). block h.s c l) k.whole
      ∙ ap (λ (f : ℕ). block h.s (rebuilt_scratch h.n h.m h.s y.session.marks y.session.store 0 f base) l) (all_finished (omega arith))
      ∙ scratch_laws.all-rebuilt h.n h.m h.s y.session.marks y.session.store base
      lent.shape.s_least lent.shape.s_even lent.marks_long k.long enough l p

  restored : Restored h.n h.m h.s y.session.marks y.session.store y.scratch
  restored = record {
    even = lent.shape.s_even;
    marks_long = lent.marks_long;
    store_long = lent.store_long;
    room = (gatherable h.size h.n h.m h.s y.session.store y.session.marks y.scratch y.finished
        (record { right = lent; beside = made-beside h base y k }) enough).room;
    found = found;
  }

  pub joined_content : joined_of h y.session.store y.session.marks y.scratch ≡ content_of h y.session.store y.session.marks
  unfolding joined_bytes content_of decoded
  joined_content =
      ap (take h.size) (code_laws.joined_ext _ _ h.n (piece_restored h.n h.m h.s y.session.marks y.session.store y.scratch restored))

-- ---- a release over it is the hand-out

columns_right : (size n m s : ℕ) (store marks scratch : List ℕ) (f : ℕ) → lent_wrong size n m s store marks ≡ false → RightBeside m s scratch f
    → columns_wrong size n m s store marks scratch f ≡ false
unfolding columns_wrong
columns_right size n m s store marks scratch f e r = rw (e, beside_right m s scratch f r)

columns-wrong : (size n m s : ℕ) (store marks scratch : List ℕ) (f : ℕ) → lent_wrong size n m s store marks ≡ true
    → columns_wrong size n m s store marks scratch f ≡ true
unfolding columns_wrong
columns-wrong size n m s store marks scratch f e = rw e

module _ (h : Head) (base : List ℕ) (y : Logged) (k : Made h base y) (out : List ℕ)
    (none : lent_wrong h.size h.n h.m h.s y.session.store y.session.marks ≡ false → h.n ≤ held_count y.session.marks
    → columns_left h.n h.s y.session.marks y.finished ≡ 0) where
  pub made_hands_out : HandsOutAs h y out
  unfolding release hand_out
  made_hands_out = go (lent_wrong h.size h.n h.m h.s y.session.store y.session.marks) refl
    where
      go : (b : Bool) → lent_wrong h.size h.n h.m h.s y.session.store y.session.marks ≡ b → HandsOutAs h y out
      go true e =
          let w = columns-wrong h.size h.n h.m h.s y.session.store y.session.marks y.scratch y.finished e in
          record { answer = rw (w, e); output = rw (w, e) }
      go false e = ⊎_elim few enough (test_laws.below_or (held_count y.session.marks) h.n)
        where
          w : columns_wrong h.size h.n h.m h.s y.session.store y.session.marks y.scratch y.finished ≡ false
          w = columns_right h.size h.n h.m h.s y.session.store y.session.marks y.scratch y.finished e (made-beside h base y k)

          few : held_count y.session.marks < h.n → HandsOutAs h y out
          few v = let t = lt-ltb (held_count y.session.marks) h.n v in record { answer = rw (w, e, t); output = rw (w, e, t) }

          enough : h.n ≤ held_count y.session.marks → HandsOutAs h y out
          enough v =
              let t = le-ltb (held_count y.session.marks) h.n v in
              let z = none e v in
              let j = joined_content h base y k e v z in
              record { answer = rw (w, e, t, z, j); output = rw (w, e, t, z, j) }

  -- and what it leaves, where 71, 52 and 50 have nothing against it
  pub made_released : lent_wrong h.size h.n h.m h.s y.session.store y.session.marks ≡ false → h.n ≤ held_count y.session.marks
      → h.size ≤ length out → (d : List ℕ) → content_of h y.session.store y.session.marks ≡ d
      → releasing h y out
      ≡ cond (same (hash d) h.hash) (releasing_of (Ok (complete (place h.size))) 0 (zeros (h.m * h.s)) (put out 0 d))
      (releasing_of (Err ContentHash) 0 (zeros (h.m * h.s)) out)
  unfolding release
  made_released e v o d c =
      let w = columns_right h.size h.n h.m h.s y.session.store y.session.marks y.scratch y.finished e (made-beside h base y k) in
      let t = le-ltb (held_count y.session.marks) h.n v in
      let z = none e v in
      let j = joined_content h base y k e v z ∙ c in
      rw (w, le-ltb (length out) h.size o, t, z, j, (made-beside h base y k).long) (go (same (hash d) h.hash))
    where
      go : (b : Bool) → ◌≡◌ {A = Releasing}
          (record {
            answer = cond (not b) (Err ContentHash) (Ok (complete (place h.size)));
            finished = 0;
            scratch = zeros (h.m * h.s);
            output = cond (not b) out (put out 0 d);
          })
          (cond b (releasing_of (Ok (complete (place h.size))) 0 (zeros (h.m * h.s)) (put out 0 d)) (releasing_of (Err ContentHash) 0 (zeros (h.m * h.s)) out))
      go true = refl
      go false = refl
