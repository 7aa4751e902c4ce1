-- The chunks of a written file, offered in any order and with repeats: what each offer answers, what is held then, and that
-- the hand-out gives the content. Assumes nothing.
use Prim.Native.Nat.{ℕ, zero, suc, ◌+◌, ◌-◌, ◌*◌, ◌/◌, ◌≤◌, ◌<◌}
use mathlib.Core.Path.{◌≡◌, refl, sym, ap, ap₂, ◌∙◌, subst}
use mathlib.Core.Bool.{Bool, true, false, cond, ◌||◌, false≢true, or-false}
use mathlib.Core.List.{List, [], ◌∷◌, ◌++◌, map, append-nil}
use native.Mathlib.Decide.{ℕ_discrete}
use native.Mathlib.Omega.{arith}
use borrow.Author.Tests.{eq-eqb, ne_eqb}
use lib.Dec.{eqb, ltb}
use lib.ListN.{length, get_or, take, length-replicate}
use lib.Seq.{take_at}
use Rattle.little.specs.Fields.{Bytes, bytes_of}
use Rattle.little.specs.Parts.{put, block}
use Rattle.little.proofs.Laws.{little_laws, byte_laws, same_laws}
use Rattle.blake3.specs.Tree.{hash}
use Rattle.cauchy.specs.Code.{joined, recovery_word, recovery_block, code_block}
use Rattle.little.specs.Runs.{any, zeros, same, among}
use Rattle.sfc.specs.answer.Numbers.{verdict, reason_of}
use Rattle.sfc.specs.session.Lent.{shape_wrong}
use Rattle.sfc.specs.session.Marks.{is_held, held_count}
use Rattle.sfc.specs.format.Chunk.{index_of, payload_of, chunk_checks}
use Rattle.sfc.specs.answer.Places.{number, place, complete}
use Rattle.sfc.specs.session.Tallies.{sum, total, tally_full}
use Rattle.sfc.specs.session.Session.{Session, blank, mark, block_of, verdict_of, after}
use Rattle.sfc.specs.inner.Steps.{Welcome}
use Rattle.sfc.specs.session.History.{after_all, verdicts}
use Rattle.sfc.specs.session.SessionTheorems.{ChangesOne}
use Rattle.sfc.specs.session.Offer.{Logged, blank_logged, beside_wrong}
use Rattle.sfc.specs.give.HandOut.{content_of}
use Rattle.sfc.specs.give.Turns.{columns_left, releasing_of, Act, releasing, acted_all, offers_in}
use Rattle.sfc.specs.give.TurnTheorems.{in_turns}
use Rattle.sfc.specs.writing.Writer.{Input, size, blocks, data_of, payload, chunk, head_for}
use Rattle.sfc.specs.demand.Demand2.{AllBelow, different, received, answers, GivenBack}
use Rattle.sfc.specs.demand.Demand3.{Right, Fitting}
use Rattle.sfc.specs.session.Right.{RightShape, RightLent}
use Rattle.sfc.specs.declared.session.offer.Verdict.{Verdict}
use Rattle.sfc.specs.declared.session.offer.Verdict.TheVariants.{Fresh, Repeat}
use Rattle.sfc.proofs.session.MarkLaws.{right_shape}
use Rattle.sfc.proofs.session.SessionLaws.{right_lent, verdict-fresh, verdict_repeat}
use Rattle.sfc.proofs.session.HistoryLaws.{after_tallies, total-counted, not_full}
use Rattle.sfc.proofs.session.OfferLaws.{one_offer}
use Rattle.sfc.proofs.session.RightLaws.{bytes_zeros, zero-at, blank_right, after_right}
use Rattle.sfc.proofs.session.KeptLaws.{beside_right}
use Rattle.sfc.proofs.give.ColumnLaws.{blank_scratch, made_released}
use Rattle.sfc.proofs.give.TurnTheorems.{made_history, same-session}
use Rattle.sfc.proofs.demand.Demand3.{fitting_decoded, demand3}
use Rattle.sfc.proofs.writing.LengthLaws.{length_data, length-payload}
use Rattle.sfc.proofs.session.DifferentLaws.{held-different}
use Rattle.sfc.proofs.writing.ChunkBack.{Made, index_back, payload-back, chunk_good}
use Rattle.std.specs.Prelude.{Ok, Err}

-- ---- the data blocks and the payloads

bytes_joined : (f : ℕ → List ℕ) (c n : ℕ) → ((k : ℕ) → Bytes (f k)) → Bytes (joined f c n)
unfolding joined
bytes_joined f c zero b = λ i. omega arith
bytes_joined f c (suc n) b = byte_laws.bytes_append (f c) (joined f (suc c) n) (b c) (bytes_joined f (suc c) n b)

bytes_code : (n m s : ℕ) (d : List ℕ) (i : ℕ) → Bytes d → Bytes (code_block n m s d i)
unfolding code_block recovery_block
bytes_code n m s d i b = go (ltb i n)
  where
    go : (t : Bool) → Bytes (cond t (block s d i) (joined (λ w. bytes_of 2 (recovery_word n m s d (i - n) w)) 0 (s / 2)))
    go true = byte_laws.bytes_part d (i * s) s b
    go false = bytes_joined (λ w. bytes_of 2 (recovery_word n m s d (i - n) w)) 0 (s / 2) (λ k. (little_laws 2).bytes (recovery_word n m s d (i - n) k))

module _ (w : Input) (u : length w.uuid ≡ 16) (sh : shape_wrong (size w) (blocks w) w.m w.s ≡ false) where
  right : RightShape (size w) (blocks w) w.m w.s
  right = right_shape (size w) (blocks w) w.m w.s sh

  bytes_data : Bytes w.content → Bytes (data_of w)
  unfolding data_of
  bytes_data b = byte_laws.bytes_append w.content (zeros (blocks w * w.s - size w)) b (bytes_zeros (blocks w * w.s - size w))

  content_first : take (size w) (data_of w) ≡ w.content
  unfolding data_of
  content_first = take_at w.content _ (size w) refl

  pub made : (i : ℕ) → i < blocks w + w.m → Made (head_for w) i (payload w i)
  made i h = record {
    uuid_long = u;
    erasure = refl;
    compression_none = refl;
    s_small = omega (arith, right.s_most);
    all_small = omega (arith, right.n_most, right.m_most);
    inside = h;
    payload_long = length-payload w sh i;
  }

  -- a chunk of the file, with anything after it
  pub record ChunkOf (i : ℕ) (c : List ℕ) : Type 0 where
    pub whole : verdict (chunk_checks (head_for w) c) ≡ Ok tt
    pub index : index_of c ≡ i
    pub brings : payload_of c ≡ payload w i

  pub chunk_of : (i : ℕ) → i < blocks w + w.m → (rest : List ℕ) → ChunkOf i (chunk w i ++ rest)
  unfolding chunk
  chunk_of i h rest = record {
    whole = chunk_good (head_for w) i (payload w i) rest (made i h);
    index = index_back (head_for w) i (payload w i) rest (made i h);
    brings = payload-back (head_for w) i (payload w i) rest (made i h);
  }

  chunk_alone : (i : ℕ) → i < blocks w + w.m → ChunkOf i (chunk w i)
  chunk_alone i h = subst (ChunkOf i) (append-nil (chunk w i)) (chunk_of i h [])

  -- ---- one offer

  -- the blocks at the indices of p are held, as they are in the file, and no others
  pub record Holds (x : Session) (p : ℕ → Bool) : Type 0 where
    pub right : Right (head_for w) x
    pub marks : (j : ℕ) → j < blocks w + w.m → mark x j ≡ cond (p j) 1 0
    pub held : (j : ℕ) → j < blocks w + w.m → p j ≡ true → block_of (head_for w) x j ≡ payload w j

  -- what such a chunk is answered
  abbrev welcome : ℕ → Bool → Verdict
  welcome i known = cond known (Repeat (number i) (place (i * w.s))) (Fresh (number i) (place (i * w.s)))

  module _ (b : Bytes w.content) (x : Session) (p : ℕ → Bool) (k : Holds x p) (i : ℕ) (h : i < blocks w + w.m) (c : List ℕ) (g : ChunkOf i c)
      (room : tally_full x.tallies ≡ false) where
    bytes_payload : Bytes (payload_of c)
    unfolding payload
    bytes_payload =
        rw g.brings (bytes_code (blocks w) w.m w.s (data_of w) i (bytes_data b))

    past : Welcome (head_for w) x c
    past = record { lent = k.right.lent; room = room; whole = g.whole }

    right_after : Right (head_for w) (after (head_for w) x c)
    right_after = after_right (head_for w) x c bytes_payload k.right

    -- it is held already
    module _ (e : p i ≡ true) where
      known_verdict : verdict_of (head_for w) x c ≡ welcome i true
      known_verdict =
          let m : mark x (index_of c) ≡ 1 = ap (mark x) g.index ∙ k.marks i h ∙ ap (λ (t : Bool). cond t 1 0) e in
          let s : same (block_of (head_for w) x (index_of c)) (payload_of c) ≡ true =
          ap₂ (λ (j : ℕ) (l : List ℕ). same (block_of (head_for w) x j) l) g.index g.brings
          ∙ ap (λ (l : List ℕ). same l (payload w i)) (k.held i h e) ∙ same_laws.same_refl (payload w i) in
          rw g.index at (verdict_repeat (head_for w) x c past m s)

      known_also : (j : ℕ) → Dec (j ≡ i) → (eqb j i || p j) ≡ p j
      known_also j (yes d) = rw (eq-eqb j i d) (sym (ap p d ∙ e))
      known_also j (no d) = rw (ne_eqb j i d)

      known_holds : Holds (after (head_for w) x c) (λ j. eqb j i || p j)
      known_holds =
          let q = one_offer.repeat_changes_nothing (head_for w) x c i (i * w.s) known_verdict in
          let a : (j : ℕ) → (eqb j i || p j) ≡ p j = λ j. known_also j (ℕ_discrete j i) in
          record {
            right = right_after;
            marks = λ j u. ap (λ (l : List ℕ). get_or l j 0) q.4.marks ∙ k.marks j u ∙ ap (λ (t : Bool). cond t 1 0) (sym (a j));
            held = λ j u t. ap (λ (l : List ℕ). block w.s l j) q.4.store ∙ k.held j u (sym (a j) ∙ t);
          }

    -- it is not
    module _ (e : p i ≡ false) where
      new_verdict : verdict_of (head_for w) x c ≡ welcome i false
      new_verdict =
          let m : mark x (index_of c) ≡ 0 = ap (mark x) g.index ∙ k.marks i h ∙ ap (λ (t : Bool). cond t 1 0) e in
          rw g.index at (verdict-fresh (head_for w) x c past m)

      one : ChangesOne (head_for w) x (after (head_for w) x c) i (payload_of c) 1
      one = (one_offer.fresh_changes_one (head_for w) x c i (i * w.s) new_verdict).3

      new_mark : (j : ℕ) → j < blocks w + w.m → Dec (j ≡ i) → mark (after (head_for w) x c) j ≡ cond (eqb j i || p j) 1 0
      new_mark j u (yes d) = rw (eq-eqb j i d, d) one.new_mark
      new_mark j u (no d) = rw (ne_eqb j i d) (one.other-marks j d ∙ k.marks j u)

      new_block : (j : ℕ) → j < blocks w + w.m → Dec (j ≡ i) → (eqb j i || p j) ≡ true → block_of (head_for w) (after (head_for w) x c) j ≡ payload w j
      new_block j u (yes d) t = rw d (one.new_block ∙ g.brings)
      new_block j u (no d) t = one.other-blocks j u d ∙ k.held j u (rw (ne_eqb j i d) at t)

      new_holds : Holds (after (head_for w) x c) (λ j. eqb j i || p j)
      new_holds = record { right = right_after; marks = λ j u. new_mark j u (ℕ_discrete j i); held = λ j u. new_block j u (ℕ_discrete j i) }

    answered : (t : Bool) → p i ≡ t → verdict_of (head_for w) x c ≡ welcome i t
    answered true e = known_verdict e
    answered false e = new_verdict e

    holds_after : (t : Bool) → p i ≡ t → Holds (after (head_for w) x c) (λ j. eqb j i || p j)
    holds_after true e = known_holds e
    holds_after false e = new_holds e

  -- ---- many offers

  same_holds : (x : Session) (p q : ℕ → Bool) → ((j : ℕ) → p j ≡ q j) → Holds x p → Holds x q
  same_holds x p q e k = record {
    right = k.right;
    marks = λ j u. k.marks j u ∙ ap (λ (t : Bool). cond t 1 0) (e j);
    held = λ j u t. k.held j u (e j ∙ t);
  }

  or_turn : (a b c : Bool) → (b || (a || c)) ≡ (a || b || c)
  or_turn true true c = refl
  or_turn true false c = refl
  or_turn false true c = refl
  or_turn false false c = refl

  module _ (b : Bytes w.content) where
    -- one more offer leaves room for the rest
    less_room : (x : Session) (c : List ℕ) (n : ℕ) → total x.tallies + suc n ≤ 4294967295 → total (after (head_for w) x c).tallies + n ≤ 4294967295
    less_room x c n r =
        let t : total (after (head_for w) x c).tallies ≤ total x.tallies + 1 = rw (after_tallies (head_for w) x c) (total-counted x.tallies (verdict_of (head_for w) x c)) in
        omega arith

    all-answered : (is : List ℕ) (x : Session) (seen : List ℕ) → AllBelow (blocks w + w.m) is → total x.tallies + length is ≤ 4294967295
        → Holds x (λ j. among j seen) → verdicts (head_for w) x (map (chunk w) is) ≡ answers w seen is
    unfolding verdicts answers any
    all-answered [] x seen a r k = refl
    all-answered (i ∷ is) x seen a r k =
        let f = not_full x.tallies (omega arith) in
        ap₂ ◌∷◌ (answered b x (λ j. among j seen) k i a.0 (chunk w i) (chunk_alone i a.0) f (among i seen) refl)
        (all-answered is (after (head_for w) x (chunk w i)) (i ∷ seen) a.1 (less_room x (chunk w i) (length is) r)
        (holds_after b x (λ j. among j seen) k i a.0 (chunk w i) (chunk_alone i a.0) f (among i seen) refl))

    all_hold : (is : List ℕ) (x : Session) (p : ℕ → Bool) → AllBelow (blocks w + w.m) is → total x.tallies + length is ≤ 4294967295
        → Holds x p → Holds (after_all (head_for w) x (map (chunk w) is)) (λ j. among j is || p j)
    unfolding after_all any
    all_hold [] x p a r k = k
    all_hold (i ∷ is) x p a r k =
        let f = not_full x.tallies (omega arith) in
        same_holds (after_all (head_for w) (after (head_for w) x (chunk w i)) (map (chunk w) is)) (λ j. among j is || (eqb j i || p j)) (λ j. (eqb j i || among j is) || p j)
        (λ j. or_turn (eqb j i) (among j is) (p j))
        (all_hold is (after (head_for w) x (chunk w i)) (λ j. eqb j i || p j) a.1 (less_room x (chunk w i) (length is) r)
        (holds_after b x p k i a.0 (chunk w i) (chunk_alone i a.0) f (p i) refl))

    -- ---- from a blank session

    blank_holds : Holds (blank (head_for w)) (λ j. false)
    blank_holds = record {
      right = blank_right (head_for w) sh;
      marks = λ j u. zero-at (blocks w + w.m) j;
      held = λ j u t. absurd (false≢true t);
    }

    module _ (is : List ℕ) (a : AllBelow (blocks w + w.m) is) (few : length is ≤ 4294967295) where
      blank_room : total (blank (head_for w)).tallies + length is ≤ 4294967295
      unfolding sum
      blank_room = omega arith

      pub offers_answered : verdicts (head_for w) (blank (head_for w)) (map (chunk w) is) ≡ answers w [] is
      unfolding any
      offers_answered = all-answered is (blank (head_for w)) [] a blank_room blank_holds

      pub received_holds : Holds (received w is) (λ j. among j is)
      received_holds =
          same_holds (received w is) (λ j. among j is || false) (λ j. among j is) (λ j. or-false (among j is))
          (all_hold is (blank (head_for w)) (λ j. false) a blank_room blank_holds)

      -- ---- the hand-out

      lent : RightLent (size w) (blocks w) w.m w.s (received w is).store (received w is).marks
      lent = right_lent (size w) (blocks w) w.m w.s (received w is).store (received w is).marks received_holds.right.lent

      count : held_count (received w is).marks ≡ different is
      count = held-different is (received w is).marks (rw lent.marks_long a, λ j h. at j (rw lent.marks_long at h) (among j is) refl)
        where
          at : (j : ℕ) → j < blocks w + w.m → (t : Bool) → among j is ≡ t → is_held (mark (received w is) j) ≡ among j is
          at j h true e = ap is_held (received_holds.marks j h ∙ ap (λ (t : Bool). cond t 1 0) e) ∙ sym e
          at j h false e = ap is_held (received_holds.marks j h ∙ ap (λ (t : Bool). cond t 1 0) e) ∙ sym e

      fitting : Fitting (head_for w) (received w is) (data_of w)
      unfolding payload
      fitting = record { blocks = (length_data w sh, bytes_data b); fits = λ i h o. sym (received_holds.held i h (at i h o (among i is) refl)) }
        where
          at : (j : ℕ) → j < blocks w + w.m → mark (received w is) j ≡ 1 → (t : Bool) → among j is ≡ t → among j is ≡ true
          at j h o true e = e
          at j h o false e = absurd (omega (arith, received_holds.marks j h ∙ ap (λ (t : Bool). cond t 1 0) e))

      enough_held_lem : blocks w ≤ different is → blocks w ≤ held_count (received w is).marks
      enough_held_lem enough = omega (arith, count)

      -- what is given is the content, which has its own hash
      content_back : (y : Logged) (out : List ℕ)
          → releasing (head_for w) y out
          ≡ cond (same (hash (take (size w) (data_of w))) (head_for w).hash) (releasing_of (Ok (complete (place (size w)))) 0 (zeros (w.m * w.s)) (put out 0 (take (size w) (data_of w))))
          (releasing_of (Err (reason_of 51)) 0 (zeros (w.m * w.s)) out)
          → GivenBack w y out
      content_back y out e = e ∙ rw (content_first, same_laws.same_refl (hash w.content))

      pub round_trip : blocks w ≤ different is → (scratch budgets out : List ℕ) → length scratch ≡ w.m * w.s → w.s / 2 ≤ sum budgets → size w ≤ length out
          → GivenBack w (in_turns (head_for w) (received w is) scratch budgets) out
      round_trip enough scratch budgets out l a o =
          content_back (in_turns (head_for w) (received w is) scratch budgets) out
          (demand3.content_known (head_for w) (received w is) received_holds.right (enough_held_lem enough) (data_of w) fitting scratch budgets out l a o)

      -- ---- with turns and releases between the offers

      decoded_data : blocks w ≤ different is → content_of (head_for w) (received w is).store (received w is).marks ≡ take (size w) (data_of w)
      unfolding content_of
      decoded_data enough = ap (take (size w)) (fitting_decoded (head_for w) (received w is) received_holds.right (enough_held_lem enough) (data_of w) fitting)

      pub round_trip_between : blocks w ≤ different is → (acts : List Act) → offers_in acts ≡ map (chunk w) is
          → (y : Logged) → y ≡ acted_all (head_for w) (blank_logged (head_for w)) acts
          → columns_left (blocks w) w.s y.session.marks y.finished ≡ 0 → (out : List ℕ) → size w ≤ length out → GivenBack w y out
      round_trip_between enough acts eo y ey none out o =
          let t : y.session ≡ received w is
          = ap (λ (z : Logged). z.session) ey ∙ same-session (head_for w) (blank_logged (head_for w)) acts blank-beside ∙ ap (after_all (head_for w) (blank (head_for w))) eo in
          content_back y out
          (made_released (head_for w) (blank_scratch (head_for w)) y (rw ey (made_history (head_for w) acts)) out (λ r v. none)
          (rw t received_holds.right.lent) (rw t (enough_held_lem enough)) o (take (size w) (data_of w)) (rw t (decoded_data enough)))
        where
          blank-beside : beside_wrong (head_for w) (blank_logged (head_for w)) ≡ false
          blank-beside = beside_right w.m w.s (zeros (w.m * w.s)) 0 (record { long = length-replicate (w.m * w.s) 0; most = omega arith })
