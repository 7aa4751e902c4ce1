-- Ranges written from the last mark to the first, one index before those that stand already: the same for a note's bytes and
-- for a list of bounds. Assumes nothing.
use Prim.Native.Nat.{ℕ, zero, suc, ◌+◌, ◌-◌, ◌*◌, ◌<◌, ◌≤◌}
use mathlib.Core.Path.{◌≡◌, refl, sym, ap, ◌∙◌}
use mathlib.Core.Bool.{Bool, true, false, cond}
use mathlib.Core.List.{List, [], ◌∷◌, ◌++◌, append_assoc}
use mathlib.Core.Logic.{⊎_elim}
use native.Mathlib.Omega.{arith}
use lib.Dec.{eqb}
use borrow.Author.Tests.{lt-ltb, le-ltb}
use lib.ListN.{length, get_or, set, take, drop}
use lib.Seq.{drop_at, drop-drop}
use Rattle.little.specs.Parts.{put}
use Rattle.little.proofs.Laws.{put_laws}
use Rattle.sfc.specs.answer.Numbers.{Answered}
use Rattle.sfc.specs.session.Lent.{marks_wrong}
use Rattle.sfc.specs.note.Missing.{unheld_from, missing}
use Rattle.sfc.specs.note.Ranges.{Range, put_before, ranges, bounds, list_ranges}
use Rattle.sfc.specs.note.Note.{big_bytes, pair_bytes, pairs_bytes}
use Rattle.sfc.specs.inner.Index.{index_put, IndexPut, begins_at, Layout}
use Rattle.sfc.specs.declared.format.header.Head.{Head}
use Rattle.sfc.specs.declared.answer.reason.Reason.TheVariants.{Lent, OutputShort}
use Rattle.sfc.proofs.note.BigLaws.{length_big, drop-put}
use Rattle.sfc.proofs.note.RangeLaws.{either, ranges_at, begins_some, ranges-part, same-ranges, more_ranges, begins_same, begins_more, joined_more, own_more, none_at-end, begins_end}
use Rattle.sfc.specs.declared.answer.reason.Reason.{Reason}
use Rattle.std.specs.Prelude.{Result, Ok, Err}

-- ---- an index put before pair k, where `at k` is the place of that pair

module _ (at : ℕ → ℕ) (one out after : List ℕ) (k : ℕ) (joined : Bool) where
  put-joined : joined ≡ true → drop (at k) after ≡ one ++ drop (at k + length one) out → IndexPut at one out after k k joined
  unfolding index_put
  put-joined j d = (
    λ _. refl,
    λ f. absurd (let z : ◌≡◌ {A = ℕ} 0 1 = cc in omega arith),
    rw j (d ∙ ap (λ (r : List ℕ). one ++ r) (sym (drop-drop (length one) (at k) out))),
  )

  put-own : (r : ℕ) → joined ≡ false → r + 1 ≡ k → drop (at r) after ≡ one ++ (one ++ drop (at k) out) → IndexPut at one out after k r joined
  unfolding index_put
  put-own r j f d = (λ g. absurd (let z : ◌≡◌ {A = ℕ} 0 1 = cc in omega arith), λ _. f, rw j d)

module _ (lay : List Range → List ℕ) (place : ℕ → ℕ) (one : ℕ → List ℕ) (y : Layout lay place one) where
  rising_by : (b n : ℕ) → place b ≤ place (b + n)
  rising_by b zero = let e : b + 0 ≡ b = omega arith in rw e (omega arith)
  rising_by b (suc n) = let e : b + suc n ≡ b + n + 1 = omega arith in rw e (omega (arith, rising_by b n, y.next (b + n) 0))

  -- a later bound has no earlier place
  pub rising : (b c : ℕ) → b ≤ c → place b ≤ place c
  rising b c h = let e : b + (c - b) ≡ c = omega arith in rw e at (rising_by b (c - b))

module _ (lay : List Range → List ℕ) (place : ℕ → ℕ) (one : ℕ → List ℕ) (y : Layout lay place one) (i : ℕ) where
  bound_long : (out out' : List ℕ) (b : ℕ) → place (b + 1) ≤ length out → out' ≡ put out (place b) (one i) → length out' ≡ length out
  bound_long out out' b room e = ap length e ∙ put_laws.length-put out (place b) (one i) (omega (arith, y.next b i))

  -- what stands from a bound on once it is written
  bound_there : (out out' : List ℕ) (b : ℕ) → place (b + 1) ≤ length out → out' ≡ put out (place b) (one i) → drop (place b) out' ≡ one i ++ drop (place (b + 1)) out
  bound_there out out' b room e =
      ap (drop (place b)) e ∙ drop-put out (place b) (one i) (omega (arith, y.next b i)) ∙ ap (λ (k : ℕ). one i ++ drop k out) (sym (y.next b i))

  module _ (out : List ℕ) (k : ℕ) (joined : Bool) where
    pub joined_put : (after : List ℕ) → joined ≡ true → place (2 * k + 1) ≤ length out → after ≡ put out (place (2 * k)) (one i)
        → IndexPut (λ k. place (2 * k)) (one i) out after k k joined
    joined_put after j room e =
        put-joined (λ k. place (2 * k)) (one i) out after k joined j
        (bound_there out after (2 * k) room e ∙ ap (λ (m : ℕ). one i ++ drop m out) (y.next (2 * k) i))

    module _ (r : ℕ) (f : r + 1 ≡ k) (room : place (2 * k) ≤ length out) (between : List ℕ) (eb : between ≡ put out (place (2 * r + 1)) (one i)) where
      last : 2 * r + 1 + 1 ≡ 2 * k
      last = omega (arith, f)

      room_last : place (2 * r + 1 + 1) ≤ length out
      room_last = rw last room

      between_long : length between ≡ length out
      between_long = bound_long out between (2 * r + 1) room_last eb

      pub room_first : place (2 * r + 1) ≤ length between
      room_first = omega (arith, between_long, room_last, y.next (2 * r + 1) i)

      module _ (after : List ℕ) (ea : after ≡ put between (place (2 * r)) (one i)) where
        pub own_long : length after ≡ length out
        own_long = bound_long between after (2 * r) room_first ea ∙ between_long

        pub own_put : joined ≡ false → IndexPut (λ k. place (2 * k)) (one i) out after k r joined
        own_put j =
            put-own (λ k. place (2 * k)) (one i) out after k joined r j f
            (bound_there between after (2 * r) room_first ea
            ∙ ap (λ (x : List ℕ). one i ++ x) (bound_there out between (2 * r + 1) room_last eb ∙ ap (λ (m : ℕ). one i ++ drop (place m) out) last))

-- one entry stored is a list of one put there
pub entry_put : (out : List ℕ) (b i : ℕ) → b + 1 ≤ length out → set out b i ≡ put out b (i ∷ [])
entry_put [] b i h = absurd (omega arith)
entry_put (x ∷ out) zero i h = refl
entry_put (x ∷ out) (suc b) i h = ap (λ (l : List ℕ). x ∷ l) (entry_put out b i (omega arith))

-- ---- ranges laid out, and one index more before them

bytes_before : (joined : Bool) (i : ℕ) (rs : List Range) (tail : List ℕ) → joined ≡ begins_at (suc i) rs
    → index_put joined (big_bytes 4 i) (pairs_bytes rs ++ tail) ≡ pairs_bytes (put_before i rs) ++ tail
unfolding index_put begins_at put_before pairs_bytes
bytes_before joined i [] tail e = rw e (sym (append_assoc (big_bytes 4 i ++ big_bytes 4 i) [] tail ∙ append_assoc (big_bytes 4 i) (big_bytes 4 i) tail))
bytes_before joined i (r ∷ rs) tail e = rw (e, length_big 4 i) (go (eqb (suc i) r.first))
  where
    go : (b : Bool) → cond b (big_bytes 4 i ++ drop 4 (pair_bytes r ++ pairs_bytes rs ++ tail)) (big_bytes 4 i ++ (big_bytes 4 i ++ (pair_bytes r ++ pairs_bytes rs ++ tail)))
        ≡ pairs_bytes (cond b (record { first = i; last = r.last } ∷ rs) (record { first = i; last = i } ∷ r ∷ rs)) ++ tail
    go true =
        let f : pair_bytes r ++ pairs_bytes rs ++ tail ≡ big_bytes 4 r.first ++ (big_bytes 4 r.last ++ (pairs_bytes rs ++ tail)) = simp append_assoc in
        rw (f, drop_at (big_bytes 4 r.first) (big_bytes 4 r.last ++ (pairs_bytes rs ++ tail)) 4 (length_big 4 r.first)) (simp append_assoc)
    go false = simp append_assoc

pub as_bytes : Layout pairs_bytes (λ b. 23 + 4 * b) (big_bytes 4)
unfolding pairs_bytes
as_bytes = record { none = refl; before = bytes_before; next = λ b i. omega (arith, length_big 4 i) }

bounds-before : (joined : Bool) (i : ℕ) (rs : List Range) (tail : List ℕ) → joined ≡ begins_at (suc i) rs
    → index_put joined (i ∷ []) (bounds rs ++ tail) ≡ bounds (put_before i rs) ++ tail
unfolding index_put begins_at put_before bounds
bounds-before joined i [] tail e = rw e
bounds-before joined i (r ∷ rs) tail e = rw e (go (eqb (suc i) r.first))
  where
    go : (b : Bool) → cond b (i ∷ r.last ∷ (bounds rs ++ tail)) (i ∷ i ∷ r.first ∷ r.last ∷ (bounds rs ++ tail))
        ≡ bounds (cond b (record { first = i; last = r.last } ∷ rs) (record { first = i; last = i } ∷ r ∷ rs)) ++ tail
    go true = refl
    go false = refl

pub as_bounds : Layout bounds (λ (b : ℕ). b) (λ (i : ℕ). i ∷ [])
unfolding bounds
as_bounds = record { none = refl; before = bounds-before; next = λ b i. refl }

-- ---- the loop over the marks

-- the ranges of the marks from i on stand in the pairs from k on, and the output after all pairs is as it was
pub record Placing (lay : List Range → List ℕ) (at : ℕ → ℕ) (marks : List ℕ) (count : ℕ) (out₀ out : List ℕ) (k : ℕ) (joined : Bool) (i : ℕ) : Type 0 where
  pub within : i ≤ length marks
  pub long : length out ≡ length out₀
  pub begins : joined ≡ begins_at i (ranges_at marks i)
  pub placed : k + length (ranges_at marks i) ≡ count
  pub after : drop (at k) out ≡ lay (ranges_at marks i) ++ drop (at count) out₀

module _ (lay : List Range → List ℕ) (place : ℕ → ℕ) (one : ℕ → List ℕ) (at : ℕ → ℕ) (y : Layout lay place one) (marks : List ℕ) (count : ℕ) where
  pub place_start : (out : List ℕ) → Placing lay at marks count out out count false (length marks)
  place_start out = record {
    within = omega arith;
    long = refl;
    begins = begins_end marks;
    placed = rw (none_at-end marks) (omega arith);
    after = rw (none_at-end marks, y.none) refl;
  }

  module _ (out₀ out : List ℕ) (k : ℕ) (joined : Bool) (i : ℕ) (h : 0 < i) (l : Placing lay at marks count out₀ out k joined i) where
    pub place_skip : get_or marks (i - 1) 0 ≡ 1 → Placing lay at marks count out₀ out k false (i - 1)
    place_skip e =
        let s = same-ranges marks i h l.within e in
        record {
          within = omega (arith, l.within);
          long = l.long;
          begins = begins_same marks i h l.within e;
          placed = rw s l.placed;
          after = rw s l.after;
        }

    module _ (e : get_or marks (i - 1) 0 ≡ 1 → ⊥) where
      -- pair k is there to be joined, or one can stand before it
      pub place_room : count ≡ length (ranges (unheld_from 0 marks)) → (k ≤ count) × (joined ≡ true → k < count) × (joined ≡ false → 0 < k)
      place_room all = (
        omega (arith, l.placed),
        λ j. omega (arith, l.placed, begins_some i (ranges_at marks i) (sym l.begins ∙ j)),
        λ j. omega (arith, l.placed, own_more marks i h l.within e (sym l.begins ∙ j), ranges-part (i - 1) marks),
      )

      pub place-turn : (out' : List ℕ) (k' : ℕ) → length out' ≡ length out → IndexPut at (one (i - 1)) out out' k k' joined
          → Placing lay at marks count out₀ out' k' true (i - 1)
      place-turn out' k' lo p =
          let f : i ≡ suc (i - 1) = omega arith in
          let g = more_ranges marks i h l.within e in
          record {
            within = omega (arith, l.within);
            long = lo ∙ l.long;
            begins = begins_more marks i h l.within e;
            placed = ⊎_elim (λ (j : joined ≡ true). omega (arith, p.0 j, l.placed, joined_more marks i h l.within e (sym l.begins ∙ j)))
                (λ (j : joined ≡ false). omega (arith, p.1 j, l.placed, own_more marks i h l.within e (sym l.begins ∙ j))) (either joined);
            after = p.2 ∙ ap (index_put joined (one (i - 1))) l.after
                ∙ y.before joined (i - 1) (ranges_at marks i) (drop (at count) out₀) (l.begins ∙ ap (λ (j : ℕ). begins_at j (ranges_at marks i)) f)
                ∙ ap (λ (rs : List Range). lay rs ++ drop (at count) out₀) (sym g);
          }

pub place_end : (lay : List Range → List ℕ) (at : ℕ → ℕ) (marks : List ℕ) (count : ℕ) (out₀ out : List ℕ) (k : ℕ) (joined : Bool) (i : ℕ) → i ≤ 0
    → count ≡ length (ranges (unheld_from 0 marks)) → Placing lay at marks count out₀ out k joined i
    → drop (at 0) out ≡ lay (ranges (unheld_from 0 marks)) ++ drop (at count) out₀
place_end lay at marks count out₀ out k joined zero h all l =
    let z : k ≡ 0 = omega (arith, l.placed) in
    rw z at l.after
place_end lay at marks count out₀ out k joined (suc i) h all l = absurd (omega arith)

pub bounds_long : (rs : List Range) → length (bounds rs) ≡ 2 * length rs
unfolding bounds
bounds_long [] = refl
bounds_long (r ∷ rs) = omega (arith, bounds_long rs)

-- all bounds at the output's front
pub bounds_placed : (rs : List Range) (count : ℕ) (out₀ out : List ℕ) → count ≡ length rs → out ≡ bounds rs ++ drop (2 * count) out₀
    → out ≡ put out₀ 0 (bounds rs)
bounds_placed rs count out₀ out e f =
    let n : 2 * count ≡ length (bounds rs) = omega (arith, bounds_long rs) in
    f ∙ ap (λ (m : ℕ). bounds rs ++ drop m out₀) n

-- ---- the answers of the call that lists them

module _ (h : Head) (marks out : List ℕ) where
  pub ranges-wrong : marks_wrong h.size h.n h.m h.s marks ≡ true
      → ◌≡◌ {A = Answered (Result ℕ Reason)} (record { answer = Err Lent; output = out }) (list_ranges h marks out)
  unfolding list_ranges
  ranges-wrong e = rw e

  module _ (e : marks_wrong h.size h.n h.m h.s marks ≡ false) (among count : ℕ)
      (listed : missing h.n marks ≡ unheld_from 0 (take among marks)) (counted : count ≡ length (ranges (unheld_from 0 (take among marks)))) where
    long : length (bounds (ranges (unheld_from 0 (take among marks)))) ≡ 2 * count
    long = bounds_long (ranges (unheld_from 0 (take among marks))) ∙ ap (λ (k : ℕ). 2 * k) (sym counted)

    pub ranges_short : length out < 2 * count
        → ◌≡◌ {A = Answered (Result ℕ Reason)} (record { answer = Err OutputShort; output = out }) (list_ranges h marks out)
    unfolding list_ranges
    ranges_short l = rw (e, listed, long, lt-ltb _ _ l)

    pub ranges_good : (after : List ℕ) → 2 * count ≤ length out → after ≡ put out 0 (bounds (ranges (unheld_from 0 (take among marks))))
        → ◌≡◌ {A = Answered (Result ℕ Reason)} (record { answer = Ok (2 * count); output = after }) (list_ranges h marks out)
    unfolding list_ranges
    ranges_good after l f = rw (e, listed, f, long, le-ltb _ _ l)
