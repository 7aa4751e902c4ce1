-- What the proofs of the note's functions cite: an index and the start put into an output, a turn of the loops that judge
-- and copy pairs, and the answers. Assumes nothing.
use Prim.Native.Nat.{ℕ, zero, suc, ◌+◌, ◌-◌, ◌*◌, ◌<◌, ◌≤◌}
use mathlib.Core.Path.{◌≡◌, refl, sym, ap, ◌∙◌}
use mathlib.Core.Bool.{Bool, true, false, not, ◌&&◌, ◌||◌, and-true, and_assoc}
use mathlib.Core.List.{List, [], ◌∷◌, ◌++◌, append_assoc}
use native.Mathlib.Nat.{sub-zero}
use native.Mathlib.Omega.{arith}
use borrow.Author.Tests.{lt-ltb, le-ltb, eqb-true, not-false}
use lib.Dec.{eqb, leb}
use lib.ListN.{length, get_or, set, take, drop, length-append, length-set}
use Rattle.little.specs.Parts.{put}
use Rattle.little.proofs.Laws.{put_laws, test_laws}
use Rattle.sfc.specs.session.Lent.{marks_wrong}
use Rattle.sfc.specs.answer.Numbers.{Answered}
use Rattle.sfc.specs.note.Missing.{unheld_from, missing}
use Rattle.sfc.specs.note.Ranges.{Range, ranges, apart_from, maximal, bounds}
use Rattle.sfc.specs.note.Note.{be, big_bytes, pair_bytes, pairs_bytes, note_of, write_note, uuid_in, count_in, pairs_from, ranges_in, malformed, read_note}
use Rattle.sfc.specs.declared.format.header.Head.{Head}
use Rattle.sfc.specs.declared.answer.reason.Reason.TheVariants.{Note, Lent, OutputShort}
use Rattle.sfc.proofs.note.BigLaws.{length_big, drop-put, drop_big, length-put_big}
use Rattle.sfc.proofs.note.PairLaws.{bounds_long}
use Rattle.sfc.specs.declared.note.resend.NoteRead.{NoteRead}
use Rattle.sfc.specs.declared.answer.reason.Reason.{Reason}
use Rattle.std.specs.Prelude.{Result, Ok, Err}

-- ---- the start of a note

module _ (out a y uuid : List ℕ) (count : ℕ) (h : 23 ≤ length out) (u : length uuid ≡ 16) (ea : a ≡ put out 21 (big_bytes 2 count))
    (ey : y ≡ uuid) where
  -- what stands once the UUID is there, as the lent part comes back
  abbrev b : List ℕ
  b = take 5 a ++ (y ++ drop (21 - 5) (drop 5 a))

  count-put : length a ≡ length out
  count-put = length-put_big out a 21 2 count (omega arith) ea

  uuid_put : b ≡ put a 5 uuid
  uuid_put =
      ap (λ (x : List ℕ). take 5 a ++ (x ++ drop 16 (drop 5 a))) ey ∙ put_laws.lent a uuid 5 16 u

  pub start_long : length (set (take 5 a ++ (y ++ drop (21 - 5) (drop 5 a))) 4 1) ≡ length out
  start_long =
      let l = count-put in
      length-set b 4 1 ∙ ap length uuid_put ∙ put_laws.length-put a 5 uuid (omega arith) ∙ l

  pub start_made : (after : List ℕ) → after ≡ put (set (take 5 a ++ (y ++ drop (21 - 5) (drop 5 a))) 4 1) 0 (big_bytes 4 (19 + 8 * count))
      → after ≡ big_bytes 4 (19 + 8 * count) ++ (1 ∷ (uuid ++ (big_bytes 2 count ++ drop 23 out)))
  start_made after e =
      let la = count-put in
      let lb = start_long in
      let lc = length-set b 4 1 in
      let n : 5 + length uuid ≡ 21 = omega arith in
      let da : drop 21 a ≡ big_bytes 2 count ++ drop 23 out = drop_big out a 21 2 count 23 refl h ea in
      let db : drop 5 b ≡ uuid ++ drop 21 a = ap (drop 5) uuid_put ∙ drop-put a 5 uuid (omega arith) ∙ ap (λ (k : ℕ). uuid ++ drop k a) n in
      let dc : drop 4 (set b 4 1) ≡ 1 ∷ drop 5 b = put_laws.drop-set b 4 1 (omega arith) in
      drop_big (set b 4 1) after 0 4 (19 + 8 * count) 4 refl (omega arith) e
      ∙ ap (λ (x : List ℕ). big_bytes 4 (19 + 8 * count) ++ x) (dc ∙ ap (λ (x : List ℕ). 1 ∷ x) (db ∙ ap (λ (x : List ℕ). uuid ++ x) da))

-- ---- a note's length

pub length_pair : (r : Range) → length (pair_bytes r) ≡ 8
length_pair r =
    length-append (big_bytes 4 r.first) (big_bytes 4 r.last) ∙ omega (arith, length_big 4 r.first, length_big 4 r.last)

pub length_pairs : (rs : List Range) → length (pairs_bytes rs) ≡ 8 * length rs
unfolding pairs_bytes
length_pairs [] = refl
length_pairs (r ∷ rs) = length-append (pair_bytes r) (pairs_bytes rs) ∙ omega (arith, length_pair r, length_pairs rs)

pub length_note : (uuid : List ℕ) (rs : List Range) → length uuid ≡ 16 → length (note_of uuid rs) ≡ 23 + 8 * length rs
unfolding note_of
length_note uuid rs u =
    let x = length-append (big_bytes 2 (length rs)) (pairs_bytes rs) in
    let y = length-append uuid (big_bytes 2 (length rs) ++ pairs_bytes rs) in
    length-append (big_bytes 4 (19 + 8 * length rs)) (1 ∷ (uuid ++ (big_bytes 2 (length rs) ++ pairs_bytes rs)))
    ∙ omega (arith, length_big 4 (19 + 8 * length rs), length_big 2 (length rs), length_pairs rs)

-- ---- the answers of the writer

module _ (h : Head) (marks out : List ℕ) where
  pub write_wrong : marks_wrong h.size h.n h.m h.s marks ≡ true
      → ◌≡◌ {A = Answered (Result ℕ Reason)} (record { answer = Err Lent; output = out }) (write_note h marks out)
  unfolding write_note
  write_wrong e = rw e

  module _ (u : length h.uuid ≡ 16) (e : marks_wrong h.size h.n h.m h.s marks ≡ false) (among count : ℕ)
      (listed : missing h.n marks ≡ unheld_from 0 (take among marks)) (counted : count ≡ length (ranges (unheld_from 0 (take among marks)))) where
    long : length (note_of h.uuid (ranges (unheld_from 0 (take among marks)))) ≡ 23 + 8 * count
    long = length_note h.uuid (ranges (unheld_from 0 (take among marks))) u ∙ ap (λ (k : ℕ). 23 + 8 * k) (sym counted)

    pub write_short : length out < 23 + 8 * count
        → ◌≡◌ {A = Answered (Result ℕ Reason)} (record { answer = Err OutputShort; output = out }) (write_note h marks out)
    unfolding write_note
    write_short l = rw (e, listed, long, lt-ltb _ _ l)

    written : (between after : List ℕ)
        → drop 23 between ≡ pairs_bytes (ranges (unheld_from 0 (take among marks))) ++ drop (23 + 8 * count) out
        → after ≡ big_bytes 4 (19 + 8 * count) ++ (1 ∷ (h.uuid ++ (big_bytes 2 count ++ drop 23 between)))
        → after ≡ put out 0 (note_of h.uuid (ranges (unheld_from 0 (take among marks))))
    unfolding note_of
    written between after eb ea = rw (ea, eb, long, counted) (simp append_assoc)

    pub write_good : (between after : List ℕ) → 23 + 8 * count ≤ length out
        → drop 23 between ≡ pairs_bytes (ranges (unheld_from 0 (take among marks))) ++ drop (23 + 8 * count) out
        → after ≡ big_bytes 4 (19 + 8 * count) ++ (1 ∷ (h.uuid ++ (big_bytes 2 count ++ drop 23 between)))
        → ◌≡◌ {A = Answered (Result ℕ Reason)} (record { answer = Ok (23 + 8 * count); output = after }) (write_note h marks out)
    unfolding write_note
    write_good between after l eb ea = rw (e, listed, written between after eb ea, long, le-ltb _ _ l)

-- ---- judging pairs

pub judge_start : (b : List ℕ) (count : ℕ) → (true && apart_from 0 (pairs_from b (23 + 8 * 0) (count - 0))) ≡ maximal (pairs_from b 23 count)
judge_start b count = rw sub-zero

pub judge_turn : (b : List ℕ) (count k least first last : ℕ) (apart whole : Bool) → k < count → first ≡ be b (23 + 8 * k) 4 → last ≡ be b (23 + 8 * k + 4) 4
    → (apart && apart_from least (pairs_from b (23 + 8 * k) (count - k))) ≡ whole
    → ((apart && (leb least first && leb first last)) && apart_from (last + 2) (pairs_from b (23 + 8 * (k + 1)) (count - (k + 1)))) ≡ whole
unfolding apart_from pairs_from
judge_turn b count k least first last apart whole h ef el e =
    let n : count - k ≡ suc (count - (k + 1)) = omega arith in
    let p : 23 + 8 * k + 8 ≡ 23 + 8 * (k + 1) = omega arith in
    rw (ef, el) (and_assoc apart _ _ ∙ (rw (n, p) at e))

pub judge_end : (b : List ℕ) (count k least : ℕ) (apart whole : Bool) → count ≤ k
    → (apart && apart_from least (pairs_from b (23 + 8 * k) (count - k))) ≡ whole → apart ≡ whole
unfolding apart_from pairs_from
judge_end b count k least apart whole h e =
    let n : count - k ≡ 0 = omega arith in
    sym (and-true apart) ∙ (rw n at e)

pub judged_bad : (b : List ℕ) (count : ℕ) → count ≡ count_in b
    → (not (eqb (length b) (23 + 8 * count)) || not (eqb (be b 0 4) (19 + 8 * count)) || not (eqb (get_or b 4 0) 1)) ≡ true → true ≡ malformed b
unfolding malformed
judged_bad b count e f = sym (rw (← e, f))

pub judged : (b : List ℕ) (count : ℕ) (good : Bool) → count ≡ count_in b
    → (not (eqb (length b) (23 + 8 * count)) || not (eqb (be b 0 4) (19 + 8 * count)) || not (eqb (get_or b 4 0) 1)) ≡ false
    → good ≡ maximal (pairs_from b 23 count) → not good ≡ malformed b
unfolding malformed
judged b count good e f g = sym (rw (← e, f, g))

-- a note that is taken has its length
pub note_long : (b : List ℕ) → malformed b ≡ false → length b ≡ 23 + 8 * count_in b
unfolding malformed
note_long b e =
    let x = test_laws.or-false (not (eqb (length b) (23 + 8 * count_in b)) || not (eqb (be b 0 4) (19 + 8 * count_in b)) || not (eqb (get_or b 4 0) 1)) (not (maximal (ranges_in b))) e in
    let y = test_laws.or-false (not (eqb (length b) (23 + 8 * count_in b)) || not (eqb (be b 0 4) (19 + 8 * count_in b))) (not (eqb (get_or b 4 0) 1)) x.0 in
    eqb-true _ _ (not-false _ (test_laws.or-false (not (eqb (length b) (23 + 8 * count_in b))) (not (eqb (be b 0 4) (19 + 8 * count_in b))) y.0).0)

-- ---- copying pairs

pub record Copying (b : List ℕ) (count : ℕ) (out₀ out : List ℕ) (k : ℕ) : Type 0 where
  pub within : k ≤ count
  pub long : length out ≡ length out₀
  pub after : drop (2 * k) out ≡ bounds (pairs_from b (23 + 8 * k) (count - k)) ++ drop (2 * count) out₀

pub copy_start : (b : List ℕ) (count : ℕ) (out : List ℕ) → Copying b count out out count
unfolding bounds pairs_from
copy_start b count out =
    let n : count - count ≡ 0 = omega arith in
    record { within = omega arith; long = refl; after = rw n }

pub copy_turn : (b : List ℕ) (count : ℕ) (out₀ out : List ℕ) (k first last : ℕ) → 0 < k → 2 * count ≤ length out₀ → Copying b count out₀ out k
    → first ≡ be b (23 + 8 * (k - 1)) 4 → last ≡ be b (27 + 8 * (k - 1)) 4
    → Copying b count out₀ (set (set out (2 * (k - 1) + 1) last) (2 * (k - 1)) first) (k - 1)
unfolding bounds pairs_from
copy_turn b count out₀ out k first last h room l ef el =
    let w = l.within in
    let lo = l.long in
    let n : count - (k - 1) ≡ suc (count - k) = omega arith in
    let p : 23 + 8 * (k - 1) + 8 ≡ 23 + 8 * k = omega arith in
    let q : 23 + 8 * (k - 1) + 4 ≡ 27 + 8 * (k - 1) = omega arith in
    let r : 2 * (k - 1) + 1 + 1 ≡ 2 * k = omega arith in
    let ls : length (set out (2 * (k - 1) + 1) last) ≡ length out = length-set out (2 * (k - 1) + 1) last in
    let x = put_laws.drop-set (set out (2 * (k - 1) + 1) last) (2 * (k - 1)) first (omega arith) in
    let y = put_laws.drop-set out (2 * (k - 1) + 1) last (omega arith) in
    let z : drop (2 * (k - 1) + 1 + 1) out ≡ bounds (pairs_from b (23 + 8 * k) (count - k)) ++ drop (2 * count) out₀ = rw r l.after in
    record {
      within = omega arith;
      long = length-set (set out (2 * (k - 1) + 1) last) (2 * (k - 1)) first ∙ ls ∙ lo;
      after = x ∙ ap (λ (t : List ℕ). first ∷ t) (y ∙ ap (λ (t : List ℕ). last ∷ t) z) ∙ (rw (n, p, q, ef, el) refl);
    }

pub length-pairs_from : (b : List ℕ) (at k : ℕ) → length (pairs_from b at k) ≡ k
unfolding pairs_from
length-pairs_from b at zero = refl
length-pairs_from b at (suc k) = ap suc (length-pairs_from b (at + 8) k)

pub length-bounds : (b : List ℕ) (at k : ℕ) → length (bounds (pairs_from b at k)) ≡ 2 * k
length-bounds b at k = bounds_long (pairs_from b at k) ∙ ap (λ (n : ℕ). 2 * n) (length-pairs_from b at k)

pub copy_end : (b : List ℕ) (count : ℕ) (out₀ out : List ℕ) (k : ℕ) → k ≤ 0 → Copying b count out₀ out k
    → out ≡ put out₀ 0 (bounds (pairs_from b 23 count))
copy_end b count out₀ out zero h l =
    let n : count - 0 ≡ count = omega arith in
    let d = length-bounds b 23 count in
    (rw n at l.after) ∙ ap (λ (j : ℕ). bounds (pairs_from b 23 count) ++ drop j out₀) (sym d)
copy_end b count out₀ out (suc k) h l = absurd (omega arith)

-- ---- the answers of the reader

module _ (b out : List ℕ) where
  pub read_bad : (r : Result NoteRead Reason) → malformed b ≡ true → r ≡ Err Note → ◌≡◌ {A = Answered (Result NoteRead Reason)} (record { answer = r; output = out }) (read_note b out)
  unfolding read_note
  read_bad r e f = rw (f, e)

  pub read_short : (r : Result NoteRead Reason) (count : ℕ) → malformed b ≡ false → count ≡ count_in b → length out < 2 * count → r ≡ Err OutputShort
      → ◌≡◌ {A = Answered (Result NoteRead Reason)} (record { answer = r; output = out }) (read_note b out)
  unfolding read_note
  read_short r count e ec h f = rw (f, e, ← ec, lt-ltb _ _ h)

  pub read_good : (count : ℕ) (uuid after : List ℕ) → malformed b ≡ false → count ≡ count_in b → 2 * count ≤ length out → uuid ≡ uuid_in b
      → after ≡ put out 0 (bounds (pairs_from b 23 count))
      → ◌≡◌ {A = Answered (Result NoteRead Reason)} (record { answer = Ok (record { uuid = uuid; ranges = count }); output = after }) (read_note b out)
  unfolding read_note
  read_good count uuid after e ec h eu ea = rw (eu, ea, e, ← ec, le-ltb _ _ h)
