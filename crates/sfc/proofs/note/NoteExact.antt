-- NoteTheorems of specs/note/NoteTheorems.antt: the bytes that the reader takes are those of notes, and the writer's are among
-- them. Assumes nothing.
use Prim.Native.Nat.{ℕ, zero, suc, ◌+◌, ◌*◌, ◌^◌, ◌≤◌}
use mathlib.Core.Path.{◌≡◌, refl, sym, ap, ap₂, ◌∙◌}
use mathlib.Core.Bool.{true, false, not, ◌||◌}
use mathlib.Core.List.{List, [], ◌∷◌, ◌++◌, append_assoc}
use native.Mathlib.Omega.{arith}
use borrow.Author.Tests.{eqb-true, not-false}
use lib.Dec.{eqb}
use lib.ListN.{length, get_or, drop, take-append-drop, drop_of_length-le}
use lib.Seq.{drop-drop, drop-cons}
use Rattle.little.specs.Parts.{part}
use Rattle.little.specs.Fields.{Bytes}
use Rattle.little.proofs.Laws.{part_laws, test_laws, byte_laws}
use Rattle.sfc.specs.session.Lent.{marks_wrong}
use Rattle.sfc.specs.note.Missing.{missing}
use Rattle.sfc.specs.note.Ranges.{Range, ranges, apart_from, maximal}
use Rattle.sfc.specs.note.Note.{be, big_bytes, pairs_bytes, note_of, uuid_in, count_in, pairs_from, ranges_in, malformed}
use Rattle.sfc.specs.note.NoteTheorems.{Small, Sayable, NoteTheorems}
use Rattle.sfc.specs.declared.format.header.Head.{Head}
use Rattle.sfc.proofs.session.MarkLaws.{right_marks}
use Rattle.sfc.proofs.note.BigLaws.{be_bound, bytes_back}
use Rattle.sfc.proofs.note.MissingExact.{missing_rises}
use Rattle.sfc.proofs.note.RangesExact.{apart, ranges_exact}
use Rattle.sfc.proofs.note.RangesFew.{Ends, missing_ends, ranges-few}
use Rattle.sfc.proofs.note.NoteBack.{well_formed, note_read_back}
use Rattle.sfc.proofs.note.NoteLaws.{length-pairs_from}

-- ---- bytes that are taken are a note

-- the rest of a list, a part of it at the front
next_part : (b : List ℕ) (at n next : ℕ) → at + n ≡ next → drop at b ≡ part b at n ++ drop next b
next_part b at n next e = sym (ap (λ (r : List ℕ). part b at n ++ r) (ap (λ (k : ℕ). drop k b) (sym e) ∙ sym (drop-drop n at b)) ∙ take-append-drop n (drop at b))

next_big : (b : List ℕ) → Bytes b → (at n next : ℕ) → at + n ≡ next → next ≤ length b → drop at b ≡ big_bytes n (be b at n) ++ drop next b
next_big b y at n next e h = next_part b at n next e ∙ ap (λ (l : List ℕ). l ++ drop next b) (sym (bytes_back n b y at (omega arith)))

pairs_there : (b : List ℕ) → Bytes b → (at k : ℕ) → at + 8 * k ≡ length b → drop at b ≡ pairs_bytes (pairs_from b at k)
unfolding pairs_bytes pairs_from
pairs_there b y at zero e = drop_of_length-le b {i = at} (omega arith)
pairs_there b y at (suc k) e =
    next_big b y at 4 (at + 4) refl (omega arith)
    ∙ ap (λ (l : List ℕ). big_bytes 4 (be b at 4) ++ l)
    (next_big b y (at + 4) 4 (at + 8) (omega arith) (omega arith)
    ∙ ap (λ (l : List ℕ). big_bytes 4 (be b (at + 4) 4) ++ l) (pairs_there b y (at + 8) k (omega arith)))
    ∙ sym (append_assoc (big_bytes 4 (be b at 4)) (big_bytes 4 (be b (at + 4) 4)) (pairs_bytes (pairs_from b (at + 8) k)))

small_pairs : (b : List ℕ) → Bytes b → (at k : ℕ) → Small (pairs_from b at k)
unfolding pairs_from
small_pairs b y at zero = tt
small_pairs b y at (suc k) = (be_bound 4 b y at, be_bound 4 b y (at + 4), small_pairs b y (at + 8) k)

-- the four tests
record WellFormed (b : List ℕ) : Type 0 where
  pub long : length b ≡ 23 + 8 * count_in b
  pub told : be b 0 4 ≡ 19 + 8 * count_in b
  pub version : get_or b 4 0 ≡ 1
  pub rise : maximal (ranges_in b) ≡ true

tests : (b : List ℕ) → malformed b ≡ false → WellFormed b
unfolding malformed
tests b e =
    let p = not (eqb (length b) (23 + 8 * count_in b)) in
    let q = not (eqb (be b 0 4) (19 + 8 * count_in b)) in
    let v = not (eqb (get_or b 4 0) 1) in
    let x = test_laws.or-false (p || q || v) (not (maximal (ranges_in b))) e in
    let z = test_laws.or-false (p || q) v x.0 in
    let w = test_laws.or-false p q z.0 in
    record {
      long = eqb-true _ _ (not-false _ w.0);
      told = eqb-true _ _ (not-false _ w.1);
      version = eqb-true _ _ (not-false _ z.1);
      rise = not-false _ x.1;
    }

is_note : (b : List ℕ) → Bytes b → WellFormed b → b ≡ note_of (uuid_in b) (ranges_in b)
unfolding note_of
is_note b y w =
    let l = w.long in
    let n = length-pairs_from b 23 (count_in b) in
    let version : drop 4 b ≡ 1 ∷ drop 5 b = drop-cons b 4 0 (omega arith) ∙ ap (λ (x : ℕ). x ∷ drop 5 b) w.version in
    let uuid : drop 5 b ≡ part b 5 16 ++ drop 21 b = next_part b 5 16 21 refl in
    let count : drop 21 b ≡ big_bytes 2 (count_in b) ++ drop 23 b = next_big b y 21 2 23 refl (omega arith) in
    let pairs : drop 23 b ≡ pairs_bytes (ranges_in b) = pairs_there b y 23 (count_in b) (sym l) in
    next_big b y 0 4 4 refl (omega arith)
    ∙ ap₂ (λ (k : ℕ) (r : List ℕ). big_bytes 4 k ++ r) w.told (version ∙ ap (λ (r : List ℕ). 1 ∷ r) (uuid ∙ ap (λ (r : List ℕ). part b 5 16 ++ r) (count ∙ ap (λ (r : List ℕ). big_bytes 2 (count_in b) ++ r) pairs)))
    ∙ ap (λ (k : ℕ). big_bytes 4 (19 + 8 * k) ++ (1 ∷ (uuid_in b ++ (big_bytes 2 k ++ pairs_bytes (ranges_in b))))) (sym n)

sayable : (b : List ℕ) → Bytes b → WellFormed b → Sayable (uuid_in b) (ranges_in b)
sayable b y w =
    let l = w.long in
    record {
      uuid_long = part_laws.length_part b 5 16 (omega arith);
      uuid_bytes = byte_laws.bytes_part b 5 16 y;
      rise = w.rise;
      indices = small_pairs b y 23 (count_in b);
      few = rw (length-pairs_from b 23 (count_in b)) (be_bound 2 b y 21);
    }

-- ---- what the writer says

ends_small : (least top : ℕ) (rs : List Range) → top ≤ 2 ^ 32 → apart_from least rs ≡ true → Ends top rs → Small rs
ends_small least top [] h a e = tt
ends_small least top (r ∷ rs) h a e =
    let p = apart least r rs a in
    (omega (arith, e.0, p.some), omega (arith, e.0), ends_small (r.last + 2) top rs h p.rest e.1)

note_written : (h : Head) (marks : List ℕ) → length h.uuid ≡ 16 → Bytes h.uuid → marks_wrong h.size h.n h.m h.s marks ≡ false
    → Sayable h.uuid (ranges (missing h.n marks)) × (length (ranges (missing h.n marks)) ≤ 512)
note_written h marks u y e =
    let r = right_marks h.size h.n h.m h.s marks e in
    let f = r.shape.n_most in
    let z = missing_ends h.n marks in
    let a = ranges_exact.rise (missing h.n marks) (missing_rises h.n marks) in
    let k = ranges-few.ranges-few h.n marks in (
      record {
        uuid_long = u;
        uuid_bytes = y;
        rise = a;
        indices = ends_small 0 h.n (ranges (missing h.n marks)) (omega arith) a z;
        few = omega arith;
      },
      omega arith,
    )

pub note_theorems : NoteTheorems
note_theorems = record {
  note_read_back = note_read_back;
  note_exact = λ b y. (
    λ e. let w = tests b e in (uuid_in b, ranges_in b, sayable b y w, is_note b y w),
    λ x. ap malformed x.3 ∙ well_formed x.0 x.1 x.2,
  );
  note_written = note_written;
}
