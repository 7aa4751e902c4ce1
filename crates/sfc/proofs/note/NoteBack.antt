-- NoteTheorems.note_read_back: the fields of a note's bytes, read one after the other. Assumes nothing.
use Prim.Native.Nat.{ℕ, zero, suc, ◌+◌, ◌*◌, ◌≤◌}
use mathlib.Core.Path.{◌≡◌, refl, sym, ap, ap₂, ◌∙◌}
use mathlib.Core.Bool.{false}
use mathlib.Core.List.{List, [], ◌∷◌, ◌++◌, append_assoc}
use native.Mathlib.Omega.{arith}
use borrow.Author.Tests.{eq-eqb}
use lib.ListN.{length, get_or, take}
use lib.Seq.{get_or-append-add, drop-append-add, take_at}
use Rattle.little.specs.Parts.{part, put}
use Rattle.sfc.specs.note.Ranges.{Range, bounds}
use Rattle.sfc.specs.note.Note.{be, big_bytes, pair_bytes, pairs_bytes, note_of, uuid_in, count_in, pairs_from, ranges_in, malformed, read_note}
use Rattle.sfc.specs.note.NoteTheorems.{Small, Sayable, taken}
use Rattle.sfc.proofs.note.BigLaws.{be_skip, length_big, value_back}
use Rattle.sfc.proofs.note.NoteLaws.{length_pair, length_note, read_good}

-- ---- pairs

pairs_skip : (a b : List ℕ) (n at k : ℕ) → length a ≡ n → pairs_from (a ++ b) (n + at) k ≡ pairs_from b at k
unfolding pairs_from
pairs_skip a b n at zero e = refl
pairs_skip a b n at (suc k) e =
    let f : n + at + 4 ≡ n + (at + 4) = omega arith in
    let g : n + at + 8 ≡ n + (at + 8) = omega arith in
    ap₂ ◌∷◌ (λ i. record {
      first = be_skip a b n at 4 e i;
      last = (ap (λ (j : ℕ). be (a ++ b) j 4) f ∙ be_skip a b n (at + 4) 4 e) i;
    })
    (ap (λ (j : ℕ). pairs_from (a ++ b) j k) g ∙ pairs_skip a b n (at + 8) k e)

pairs_back : (rs : List Range) → Small rs → pairs_from (pairs_bytes rs) 0 (length rs) ≡ rs
unfolding pairs_from pairs_bytes
pairs_back [] h = refl
pairs_back (r ∷ rs) h =
    let s = append_assoc (big_bytes 4 r.first) (big_bytes 4 r.last) (pairs_bytes rs) in
    ap₂ ◌∷◌ (λ i. record {
      first = (ap (λ (b : List ℕ). be b 0 4) s ∙ value_back 4 r.first h.0 (big_bytes 4 r.last ++ pairs_bytes rs)) i;
      last = (ap (λ (b : List ℕ). be b 4 4) s ∙ be_skip (big_bytes 4 r.first) (big_bytes 4 r.last ++ pairs_bytes rs) 4 0 4 (length_big 4 r.first)
          ∙ value_back 4 r.last h.1 (pairs_bytes rs)) i;
    })
    (pairs_skip (pair_bytes r) (pairs_bytes rs) 8 0 (length rs) (length_pair r) ∙ pairs_back rs h.2)

-- ---- the fields

module _ (uuid : List ℕ) (rs : List Range) (y : Sayable uuid rs) where
  abbrev told : List ℕ
  told = big_bytes 4 (19 + 8 * length rs)

  abbrev counted : List ℕ
  counted = big_bytes 2 (length rs) ++ pairs_bytes rs

  parts : note_of uuid rs ≡ told ++ ((1 ∷ []) ++ (uuid ++ counted))
  unfolding note_of
  parts = refl

  told_long : length told ≡ 4
  told_long = length_big 4 (19 + 8 * length rs)

  told_back : be (note_of uuid rs) 0 4 ≡ 19 + 8 * length rs
  told_back =
      ap (λ (b : List ℕ). be b 0 4) parts
      ∙ value_back 4 (19 + 8 * length rs) (omega (arith, y.few)) ((1 ∷ []) ++ (uuid ++ counted))

  version_back : get_or (note_of uuid rs) 4 0 ≡ 1
  version_back =
      let e : 4 ≡ length told + 0 = omega (arith, told_long) in
      ap₂ (λ (b : List ℕ) (i : ℕ). get_or b i 0) parts e ∙ get_or-append-add told ((1 ∷ []) ++ (uuid ++ counted)) 0 0

  pub uuid_back : uuid_in (note_of uuid rs) ≡ uuid
  uuid_back =
      let e : 5 ≡ length told + 1 = omega (arith, told_long) in
      ap₂ (λ (b : List ℕ) (i : ℕ). part b i 16) parts e
      ∙ ap (λ (b : List ℕ). take 16 b) (drop-append-add told ((1 ∷ []) ++ (uuid ++ counted)) 1)
      ∙ take_at uuid counted 16 y.uuid_long

  pub count-back : count_in (note_of uuid rs) ≡ length rs
  count-back =
      ap (λ (b : List ℕ). be b 21 2) parts
      ∙ be_skip told ((1 ∷ []) ++ (uuid ++ counted)) 4 17 2 told_long ∙ be_skip (1 ∷ []) (uuid ++ counted) 1 16 2 refl
      ∙ be_skip uuid counted 16 0 2 y.uuid_long ∙ value_back 2 (length rs) y.few (pairs_bytes rs)

  pub ranges-back : ranges_in (note_of uuid rs) ≡ rs
  ranges-back =
      ap₂ (λ (b : List ℕ) (k : ℕ). pairs_from b 23 k) parts count-back
      ∙ pairs_skip told ((1 ∷ []) ++ (uuid ++ counted)) 4 19 (length rs) told_long
      ∙ pairs_skip (1 ∷ []) (uuid ++ counted) 1 18 (length rs) refl
      ∙ pairs_skip uuid counted 16 2 (length rs) y.uuid_long
      ∙ pairs_skip (big_bytes 2 (length rs)) (pairs_bytes rs) 2 0 (length rs) (length_big 2 (length rs))
      ∙ pairs_back rs y.indices

  pub well_formed : malformed (note_of uuid rs) ≡ false
  unfolding malformed
  well_formed =
      rw (ranges-back, y.rise, count-back, version_back, told_back, length_note uuid rs y.uuid_long, eq-eqb (23 + 8 * length rs) (23 + 8 * length rs) refl, eq-eqb (19 + 8 * length rs) (19 + 8 * length rs) refl)

pub note_read_back : (uuid : List ℕ) (rs : List Range) → Sayable uuid rs → (out : List ℕ) → 2 * length rs ≤ length out
    → read_note (note_of uuid rs) out ≡ taken uuid rs out
note_read_back uuid rs y out h =
    let c = count-back uuid rs y in
    sym (read_good (note_of uuid rs) out (length rs) uuid (put out 0 (bounds rs)) (well_formed uuid rs y) (sym c) h (sym (uuid_back uuid rs y))
    (ap (λ (q : List Range). put out 0 (bounds q)) (sym (ranges-back uuid rs y) ∙ ap (pairs_from (note_of uuid rs) 23) c)))
