-- The walk that looks for a field, and the part of an accepted input that it walks over. Assumes nothing.
use Prim.Native.Nat.{ℕ, zero, suc, ◌+◌, ◌-◌, ◌*◌, ◌<◌, ◌≤◌}
use mathlib.Core.Path.{◌≡◌, refl, sym, ap, ap₂, ◌∙◌}
use mathlib.Core.Bool.{cond}
use mathlib.Core.List.{List, [], ◌∷◌}
use native.Mathlib.Omega.{arith}
use borrow.Author.Tests.{eq-eqb, ne_eqb, ltb-false}
use lib.Dec.{ltb, eqb}
use lib.ListN.{length, take, drop}
use lib.Seq.{drop-drop, take_all}
use Rattle.little.specs.Parts.{part}
use Rattle.little.specs.Fields.{le}
use Rattle.little.proofs.Laws.{part_laws, byte_laws, test_laws}
use Rattle.sfc.specs.answer.Numbers.{verdict, Checked}
use Rattle.sfc.specs.format.Limits.{length_wrong}
use Rattle.sfc.specs.format.Extension.{Field, fields_of}
use Rattle.sfc.specs.format.Header.{head_of, length_field, region_of, header_checks, read_header, header_verdict}
use Rattle.sfc.specs.answer.Places.{place, field_found}
use Rattle.sfc.specs.format.Lookup.{found_among, extension_of, extension_place, find_field}
use Rattle.sfc.specs.declared.answer.reason.Reason.{Reason}
use Rattle.sfc.specs.declared.format.header.Head.{Head}
use Rattle.sfc.proofs.answer.CheckLaws.{passed, good_all, refused_all, tells}
use Rattle.sfc.proofs.format.HeaderLaws.{priority_inside}
use Rattle.sfc.specs.declared.format.lookup.FieldFound.{FieldFound}
use Rattle.std.specs.Prelude.{Option, Result, Some, None, Ok, Err}

module _ (tag start : ℕ) (e : List ℕ) where
  -- what is to be found among the fields still to come, of which the first begins at place `at`, is what is to be found at all
  pub Walking : ℕ → List Field → Type 0
  Walking at fs = found_among tag at fs ≡ found_among tag start (fields_of e)

  pub walking_start : (fs : List Field) → fs ≡ fields_of e → Walking start fs
  unfolding Walking
  walking_start fs q = rw q refl

  pub walking_end : (at : ℕ) (fs : List Field) → fs ≡ [] → Walking at fs → None ≡ found_among tag start (fields_of e)
  unfolding Walking found_among
  walking_end at fs q w = rw q at w

  module _ (at : ℕ) (f : Field) (fs rest : List Field) (w : Walking at fs) (first : fs ≡ f ∷ rest) where
    by_field : cond (eqb f.tag tag) (Some (field_found (place (at + 6)) (length f.value))) (found_among tag (at + 6 + length f.value) rest) ≡ found_among tag start (fields_of e)
    unfolding Walking found_among
    by_field = rw first at w

    pub found : f.tag ≡ tag → Some (field_found (place (at + 6)) (length f.value)) ≡ found_among tag start (fields_of e)
    found q = rw (eq-eqb f.tag tag q) at by_field

    pub not_this : (f.tag ≡ tag → ⊥) → Walking (at + 6 + length f.value) rest
    unfolding Walking
    not_this q = rw (ne_eqb f.tag tag q) at by_field

-- ---- the part of the input

-- the rest of a part
drop-part : (xs : List ℕ) (from n k : ℕ) → drop k (part xs from n) ≡ part xs (from + k) (n - k)
drop-part xs from n k = drop-take k n (drop from xs) ∙ ap (take (n - k)) (drop-drop k from xs)
  where
    drop-take : (i m : ℕ) (l : List ℕ) → drop i (take m l) ≡ take (m - i) (drop i l)
    drop-take zero m l = let e : m ≡ m - 0 = omega arith in ap (λ (j : ℕ). take j l) e
    drop-take (suc i) zero l = let e : 0 ≡ 0 - suc i = omega arith in ap (λ (j : ℕ). take j (drop (suc i) l)) e
    drop-take (suc i) (suc m) [] = sym (take_all (suc m - suc i) [] (omega arith))
    drop-take (suc i) (suc m) (x ∷ l) = let e : m - i ≡ suc m - suc i = omega arith in drop-take i m l ∙ ap (λ (j : ℕ). take j (drop i l)) e

-- the fields of an accepted header lie in its region, which leaves room for a trailer
pub record Inside (b : List ℕ) (h p : ℕ) : Type 0 where
  pub length_right : 331 ≤ h
  pub length_low : h ≤ 65536
  pub list_ends : 335 + 4 * p ≤ h + 4
  pub trailer_room : h + 76 ≤ length b

-- the part that the code walks over lies where places of 32 bits reach
pub part_low : (b : List ℕ) (h p : ℕ) → Inside b h p → 343 + 4 * p + length (part b (343 + 4 * p) (12 + h - (343 + 4 * p))) < 2147483648
part_low b h p i = omega (arith, i.length_low, i.list_ends, part_laws.length_part b (343 + 4 * p) (12 + h - (343 + 4 * p)) (omega (arith, i.list_ends, i.trailer_room)))

pub fields_inside : (b : List ℕ) → verdict (header_checks b) ≡ Ok tt → Inside b (length_field b) (le (region_of b) 333 2)
unfolding length_wrong
fields_inside b good =
    let q = passed (header_checks b) good in
    let range = test_laws.or-false (ltb (length_field b) 331) (ltb 65536 (length_field b)) q.1.1.1.0 in
    let room : length_field b + 76 ≤ length b = ltb-false (length b) (length_field b + 76) q.1.1.1.1.0 in
    let long : length (region_of b) ≡ length_field b + 4 = part_laws.length_part b 8 (length_field b + 4) (omega arith) in
    let list = priority_inside (le (region_of b) 317 4) (le (region_of b) 333 2) (region_of b) q.1.1.1.1.1.1.1.1.1.1.1.0 in
    record {
      length_right = ltb-false (length_field b) 331 range.0;
      length_low = ltb-false 65536 (length_field b) range.1;
      list_ends = omega arith;
      trailer_room = room;
    }

-- ---- the call: x is what `read_header` says of b

module _ (b : List ℕ) (tag : ℕ) (x : Result Head Reason) (says : x ≡ read_header b) where
  told : (v : Checked) → header_verdict x ≡ v → verdict (header_checks b) ≡ v
  unfolding read_header
  told v e =
      tells header_verdict Err (Ok (head_of (region_of b))) (λ q. refl) refl (header_checks b) v
      (sym (ap header_verdict says) ∙ e)

  pub refused_field : (r : Reason) → x ≡ Err r → Err r ≡ find_field b tag
  unfolding find_field
  refused_field r e = sym (refused_all Err (header_checks b) (Ok (found_among tag (extension_place (region_of b)) (fields_of (extension_of (region_of b))))) r (told (Err r) (ap header_verdict e)))

  module _ (h : Head) (good : x ≡ Ok h) where
    passed_all : verdict (header_checks b) ≡ Ok tt
    passed_all = told (Ok tt) (ap header_verdict good)

    head : h ≡ head_of (region_of b)
    unfolding read_header
    head =
        let e : ◌≡◌ {A = Result Head Reason} (Ok h) (Ok (head_of (region_of b))) = sym good ∙ says ∙ good_all Err (header_checks b) (Ok (head_of (region_of b))) passed_all in
        cc

    same_count : h.priorities ≡ le (region_of b) 333 2
    same_count = ap (λ (g : Head). g.priorities) head

    same_length : h.header_length ≡ length_field b
    same_length = ap (λ (g : Head). g.header_length) head ∙ byte_laws.le-part 4 b 8 (length_field b + 4) 0 (omega arith)

    pub inside : Inside b h.header_length h.priorities
    inside = rw (same_length, same_count) (fields_inside b passed_all)

    -- the fields lie in the part that the code walks over
    pub shown_field : (from end : ℕ) (r : Option FieldFound) → from ≡ 343 + 4 * h.priorities → end ≡ 12 + h.header_length
        → r ≡ found_among tag from (fields_of (part b from (end - from))) → Ok r ≡ find_field b tag
    unfolding find_field
    shown_field from end r ef ee er =
        let p : ℕ = le (region_of b) 333 2 in
        let i : 8 + (335 + 4 * p) ≡ from = omega (arith, same_count) in
        let n : length_field b + 4 - (335 + 4 * p) ≡ end - from = omega (arith, same_count, same_length) in
        let k : extension_place (region_of b) ≡ from = omega (arith, same_count) in
        let l : extension_of (region_of b) ≡ part b from (end - from) = drop-part b 8 (length_field b + 4) (335 + 4 * p) ∙ ap₂ (λ (at m : ℕ). part b at m) i n in
        ap Ok (er ∙ sym (ap₂ (λ (at : ℕ) (e : List ℕ). found_among tag at (fields_of e)) k l))
        ∙ sym (good_all Err (header_checks b) (Ok (found_among tag (extension_place (region_of b)) (fields_of (extension_of (region_of b))))) passed_all)
