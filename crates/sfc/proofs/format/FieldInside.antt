-- A field that is found lies in the region of an accepted header, and its value is there (specs/format/FieldTheorems.antt). Assumes nothing.
use Prim.Native.Nat.{ℕ, zero, suc, ◌+◌, ◌-◌, ◌*◌, ◌≤◌}
use mathlib.Core.Path.{◌≡◌, refl, sym, ap, ap₂, ◌∙◌}
use mathlib.Core.Bool.{Bool, true, false, cond}
use mathlib.Core.List.{List, [], ◌∷◌}
use native.Mathlib.Omega.{arith}
use lib.Dec.{eqb}
use lib.ListN.{length, take, drop, length-drop}
use lib.Seq.{drop-drop}
use Rattle.little.specs.Parts.{part}
use Rattle.little.specs.Fields.{le}
use Rattle.little.proofs.Laws.{part_laws}
use Rattle.sfc.specs.answer.Numbers.{verdict}
use Rattle.sfc.specs.format.Extension.{whole_field, field_at, fields_in, fields_of}
use Rattle.sfc.specs.format.Header.{length_field, region_of, header_checks}
use Rattle.sfc.specs.answer.Places.{place, field_found}
use Rattle.sfc.specs.format.Lookup.{found_among, value_among, extension_of, extension_place}
use Rattle.sfc.specs.format.FieldTheorems.{FieldLookup}
use Rattle.sfc.specs.declared.answer.places.BytePlace.{BytePlace}
use Rattle.sfc.specs.declared.format.lookup.FieldFound.{FieldFound}
use Rattle.sfc.proofs.format.FieldWalk.{whole_long}
use Rattle.sfc.proofs.format.LookupLaws.{fields_inside}
use Rattle.std.specs.Prelude.{Some, None, Ok}

not_found : {A : Type 0} (p : BytePlace) (n : ℕ) → None ≡ Some (field_found p n) → A
not_found p n e = absurd (let z : ◌≡◌ {A = ℕ} 0 1 = cc in omega arith)

same_found : (p q : ℕ) (n k : ℕ) → Some (field_found (place p) n) ≡ Some (field_found (place q) k) → (p ≡ q) × (n ≡ k)
same_found p q n k e =
    let f : field_found (place p) n ≡ field_found (place q) k = cc in
    (ap (λ (y : FieldFound). y.at.0) f, ap (λ (y : FieldFound). y.length) f)

-- among fields whose first byte is at place `at`
found_inside : (most tag at : ℕ) (e : List ℕ) (p n : ℕ) → found_among tag at (fields_in most e) ≡ Some (field_found (place p) n) → p + n ≤ at + length e
unfolding found_among fields_in
found_inside zero tag at e p n f = not_found (place p) n f
found_inside (suc most) tag at e p n f = go (whole_field e) refl (λ k g. found_inside most tag k (drop (6 + le e 2 4) e) p n g) f
  where
    first : whole_field e ≡ true → (t : Bool)
        → ((k : ℕ) → found_among tag k (fields_in most (drop (6 + le e 2 4) e)) ≡ Some (field_found (place p) n) → p + n ≤ k + length (drop (6 + le e 2 4) e))
        → cond t (Some (field_found (place (at + 6)) (length (part e 6 (le e 2 4))))) (found_among tag (at + 6 + length (part e 6 (le e 2 4))) (fields_in most (drop (6 + le e 2 4) e))) ≡ Some (field_found (place p) n)
        → p + n ≤ at + length e
    first q true after g =
        let s = same_found (at + 6) p (length (part e 6 (le e 2 4))) n g in
        omega (arith, whole_long e q, part_laws.length_part e 6 (le e 2 4) (whole_long e q), s.0, s.1)
    first q false after g =
        omega (arith, whole_long e q, part_laws.length_part e 6 (le e 2 4) (whole_long e q), after (at + 6 + length (part e 6 (le e 2 4))) g, length-drop (6 + le e 2 4) e)

    go : (w : Bool) → whole_field e ≡ w
        → ((k : ℕ) → found_among tag k (fields_in most (drop (6 + le e 2 4) e)) ≡ Some (field_found (place p) n) → p + n ≤ k + length (drop (6 + le e 2 4) e))
        → found_among tag at (cond w (field_at e ∷ fields_in most (drop (6 + le e 2 4) e)) []) ≡ Some (field_found (place p) n) → p + n ≤ at + length e
    go true q after g = first q (eqb (le e 0 2) tag) after g
    go false q after g = not_found (place p) n g

-- in a header that the reader accepts
pub field_in_region : (b : List ℕ) (tag p long : ℕ) → verdict (header_checks b) ≡ Ok tt
    → found_among tag (extension_place (region_of b)) (fields_of (extension_of (region_of b))) ≡ Some (field_found (place p) long)
    → (p + long ≤ length_field b + 12) × (length_field b + 76 ≤ length b)
field_in_region b tag p long good f =
    let i = fields_inside b good in
    let n = found_inside (length (extension_of (region_of b))) tag (extension_place (region_of b)) (extension_of (region_of b)) p long f in
    let l : length (region_of b) ≡ length_field b + 4 = part_laws.length_part b 8 (length_field b + 4) (omega (arith, i.trailer_room)) in
    (omega (arith, n, l, i.list_ends, length-drop (335 + 4 * le (region_of b) 333 2) (region_of b)), i.trailer_room)

-- ---- its value is there

value_in : (most tag at : ℕ) (e : List ℕ) (p n : ℕ) → found_among tag at (fields_in most e) ≡ Some (field_found (place p) n)
    → (at ≤ p) × (part e (p - at) n ≡ value_among tag (fields_in most e))
unfolding found_among value_among fields_in
value_in zero tag at e p n f = not_found (place p) n f
value_in (suc most) tag at e p n f = go (whole_field e) refl (λ k g. value_in most tag k (drop (6 + le e 2 4) e) p n g) f
  where
    first : whole_field e ≡ true → (t : Bool)
        → ((k : ℕ) → found_among tag k (fields_in most (drop (6 + le e 2 4) e)) ≡ Some (field_found (place p) n)
        → (k ≤ p) × (part (drop (6 + le e 2 4) e) (p - k) n ≡ value_among tag (fields_in most (drop (6 + le e 2 4) e))))
        → cond t (Some (field_found (place (at + 6)) (length (part e 6 (le e 2 4))))) (found_among tag (at + 6 + length (part e 6 (le e 2 4))) (fields_in most (drop (6 + le e 2 4) e))) ≡ Some (field_found (place p) n)
        → (at ≤ p) × (part e (p - at) n ≡ cond t (part e 6 (le e 2 4)) (value_among tag (fields_in most (drop (6 + le e 2 4) e))))
    first q true after g =
        let s = same_found (at + 6) p (length (part e 6 (le e 2 4))) n g in
        let i : p - at ≡ 6 = omega (arith, s.0) in
        let v : n ≡ le e 2 4 = sym s.1 ∙ part_laws.length_part e 6 (le e 2 4) (whole_long e q) in
        (omega (arith, s.0), ap₂ (λ (j k : ℕ). part e j k) i v)
    first q false after g =
        let r = after (at + 6 + length (part e 6 (le e 2 4))) g in
        let v = part_laws.length_part e 6 (le e 2 4) (whole_long e q) in
        let i : p - at ≡ 6 + le e 2 4 + (p - (at + 6 + length (part e 6 (le e 2 4)))) = omega (arith, r.0, v) in
        (omega (arith, r.0), ap (λ (j : ℕ). part e j n) i ∙ ap (take n) (sym (drop-drop (p - (at + 6 + length (part e 6 (le e 2 4)))) (6 + le e 2 4) e)) ∙ r.1)

    go : (w : Bool) → whole_field e ≡ w
        → ((k : ℕ) → found_among tag k (fields_in most (drop (6 + le e 2 4) e)) ≡ Some (field_found (place p) n)
        → (k ≤ p) × (part (drop (6 + le e 2 4) e) (p - k) n ≡ value_among tag (fields_in most (drop (6 + le e 2 4) e))))
        → found_among tag at (cond w (field_at e ∷ fields_in most (drop (6 + le e 2 4) e)) []) ≡ Some (field_found (place p) n)
        → (at ≤ p) × (part e (p - at) n ≡ value_among tag (cond w (field_at e ∷ fields_in most (drop (6 + le e 2 4) e)) []))
    go true q after g = first q (eqb (le e 0 2) tag) after g
    go false q after g = not_found (place p) n g

pub field_lookup : FieldLookup
field_lookup = record { value_there = λ e tag at p long f. value_in (length e) tag at e p long f }
