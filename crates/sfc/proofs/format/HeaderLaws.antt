-- What the proofs of the header's functions cite: the region's lists, the fields copied out, the whole. Assumes nothing.
use Prim.Native.Nat.{ℕ, zero, suc, ◌+◌, ◌-◌, ◌*◌, ◌≤◌}
use mathlib.Core.Path.{◌≡◌, refl, sym, ap, ap₂, ◌∙◌}
use mathlib.Core.Bool.{Bool, false, cond, not, ◌||◌}
use mathlib.Core.List.{List, [], ◌∷◌, ◌++◌}
use native.Mathlib.Omega.{arith}
use borrow.Author.Tests.{ltb-false}
use lib.Dec.{ltb}
use lib.ListN.{length, take, drop}
use lib.Seq.{take-take}
use Rattle.little.specs.Parts.{part}
use Rattle.little.specs.Fields.{le}
use Rattle.little.proofs.Laws.{part_laws, test_laws}
use Rattle.sfc.specs.format.Bytes.{padded, before_zero}
use Rattle.little.specs.Runs.{zeros}
use Rattle.sfc.specs.answer.Numbers.{verdict, checked, Checked}
use Rattle.sfc.specs.format.Limits.{length_wrong}
use Rattle.sfc.specs.format.Extension.{extension_wrong}
use Rattle.sfc.specs.format.Header.{head_of, indices, distinct_below, priority_wrong, start_checks, region_checks, trailer_checks, list_checks, region_of, trailer_of, length_field, read_header}
use Rattle.sfc.specs.declared.answer.reason.Reason.{Reason}
use Rattle.sfc.specs.declared.answer.reason.Reason.TheVariants.{Extension}
use Rattle.sfc.proofs.format.TextLaws.{name_fits}
use Rattle.sfc.proofs.answer.CheckLaws.{passed, refused_then, good_then}
use Rattle.sfc.specs.declared.format.header.Head.{Head}
use Rattle.std.specs.Prelude.{Result, Ok, Err}

-- ---- the region's lists

-- a list that is not wrong lies inside the region
pub priority_inside : (n p : ℕ) (r : List ℕ) → priority_wrong n p r ≡ false → 335 + 4 * p ≤ length r
unfolding priority_wrong
priority_inside n p r e =
    let f = test_laws.or-false (ltb n p || ltb (length r) (335 + 4 * p)) (not (distinct_below n (indices r 335 p))) e in
    omega (arith, ltb-false (length r) (335 + 4 * p) (test_laws.or-false (ltb n p) (ltb (length r) (335 + 4 * p)) f.0).1)

pub lists_fields : (r rest : List ℕ) (n p m flags : ℕ) (b w : Bool) (v : Checked) → n ≡ le r 317 4 → p ≡ le r 333 2 → m ≡ le r 321 4 → flags ≡ le r 331 2
    → b ≡ priority_wrong n p r → b ≡ false → rest ≡ drop (335 + 4 * p) r → w ≡ extension_wrong (n + m) flags rest → v ≡ cond w (Err Extension) (Ok tt)
    → v ≡ verdict (list_checks (head_of r) r)
lists_fields r rest n p m flags b w v en ep em ef eb f er ew ev = rw (← en, ← ep, ← em, ← ef, ← eb, f, ← er, ← ew) ev

-- ---- the fields copied out

take_name : (xs : List ℕ) → take (length (before_zero xs)) xs ≡ before_zero xs
unfolding before_zero
take_name [] = refl
take_name (zero ∷ xs) = refl
take_name (suc x ∷ xs) = ap (◌∷◌ (suc x)) (take_name xs)

-- a name copied to the front of zeros; n is its length, and end its end as the code has it
pub name_copied : (r src : List ℕ) (n : ℕ) → 285 ≤ length r → n ≡ length (before_zero (part r 30 255)) → src ≡ part r 30 (30 + n - 30)
    → src ++ drop n (zeros 255) ≡ padded 255 (before_zero (part r 30 255))
name_copied r src n h en es =
    let l : length (part r 30 255) ≡ 255 = part_laws.length_part r 30 255 (omega arith) in
    let f : n ≤ 255 = omega (arith, name_fits (part r 30 255)) in
    let k : 30 + n - 30 ≡ n = omega arith in
    let e : src ≡ before_zero (part r 30 255) =
    es ∙ ap (λ (m : ℕ). part r 30 m) k ∙ sym (take-take n 255 (drop 30 r) f) ∙ ap (λ (m : ℕ). take m (part r 30 255)) en ∙ take_name (part r 30 255) in
    ap₂ ◌++◌ e (ap (λ (k : ℕ). drop k (zeros 255)) en ∙ part_laws.drop-zeros (length (before_zero (part r 30 255))) 255)

-- ---- the whole

-- a start that passed leaves room for region and trailer
pub start_there : (b : List ℕ) (v : Checked) → v ≡ verdict (start_checks b) → v ≡ Ok tt → (331 ≤ length_field b) × (length_field b + 76 ≤ length b)
unfolding length_wrong
start_there b v e f =
    let p = passed (start_checks b) (sym e ∙ f) in (
      omega (arith, ltb-false (length_field b) 331 (test_laws.or-false _ _ p.1.1.1.0).0),
      omega (arith, ltb-false (length b) (length_field b + 76) p.1.1.1.1.0),
    )

-- the region that the code lends is long enough for its fields
pub region_long : (b : List ℕ) (h : ℕ) → h ≡ length_field b → 331 ≤ length_field b → length_field b + 76 ≤ length b → 335 ≤ length (part b 8 (12 + h - 8))
region_long b h e k l = omega (arith, part_laws.length_part b 8 (12 + h - 8) (omega arith))

pub read_refused : (b : List ℕ) (v : Checked) (q : Reason) (x : Result Head Reason) → v ≡ verdict (start_checks b) → v ≡ Err q → x ≡ Err q → x ≡ read_header b
unfolding read_header
read_refused b v q x e f g =
    g ∙ sym (refused_then Err (start_checks b) (region_checks (region_of b) ++ trailer_checks (region_of b) (trailer_of b)) (Ok (head_of (region_of b))) q (sym e ∙ f))

pub read_on : (b r t : List ℕ) (h : ℕ) (v : Checked) (x : Result Head Reason) → v ≡ verdict (start_checks b) → v ≡ Ok tt → h ≡ length_field b
    → r ≡ part b 8 (12 + h - 8) → t ≡ part b (length b - 64) (length b - (length b - 64))
    → x ≡ checked (region_checks r ++ trailer_checks r t) Err (Ok (head_of r)) → x ≡ read_header b
unfolding read_header
read_on b r t h v x e f eh er et g =
    let k : 12 + h - 8 ≡ length_field b + 4 = omega arith in
    let p : r ≡ region_of b = er ∙ ap (λ (n : ℕ). part b 8 n) k in
    let q : t ≡ trailer_of b = et ∙ part_laws.part-rest b (length b - 64) in
    g ∙ ap₂ (λ (y z : List ℕ). checked (region_checks y ++ trailer_checks y z) Err (Ok (head_of y))) p q
    ∙ sym (good_then Err (start_checks b) (region_checks (region_of b) ++ trailer_checks (region_of b) (trailer_of b)) (Ok (head_of (region_of b))) (sym e ∙ f))
