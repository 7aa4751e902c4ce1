-- Which inputs 60 lets through: the tests of the region that the writer would make come to tests of what the caller gave. Assumes nothing.
use Prim.Native.Nat.{ℕ, zero, suc, ◌+◌, ◌*◌, ◌^◌, ◌<◌, ◌≤◌}
use mathlib.Core.Path.{◌≡◌, refl, sym, ap, ap₂, ◌∙◌}
use mathlib.Core.Bool.{Bool, true, false, not, ◌&&◌, ◌||◌, false≢true, or-true}
use mathlib.Core.List.{List, [], ◌∷◌, ◌++◌}
use mathlib.Core.Logic.{⊎_elim}
use native.Mathlib.Omega.{arith}
use borrow.Author.Tests.{ltb-true, ltb-false, lt-ltb, le-ltb, lt-leb, ne_eqb, eq-eqb, eqb-false, not-false}
use lib.Dec.{eqb, ltb}
use lib.ListN.{length}
use Rattle.little.proofs.Laws.{test_laws}
use Rattle.little.specs.Runs.{any}
use Rattle.sfc.specs.answer.Numbers.{passes}
use Rattle.sfc.specs.format.Limits.{unlawful, above_house, length_wrong}
use Rattle.sfc.specs.session.Lent.{shape_wrong}
use Rattle.sfc.specs.format.Extension.{extension_wrong}
use Rattle.sfc.specs.format.Header.{mispaired, flags_barred, distinct_below, priority_wrong, number_checks, list_checks, region_checks}
use Rattle.sfc.specs.writing.Writer.{Input, size, blocks, erasure_for, body, region, outgrows, outgrown, name_wrong, has_reserved, tags_fall, input_wrong}
use Rattle.sfc.specs.declared.format.header.Head.{Head}
use Rattle.sfc.proofs.writing.RegionBack.{Small, small, not-outgrown, length-region, length-body, fields_after, priority_back, head-back}

-- ---- the identifiers are right by their making

erasure_paired : (m : ℕ) → mispaired m (erasure_for m) ≡ false
unfolding mispaired
erasure_paired zero = refl
erasure_paired (suc m) = rw (ne_eqb (suc m) 0 (λ e. omega arith), lt-ltb 0 (suc m) (omega arith))

erasure_known : (m : ℕ) → ltb 1 (erasure_for m) ≡ false
erasure_known zero = refl
erasure_known (suc m) = rw (ne_eqb (suc m) 0 (λ e. omega arith))

-- ---- 14 to 21 of a region whose numbers fit and whose name is right

module _ (w : Input) (u : length w.uuid ≡ 16) (s : Small w) (short : length w.name ≤ 255) (whole : any (eqb 0) w.name ≡ false) where
  priority_is : priority_wrong (blocks w) (length w.priority) (region w) ≡ (ltb (blocks w) (length w.priority) || not (distinct_below (blocks w) w.priority))
  unfolding priority_wrong
  priority_is =
      let l : 335 + 4 * length w.priority ≤ length (region w) = omega (arith, length-region w, length-body w u short) in
      rw (le-ltb (length (region w)) (335 + 4 * length w.priority) l, priority_back w u short s) (drop_false (ltb (blocks w) (length w.priority)) (not (distinct_below (blocks w) w.priority)))
    where
      drop_false : (a b : Bool) → (a || false || b) ≡ (a || b)
      drop_false true b = refl
      drop_false false b = refl

  -- the tests that are left, each of what the caller gave
  pub region_tests : passes (region_checks (region w))
      ≡ (not (unlawful (size w) (blocks w) w.m w.s) && (not (above_house (blocks w) w.m w.s) && (not (flags_barred w.flags)
      && (not (ltb (blocks w) (length w.priority) || not (distinct_below (blocks w) w.priority))
      && (not (extension_wrong (blocks w + w.m) w.flags w.fields) && true)))))
  region_tests =
      ap (λ (h : Head). passes (number_checks h ++ list_checks h (region w))) (head-back w u short s whole)
      ∙ rw (erasure_paired w.m, erasure_known w.m, priority_is, fields_after w u short)

-- ---- what 60 lets through

pub record RightInput (w : Input) : Type 0 where
  pub s_some : w.s ≡ 0 → ⊥
  pub fitting : Small w
  pub name_short : length w.name ≤ 255
  pub name_whole : any (eqb 0) w.name ≡ false
  pub not_reserved : has_reserved w.fields ≡ false
  pub not_falling : tags_fall w.fields ≡ false
  pub body_short : length (body w) ≤ 65536
  pub shape : shape_wrong (size w) (blocks w) w.m w.s ≡ false
  pub flags_right : flags_barred w.flags ≡ false
  pub priority_few : length w.priority ≤ blocks w
  pub priority_right : distinct_below (blocks w) w.priority ≡ true
  pub fields_right : extension_wrong (blocks w + w.m) w.flags w.fields ≡ false
  pub checks_pass : passes (region_checks (region w)) ≡ true

not-and : (a b : Bool) → (not a && b) ≡ true → (a ≡ false) × (b ≡ true)
not-and true b e = absurd (false≢true e)
not-and false b e = (refl, e)

pub right_input : (w : Input) → length w.uuid ≡ 16 → input_wrong w ≡ false → RightInput w
unfolding input_wrong name_wrong length_wrong shape_wrong
right_input w u e =
    let e₆ = test_laws.or-false _ (not (passes (region_checks (region w)))) e in
    let e₅ = test_laws.or-false _ (ltb (length (body w)) 331 || ltb 65536 (length (body w))) e₆.0 in
    let e₄ = test_laws.or-false _ (tags_fall w.fields) e₅.0 in
    let e₃ = test_laws.or-false _ (has_reserved w.fields) e₄.0 in
    let e₂ = test_laws.or-false _ (ltb 255 (length w.name) || any (eqb 0) w.name) e₃.0 in
    let e₁ = test_laws.or-false (eqb w.s 0) (outgrown w) e₂.0 in
    let nm = test_laws.or-false (ltb 255 (length w.name)) (any (eqb 0) w.name) e₂.1 in
    let sm = small w e₁.1 in
    let short = ltb-false 255 (length w.name) nm.0 in
    let ps = not-false (passes (region_checks (region w))) e₆.1 in
    let t = sym (region_tests w u sm short nm.1) ∙ ps in
    let t₁ = not-and (unlawful (size w) (blocks w) w.m w.s) _ t in
    let t₂ = not-and (above_house (blocks w) w.m w.s) _ t₁.1 in
    let t₃ = not-and (flags_barred w.flags) _ t₂.1 in
    let t₄ = not-and (ltb (blocks w) (length w.priority) || not (distinct_below (blocks w) w.priority)) _ t₃.1 in
    let t₅ = not-and (extension_wrong (blocks w + w.m) w.flags w.fields) true t₄.1 in
    let pr = test_laws.or-false (ltb (blocks w) (length w.priority)) (not (distinct_below (blocks w) w.priority)) t₄.0 in
    record {
      s_some = eqb-false w.s 0 e₁.0;
      fitting = sm;
      name_short = short;
      name_whole = nm.1;
      not_reserved = e₃.1;
      not_falling = e₄.1;
      body_short = ltb-false 65536 (length (body w)) (test_laws.or-false (ltb (length (body w)) 331) (ltb 65536 (length (body w))) e₅.1).1;
      shape = ap₂ ◌||◌ t₁.0 t₂.0;
      flags_right = t₃.0;
      priority_few = ltb-false (blocks w) (length w.priority) pr.0;
      priority_right = not-false (distinct_below (blocks w) w.priority) pr.1;
      fields_right = t₅.0;
      checks_pass = ps;
    }

-- ---- the tests of the code

short_name : (name : List ℕ) → name_wrong name ≡ false → length name ≤ 255
unfolding name_wrong
short_name name e = ltb-false 255 (length name) (test_laws.or-false (ltb 255 (length name)) (any (eqb 0) name) e).0

pub no_block : (w : Input) → w.s ≡ 0 → true ≡ input_wrong w
unfolding input_wrong
no_block w e = rw (eq-eqb w.s 0 e)

absurd_right : (b : Bool) → (b ≡ false → ⊥) → true ≡ b
absurd_right true h = refl
absurd_right false h = absurd (h refl)

pub many_blocks : (w : Input) (n : ℕ) → length w.uuid ≡ 16 → n ≡ blocks w → 1024 < n → true ≡ input_wrong w
unfolding shape_wrong above_house
many_blocks w n u en h =
    absurd_right (input_wrong w) (λ e.
    let r = right_input w u e in
    let o = test_laws.or-false (unlawful (size w) (blocks w) w.m w.s) _ r.shape in
    omega (arith, ltb-false 1024 (blocks w) (test_laws.or-false (ltb 1024 (blocks w)) (ltb 32 w.m) (test_laws.or-false _ (ltb 4096 w.s) o.1).0).0))

pub many_indices : (w : Input) (n : ℕ) → length w.uuid ≡ 16 → n ≡ blocks w → n < length w.priority → true ≡ input_wrong w
many_indices w n u en h = absurd_right (input_wrong w) (λ e. omega (arith, (right_input w u e).priority_few))

-- numbers of the widths that the code takes them in
pub record Typed (w : Input) : Type 0 where
  pub uuid_long : length w.uuid ≡ 16
  pub size_typed : size w < 256 ^ 8
  pub format_typed : w.format < 256 ^ 2
  pub m_typed : w.m < 256 ^ 4
  pub s_typed : w.s < 256 ^ 4
  pub flags_typed : w.flags < 256 ^ 2
  pub time_typed : w.time < 256 ^ 8

-- and indices below N fit theirs
none_outgrows : (n : ℕ) (l : List ℕ) → n ≤ 1024 → distinct_below n l ≡ true → any (outgrows 4) l ≡ false
unfolding any distinct_below
none_outgrows n [] h e = refl
none_outgrows n (x ∷ xs) h e =
    let a = test_laws.and_both (ltb x n && not (any (eqb x) xs)) (distinct_below n xs) e in
    let b = test_laws.and_both (ltb x n) (not (any (eqb x) xs)) a.0 in
    rw (lt-leb (256 ^ 4) x (omega (arith, ltb-true x n b.0))) (none_outgrows n xs h a.1)

module _ (w : Input) (t : Typed w) (some : w.s ≡ 0 → ⊥) (few : blocks w ≤ 1024) (listed : length w.priority ≤ blocks w) where
  abbrev left : Bool
  left =
      has_reserved w.fields || tags_fall w.fields || shape_wrong (size w) (blocks w) w.m w.s || flags_barred w.flags || not (distinct_below (blocks w) w.priority)
      || extension_wrong (blocks w + w.m) w.flags w.fields

  regroup : (h g a b f d x : Bool) → (h || g || false || not (not a && (not b && (not f && (not (false || d) && (not x && true)))))) ≡ (h || g || (a || b) || f || d || x)
  regroup true g a b f d x = refl
  regroup false true a b f d x = refl
  regroup false false true b f d x = refl
  regroup false false false true f d x = refl
  regroup false false false false true d x = refl
  regroup false false false false false true x = refl
  regroup false false false false false false true = refl
  regroup false false false false false false false = refl

  -- with a right name, a right length and right indices
  by_tests : name_wrong w.name ≡ false → length (body w) ≤ 65536 → distinct_below (blocks w) w.priority ≡ true → input_wrong w ≡ left
  unfolding input_wrong name_wrong length_wrong shape_wrong
  by_tests nw lw dw =
      let nm = test_laws.or-false (ltb 255 (length w.name)) (any (eqb 0) w.name) nw in
      let short = ltb-false 255 (length w.name) nm.0 in
      let lb = length-body w t.uuid_long short in
      let sm : Small w = record {
        length_small = omega arith;
        size_small = t.size_typed;
        format_small = t.format_typed;
        blocks_small = omega arith;
        m_small = t.m_typed;
        s_small = t.s_typed;
        flags_small = t.flags_typed;
        priority_small = omega arith;
        indices_small = none_outgrows (blocks w) w.priority few dw;
        time_small = t.time_typed;
      } in
      rw (
        ne_eqb w.s 0 some,
        not-outgrown w sm,
        nw,
        le-ltb (length (body w)) 331 (omega arith),
        le-ltb 65536 (length (body w)) lw,
        region_tests w t.uuid_long sm short nm.1,
        le-ltb (blocks w) (length w.priority) listed,
      )
      (regroup (has_reserved w.fields) (tags_fall w.fields) (unlawful (size w) (blocks w) w.m w.s) (above_house (blocks w) w.m w.s) (flags_barred w.flags)
      (not (distinct_below (blocks w) w.priority)) (extension_wrong (blocks w + w.m) w.flags w.fields))

  wrong_name : name_wrong w.name ≡ true → input_wrong w ≡ true
  unfolding input_wrong
  wrong_name e = rw (e, or-true (eqb w.s 0 || outgrown w))

  wrong-length : 65536 < length (body w) → input_wrong w ≡ true
  unfolding input_wrong length_wrong
  wrong-length h =
      rw (lt-ltb 65536 (length (body w)) h, or-true (ltb (length (body w)) 331), or-true (eqb w.s 0 || outgrown w || name_wrong w.name || has_reserved w.fields || tags_fall w.fields))

  -- all the tests that the code is left with, in its order
  pub tests_are : (h : ℕ) → h ≡ 331 + 4 * length w.priority + length w.fields
      → (name_wrong w.name || ltb 65536 h || has_reserved w.fields || tags_fall w.fields || shape_wrong (size w) (blocks w) w.m w.s || flags_barred w.flags
      || not (distinct_below (blocks w) w.priority) || extension_wrong (blocks w + w.m) w.flags w.fields) ≡ input_wrong w
  tests_are h eh = by_indices (distinct_below (blocks w) w.priority) refl
    where
      by_length : name_wrong w.name ≡ false → distinct_below (blocks w) w.priority ≡ true → length (body w) ≡ h
          → (ltb 65536 h || has_reserved w.fields || tags_fall w.fields || shape_wrong (size w) (blocks w) w.m w.s || flags_barred w.flags
          || not (distinct_below (blocks w) w.priority) || extension_wrong (blocks w + w.m) w.flags w.fields) ≡ input_wrong w
      by_length nw dw lb =
          ⊎_elim (λ (g : 65536 < h). rw (lt-ltb 65536 h g) (sym (wrong-length (omega arith))))
          (λ (g : h ≤ 65536). rw (le-ltb 65536 h g) (sym (by_tests nw (omega arith) dw))) (test_laws.below_or 65536 h)

      by_name : (b : Bool) → name_wrong w.name ≡ b → distinct_below (blocks w) w.priority ≡ true
          → (b || ltb 65536 h || has_reserved w.fields || tags_fall w.fields || shape_wrong (size w) (blocks w) w.m w.s || flags_barred w.flags
          || not (distinct_below (blocks w) w.priority) || extension_wrong (blocks w + w.m) w.flags w.fields) ≡ input_wrong w
      by_name true e dw = sym (wrong_name e)
      by_name false e dw = by_length e dw (name-length e)
        where
          name-length : name_wrong w.name ≡ false → length (body w) ≡ h
          name-length nw = length-body w t.uuid_long (short_name w.name nw) ∙ sym eh

      by_indices : (b : Bool) → distinct_below (blocks w) w.priority ≡ b
          → (name_wrong w.name || ltb 65536 h || has_reserved w.fields || tags_fall w.fields || shape_wrong (size w) (blocks w) w.m w.s || flags_barred w.flags
          || not (distinct_below (blocks w) w.priority) || extension_wrong (blocks w + w.m) w.flags w.fields) ≡ input_wrong w
      by_indices true e = by_name (name_wrong w.name) refl e
      by_indices false e = rw (e, or-true) (absurd_right (input_wrong w) (λ z. false≢true (sym e ∙ (right_input w t.uuid_long z).priority_right)))

  -- the same as the code has it, one equation for each call
  pub tests_answered : (n h : ℕ) → n ≡ blocks w → h ≡ 331 + 4 * length w.priority + length w.fields → (nm sp fa sh fl di fi : Bool)
      → nm ≡ name_wrong w.name → sp ≡ has_reserved w.fields → fa ≡ tags_fall w.fields → sh ≡ shape_wrong (size w) n w.m w.s → fl ≡ flags_barred w.flags
      → di ≡ distinct_below n w.priority → fi ≡ extension_wrong (n + w.m) w.flags w.fields
      → (nm || ltb 65536 h || sp || fa || sh || fl || not di || fi) ≡ input_wrong w
  tests_answered n h en eh nm sp fa sh fl di fi e₁ e₂ e₃ e₄ e₅ e₆ e₇ = rw (e₁, e₂, e₃, e₄, e₅, e₆, e₇, en) (tests_are h eh)
