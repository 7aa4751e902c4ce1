-- A header whose extension is another, and the tags of a written file (specs/writing/HeaderFields.antt). Assumes nothing.
use Prim.Native.Nat.{ℕ, zero, suc, ◌+◌, ◌-◌, ◌*◌, ◌^◌, ◌≤◌, ◌<◌}
use mathlib.Core.Path.{◌≡◌, refl, sym, ap, ap₂, ◌∙◌}
use mathlib.Core.Logic.{◌≢◌}
use mathlib.Core.Bool.{Bool, true, false, cond, not, ◌&&◌, ◌||◌}
use mathlib.Core.List.{List, [], ◌∷◌, ◌++◌, append_assoc, append-nil, map, Permᴰ}
use native.Mathlib.Omega.{arith}
use borrow.Author.Tests.{ltb-false, le-ltb, leb-true, le-leb, not-false}
use lib.Dec.{ltb, leb, eqb}
use lib.ListN.{length, get_or, take, drop, length-append, length-drop, take-append-drop, get_or-append}
use lib.Seq.{get_or-drop}
use Rattle.little.specs.Parts.{part}
use Rattle.little.specs.Fields.{Bytes, le, bytes_of}
use Rattle.little.proofs.Laws.{part_laws, little_laws, byte_laws, test_laws}
use Rattle.blake3.specs.Tree.{hash}
use Rattle.blake3.proofs.Laws.{hash_laws}
use Rattle.cauchy.specs.Code.{joined}
use Rattle.sfc.specs.format.Bytes.{stands_at}
use Rattle.sfc.specs.answer.Numbers.{Check, verdict, Passed}
use Rattle.sfc.specs.format.Limits.{length_wrong}
use Rattle.sfc.specs.format.Extension.{Field, field_bytes, joined_fields, field_at, whole_field, fields_in, fields_of, is_known, extension_wrong}
use Rattle.sfc.specs.format.FieldsTaken.{field_no, Known, Storable, AllStorable}
use Rattle.sfc.specs.format.Header.{magic, length_field, region_of, trailer_of, head_of, indices, distinct_below, priority_wrong, number_checks, list_checks, region_checks, trailer_checks, header_checks, read_header, header_verdict}
use Rattle.sfc.specs.format.Lookup.{extension_of}
use Rattle.sfc.specs.writing.Writer.{Input, blocks, region as made-region, chunk, trailer_bytes, file_of, rises_weakly, tags_fall, input_wrong}
use Rattle.sfc.specs.writing.HeaderFields.{length_with, region_with, header_with, Accepted, HeaderFields}
use Rattle.sfc.specs.declared.format.header.Head.{Head}
use Rattle.sfc.proofs.answer.CheckLaws.{passed, front-passed, all-passed, good_then, tells}
use Rattle.sfc.proofs.format.PlaceLaws.{number_at, le-front, stands_front}
use Rattle.sfc.proofs.format.HeaderParts.{only_seen}
use Rattle.sfc.proofs.format.FieldWalk.{field_walk}
use Rattle.sfc.proofs.format.FieldOrder.{length-stored, order_free, foreign_added}
use Rattle.sfc.proofs.format.FieldsTaken.{fields_taken}
use Rattle.sfc.proofs.writing.LengthLaws.{length-trailer}
use Rattle.sfc.proofs.writing.RegionBack.{fields_after, head-back}
use Rattle.sfc.proofs.writing.InputLaws.{right_input}
use Rattle.sfc.proofs.writing.HeaderBack.{trailer-passed, last_passed, region-back}
use Rattle.std.specs.Prelude.{Ok, Err}

-- ---- a region with another extension

module _ (r e : List ℕ) (long : 335 + 4 * le r 333 2 ≤ length r) where
  abbrev made : List ℕ
  made = region_with r e

  abbrev upto : ℕ
  upto = 331 + 4 * le r 333 2

  abbrev kept : List ℕ
  kept = part r 4 upto

  kept_long : length kept ≡ upto
  kept_long = part_laws.length_part r 4 upto (omega arith)

  from_field : made ≡ bytes_of 4 (length_with r e) ++ (kept ++ e)
  unfolding region_with
  from_field = append_assoc (bytes_of 4 (length_with r e)) kept e

  from_kept : drop 4 made ≡ kept ++ e
  from_kept = part_laws.next made (bytes_of 4 (length_with r e)) (kept ++ e) 0 4 from_field ((little_laws 4).long (length_with r e))

  from_extension : drop (4 + upto) made ≡ e
  from_extension = part_laws.next made kept e 4 upto from_kept kept_long

  made_long : length made ≡ 4 + length_with r e
  made_long = ap length from_field ∙ length-append (bytes_of 4 (length_with r e)) (kept ++ e) ∙ omega (arith, (little_laws 4).long (length_with r e), length-append kept e, kept_long)

  -- after H and before the extension each byte is as it was
  same_byte : (i : ℕ) → 4 ≤ i → i < 4 + upto → get_or made i 0 ≡ get_or r i 0
  same_byte i h k =
      let z : 4 + (i - 4) ≡ i = omega arith in
      rw z at (part_laws.byte_after made (kept ++ e) 4 (i - 4) (get_or r (4 + (i - 4)) 0) from_kept
      (get_or-append kept e 0 (i - 4) (omega (arith, kept_long)) ∙ part_laws.get_or-part r 4 upto (i - 4) (omega arith)))

  same_number : (at width : ℕ) → 4 ≤ at → at + width ≤ 4 + upto → le made at width ≡ le r at width
  same_number at width h k = byte_laws.le_same width made r at at (λ i u. same_byte (at + i) (omega arith) (omega arith))

  same-indices : (at count : ℕ) → 4 ≤ at → at + 4 * count ≤ 4 + upto → indices made at count ≡ indices r at count
  unfolding indices
  same-indices at zero h k = refl
  same-indices at (suc count) h k = ap₂ ◌∷◌ (same_number at 4 h (omega arith)) (same-indices (at + 4) count (omega arith) (omega arith))

  -- 14 to 19 are judged as before, and 20 passes where it passed
  same_numbers : number_checks (head_of made) ≡ number_checks (head_of r)
  same_numbers =
      rw (
        same_number 20 8 (omega arith) (omega arith),
        same_number 317 4 (omega arith) (omega arith),
        same_number 321 4 (omega arith) (omega arith),
        same_number 325 4 (omega arith) (omega arith),
        same_byte 329 (omega arith) (omega arith),
        same_byte 330 (omega arith) (omega arith),
        same_number 331 2 (omega arith) (omega arith),
      )

  same_priority : priority_wrong (le r 317 4) (le r 333 2) r ≡ false → priority_wrong (le made 317 4) (le made 333 2) made ≡ false
  unfolding priority_wrong
  same_priority w =
      let o = test_laws.or-false _ (not (distinct_below (le r 317 4) (indices r 335 (le r 333 2)))) w in
      let few = test_laws.or-false (ltb (le r 317 4) (le r 333 2)) (ltb (length r) (335 + 4 * le r 333 2)) o.0 in
      rw (same_number 317 4 (omega arith) (omega arith), same_number 333 2 (omega arith) (omega arith), same-indices 335 (le r 333 2) (omega arith) (omega arith))
      (ap₂ ◌||◌ (ap₂ ◌||◌ few.0 (le-ltb (length made) (335 + 4 * le r 333 2) (omega (arith, made_long)))) o.1)

  -- so the extension decides
  region-judged : Passed (number_checks (head_of r)) → priority_wrong (le r 317 4) (le r 333 2) r ≡ false
      → verdict (region_checks made) ≡ verdict ((extension_wrong (le r 317 4 + le r 321 4) (le r 331 2) e, 21) ∷ [])
  region-judged p w =
      let l : 335 + 4 * le made 333 2 ≡ 4 + upto = omega (arith, same_number 333 2 (omega arith) (omega arith)) in
      let x : extension_of made ≡ e = ap (λ (k : ℕ). drop k made) l ∙ from_extension in
      ap (λ (cs : List Check). verdict (cs ++ list_checks (head_of made) made)) same_numbers
      ∙ good_then Err (number_checks (head_of r)) (list_checks (head_of made) made) (Ok tt) (all-passed (number_checks (head_of r)) p)
      ∙ rw (same_priority w, x, same_number 317 4 (omega arith) (omega arith), same_number 321 4 (omega arith) (omega arith), same_number 331 2 (omega arith) (omega arith)) refl

-- ---- the input with that region

start_passed : (p q l : Bool) (cs : List Check) → p ≡ false → q ≡ false → l ≡ false
    → verdict ((false, 10) ∷ (p, 11) ∷ (q, 12) ∷ (l, 13) ∷ (false, 10) ∷ cs) ≡ verdict cs
start_passed p q l cs ep eq el = λ i. verdict ((false, 10) ∷ (ep i, 11) ∷ (eq i, 12) ∷ (el i, 13) ∷ (false, 10) ∷ cs)

-- which checks a verdict of a header comes from
verdict_of_lem : (b : List ℕ) → verdict (header_checks b) ≡ header_verdict (read_header b)
unfolding read_header
verdict_of_lem b = tells header_verdict Err (Ok (head_of (region_of b))) (λ q. refl) refl (header_checks b) (header_verdict (read_header b)) refl

module _ (b : List ℕ) (good : header_verdict (read_header b) ≡ Ok tt) where
  tests : Passed (header_checks b)
  tests = passed (header_checks b) (verdict_of_lem b ∙ good)

  abbrev region : List ℕ
  region = region_of b

  of_region : Passed (region_checks region)
  of_region = front-passed (region_checks region) (trailer_checks region (trailer_of b)) tests.1.1.1.1.1

  numbers_right : Passed (number_checks (head_of region))
  numbers_right = front-passed (number_checks (head_of region)) (list_checks (head_of region) region) of_region

  priority_right : priority_wrong (le region 317 4) (le region 333 2) region ≡ false
  priority_right = of_region.1.1.1.1.1.1.0

  extension_right : extension_wrong (le region 317 4 + le region 321 4) (le region 331 2) (extension_of region) ≡ false
  extension_right = of_region.1.1.1.1.1.1.1.0

  lists_inside : 335 + 4 * le region 333 2 ≤ length region
  unfolding priority_wrong
  lists_inside =
      let o = test_laws.or-false _ (not (distinct_below (le region 317 4) (indices region 335 (le region 333 2)))) priority_right in
      ltb-false (length region) (335 + 4 * le region 333 2) (test_laws.or-false (ltb (le region 317 4) (le region 333 2)) _ o.0).1

  length_most : length_field b ≤ 65536
  unfolding length_wrong
  length_most = ltb-false 65536 (length_field b) (test_laws.or-false (ltb (length_field b) 331) (ltb 65536 (length_field b)) tests.1.1.1.0).1

  whole : length_field b + 76 ≤ length b
  whole = ltb-false (length b) (length_field b + 76) tests.1.1.1.1.0

  region_long : length region ≡ length_field b + 4
  region_long = part_laws.length_part b 8 (length_field b + 4) (omega (arith, whole))

  front_long : length (take 8 b) ≡ 8
  front_long = part_laws.length_part b 0 8 (omega (arith, whole))

  module _ (e between : List ℕ) (time : ℕ) (fits : length_with region e ≤ 65536) where
    abbrev front : List ℕ
    front = take 8 b ++ region_with region e

    abbrev end : List ℕ
    end = trailer_bytes (hash (region_with region e)) time

    front-region : drop 8 front ≡ region_with region e
    front-region = part_laws.next front (take 8 b) (region_with region e) 0 8 refl front_long

    front-field : length_field front ≡ length_with region e
    front-field =
        number_at front (part region 4 (331 + 4 * le region 333 2) ++ e) 8 4 (length_with region e) (front-region ∙ from_field region e lists_inside) (omega arith)

    region_is : region_of front ≡ region_with region e
    region_is =
        part_laws.piece front (region_with region e) [] 8 (length_field front + 4) (front-region ∙ sym (append-nil (region_with region e)))
        (made_long region e lists_inside ∙ omega (arith, front-field))

    -- the preamble is that of b
    same_text : (at : ℕ) (ys : List ℕ) → at + length ys ≤ 8 → stands_at front at ys ≡ stands_at b at ys
    same_text at ys h =
        stands_front (take 8 b) (region_with region e) at ys (omega (arith, front_long)) ∙ sym (stands_front (take 8 b) (drop 8 b) at ys (omega (arith, front_long)))
        ∙ ap (λ (l : List ℕ). stands_at l at ys) (take-append-drop 8 b)

    same_version : (at width : ℕ) → at + width ≤ 8 → le front at width ≡ le b at width
    same_version at width h =
        le-front (take 8 b) (region_with region e) at width (omega (arith, front_long)) ∙ sym (le-front (take 8 b) (drop 8 b) at width (omega (arith, front_long)))
        ∙ ap (λ (l : List ℕ). le l at width) (take-append-drop 8 b)

    length_right : length_wrong (length_field front) ≡ false
    unfolding length_wrong
    length_right = ap₂ ◌||◌ (le-ltb (length_field front) 331 (omega (arith, front-field))) (le-ltb 65536 (length_field front) (omega (arith, front-field)))

    by_extension : header_verdict (read_header (header_with b e between time))
        ≡ verdict ((extension_wrong (le region 317 4 + le region 321 4) (le region 331 2) e, 21) ∷ [])
    by_extension =
        let made : List ℕ = region_with region e in
        let a-long : length front ≡ length_field front + 12 = length-append (take 8 b) made ∙ omega (arith, front_long, made_long region e lists_inside, front-field) in
        sym (verdict_of_lem (header_with b e between time))
        ∙ ap (λ (cs : List Check). verdict cs) (only_seen front end a-long (length-trailer (hash made) time (hash_laws.length-hash made)) between)
        ∙ start_passed _ _ (length_wrong (length_field front)) (region_checks (region_of front) ++ trailer_checks (region_of front) end)
        (ap not (same_text 0 magic (omega arith)) ∙ tests.1.0)
        (ap₂ (λ (x y : ℕ). not (eqb x 0) || not (eqb y 1)) (same_version 4 2 (omega arith)) (same_version 6 2 (omega arith)) ∙ tests.1.1.0) length_right
        ∙ ap (λ (r : List ℕ). verdict (region_checks r ++ trailer_checks r end)) region_is
        ∙ last_passed (region_checks made) (trailer_checks made end) (trailer-passed made time)
        ∙ region-judged region e lists_inside numbers_right priority_right

-- ---- the fields of an accepted header

-- fields that are found in bytes can be stored
storable_found : (most : ℕ) (e : List ℕ) → Bytes e → AllStorable (fields_in most e)
unfolding fields_in
storable_found zero e b = tt
storable_found (suc most) e b = go (whole_field e) (storable_found most (drop (6 + le e 2 4) e) (λ i. rw (get_or-drop (6 + le e 2 4) e i 0) (b (6 + le e 2 4 + i))))
  where
    go : (w : Bool) → AllStorable (fields_in most (drop (6 + le e 2 4) e)) → AllStorable (cond w (field_at e ∷ fields_in most (drop (6 + le e 2 4) e)) [])
    go true s = (((little_laws 2).bound e b 0, omega (arith, part_laws.length_cut e 6 (le e 2 4), (little_laws 4).bound e b 2)), s)
    go false s = tt

storable_at : (fs : List Field) (i : ℕ) → AllStorable fs → i < length fs → Storable (field_no fs i)
storable_at [] i s h = absurd (omega arith)
storable_at (f ∷ fs) zero s h = s.0
storable_at (f ∷ fs) (suc i) s h = storable_at fs i s.1 (omega arith)

-- their length in all is the same in any order
same_long : {fs gs : List Field} → Permᴰ fs gs → length (joined_fields fs) ≡ length (joined_fields gs)
unfolding joined_fields
same_long Permᴰ.nil = refl
same_long (Permᴰ.cons {a = f} {l₁ = fs} {l₂ = gs} e d) =
    rw (← e) (length-stored f (joined_fields fs) ∙ omega (arith, same_long d) ∙ sym (length-stored f (joined_fields gs)))
same_long (Permᴰ.swap {a = f} {b = g} {l = fs} e k) =
    rw (← e, ← k) (length-stored f (field_bytes g ++ joined_fields fs) ∙ omega (arith, length-stored g (joined_fields fs), length-stored f (joined_fields fs))
    ∙ sym (length-stored g (field_bytes f ++ joined_fields fs)))
same_long (Permᴰ.trans d d') = same_long d ∙ same_long d'

module _ (b : List ℕ) (fs : List Field) (x : Accepted b fs) where
  abbrev extension : List ℕ
  extension = extension_of (region_of b)

  abbrev all_blocks : ℕ
  all_blocks = le (region_of b) 317 4 + le (region_of b) 321 4

  abbrev flags : ℕ
  flags = le (region_of b) 331 2

  extension_bytes : Bytes extension
  extension_bytes i =
      rw (get_or-drop (335 + 4 * le (region_of b) 333 2) (region_of b) i 0) (byte_laws.bytes_part b 8 (length_field b + 4) x.bytes (335 + 4 * le (region_of b) 333 2 + i))

  its_fields : joined_fields fs ≡ extension
  its_fields =
      ap (λ (gs : List Field). joined_fields gs) (sym x.fields) ∙ field_walk.joined_exactly all_blocks flags extension extension_bytes (extension_right b x.good)

  storable : AllStorable fs
  storable = rw x.fields at (storable_found (length extension) extension extension_bytes)

  fields_right : extension_wrong all_blocks flags (joined_fields fs) ≡ false
  fields_right = ap (λ (e : List ℕ). extension_wrong all_blocks flags e) its_fields ∙ extension_right b x.good

  fits : length_with (region_of b) (joined_fields fs) ≤ 65536
  fits =
      omega (
        arith,
        ap length its_fields,
        length-drop (335 + 4 * le (region_of b) 333 2) (region_of b),
        lists_inside b x.good,
        region_long b x.good,
        length_most b x.good,
      )

  -- fields with the same verdict are accepted
  accepted_as : (gs : List Field) (between : List ℕ) (time : ℕ) → length_with (region_of b) (joined_fields gs) ≤ 65536
      → extension_wrong all_blocks flags (joined_fields gs) ≡ extension_wrong all_blocks flags (joined_fields fs)
      → header_verdict (read_header (header_with b (joined_fields gs) between time)) ≡ Ok tt
  accepted_as gs between time h e =
      by_extension b x.good (joined_fields gs) between time h ∙ ap (λ (t : Bool). verdict ((t, 21) ∷ [])) (e ∙ fields_right)

  any_order : (gs : List Field) (between : List ℕ) (time : ℕ) → Permᴰ fs gs → header_verdict (read_header (header_with b (joined_fields gs) between time)) ≡ Ok tt
  any_order gs between time d = accepted_as gs between time (omega (arith, same_long d, fits)) (sym (order_free all_blocks flags fs gs d storable))

module _ (b between : List ℕ) (time : ℕ) (fs gs : List Field) where
  foreign_more : (f : Field) → Accepted b (fs ++ gs) → f.tag < 256 ^ 2 → is_known f.tag ≡ false → length f.value ≤ 16384
      → length_with (region_of b) (joined_fields (fs ++ (f ∷ gs))) ≤ 65536 → header_verdict (read_header (header_with b (joined_fields (fs ++ (f ∷ gs))) between time)) ≡ Ok tt
  foreign_more f x t k l h =
      accepted_as b (fs ++ gs) x (fs ++ (f ∷ gs)) between time h
      (foreign_added (all_blocks b (fs ++ gs) x) (flags b (fs ++ gs) x) fs gs f (storable b (fs ++ gs) x) (t, omega arith) k l)

  repeat_free : (i : ℕ) → Accepted b (fs ++ gs) → i < length (fs ++ gs) → is_known (field_no (fs ++ gs) i).tag ≡ false
      → length_with (region_of b) (joined_fields (fs ++ (field_no (fs ++ gs) i ∷ gs))) ≤ 65536
      → header_verdict (read_header (header_with b (joined_fields (fs ++ (field_no (fs ++ gs) i ∷ gs))) between time)) ≡ Ok tt
  repeat_free i x h k l =
      let t = (fields_taken.taken_exactly _ _ (extension_of (region_of b))).0 (extension_right b x.good) in
      let short : length (field_no (fs ++ gs) i).value ≤ 16384 = rw x.fields at (t.ruled i (rw x.fields h)).any_tag in
      foreign_more (field_no (fs ++ gs) i) x (storable_at (fs ++ gs) i (storable b (fs ++ gs) x) h).0 k short l

-- ---- tags that never fall

tagged : List Field → List ℕ
tagged fs = map (λ (f : Field). f.tag) fs

weakly_there : (least : ℕ) (fs : List Field) → rises_weakly least (tagged fs) ≡ true
    → ((i : ℕ) → i < length fs → least ≤ (field_no fs i).tag) × ((i j : ℕ) → i < j → j < length fs → (field_no fs i).tag ≤ (field_no fs j).tag)
unfolding rises_weakly tagged
weakly_there least [] w = (λ i h. absurd (omega arith), λ i j h k. absurd (omega arith))
weakly_there least (f ∷ fs) w =
    let t = test_laws.and_both (leb least f.tag) (rises_weakly f.tag (tagged fs)) w in
    let more = weakly_there f.tag fs t.1 in
    let first : least ≤ f.tag = leb-true least f.tag t.0 in
    (above first more.0, pairs more.0 more.1)
  where
    above : least ≤ f.tag → ((i : ℕ) → i < length fs → f.tag ≤ (field_no fs i).tag) → (i : ℕ) → i < suc (length fs) → least ≤ (field_no (f ∷ fs) i).tag
    above h m zero k = h
    above h m (suc i) k = omega (arith, m i (omega arith))

    pairs : ((i : ℕ) → i < length fs → f.tag ≤ (field_no fs i).tag) → ((i j : ℕ) → i < j → j < length fs → (field_no fs i).tag ≤ (field_no fs j).tag)
        → (i j : ℕ) → i < j → j < suc (length fs) → (field_no (f ∷ fs) i).tag ≤ (field_no (f ∷ fs) j).tag
    pairs m n i zero h k = absurd (omega arith)
    pairs m n zero (suc j) h k = m j (omega arith)
    pairs m n (suc i) (suc j) h k = n i j (omega arith) (omega arith)

weakly_back : (least : ℕ) (fs : List Field) → ((i : ℕ) → i < length fs → least ≤ (field_no fs i).tag)
    → ((i j : ℕ) → i < j → j < length fs → (field_no fs i).tag ≤ (field_no fs j).tag) → rises_weakly least (tagged fs) ≡ true
unfolding rises_weakly tagged
weakly_back least [] a h = refl
weakly_back least (f ∷ fs) a h =
    ap₂ ◌&&◌ (le-leb least f.tag (a 0 (omega arith)))
    (weakly_back f.tag fs (λ i k. h 0 (suc i) (omega arith) (omega arith)) (λ i j k l. h (suc i) (suc j) (omega arith) (omega arith)))

module _ (e : List ℕ) where
  never_falls : tags_fall e ≡ false → (i j : ℕ) → i < j → j < length (fields_of e) → (field_no (fields_of e) i).tag ≤ (field_no (fields_of e) j).tag
  unfolding tags_fall tagged
  never_falls w = (weakly_there 0 (fields_of e) (not-false _ w)).1

  falls_back : ((i j : ℕ) → i < j → j < length (fields_of e) → (field_no (fields_of e) i).tag ≤ (field_no (fields_of e) j).tag) → tags_fall e ≡ false
  unfolding tags_fall tagged
  falls_back h = ap not (weakly_back 0 (fields_of e) (λ i k. omega arith) h)

-- ---- a written file

module _ (w : Input) (u : length w.uuid ≡ 16) (right : input_wrong w ≡ false) where
  as_given : extension_of (region_of (file_of w)) ≡ w.fields
  unfolding file_of
  as_given =
      let r = right_input w u right in
      let h = head-back w u r.name_short r.fitting r.name_whole in
      ap (λ (l : List ℕ). extension_of l) (region-back w r.fitting.length_small (joined (chunk w) 0 (blocks w + w.m)))
      ∙ ap (λ (x : Head). drop (335 + 4 * x.priorities) (made-region w)) h ∙ fields_after w u r.name_short

  rising_written : (fs : List Field) → fs ≡ fields_of (extension_of (region_of (file_of w))) → (i j : ℕ) → i < j → j < length fs
      → ((field_no fs i).tag ≤ (field_no fs j).tag) × ((field_no fs i).tag ≡ (field_no fs j).tag → is_known (field_no fs i).tag ≡ false)
  rising_written fs e i j h k =
      let r = right_input w u right in
      let g : fs ≡ fields_of w.fields = e ∙ ap (λ (l : List ℕ). fields_of l) as_given in
      let t = (fields_taken.taken_exactly (blocks w + w.m) w.flags w.fields).0 r.fields_right in
      rw g (never_falls w.fields r.not_falling i j h (rw g at k), λ same. foreign (is_known (field_no (fields_of w.fields) i).tag) refl (t.once i j h (rw g at k)) same)
    where
      foreign : (b : Bool) → is_known (field_no (fields_of w.fields) i).tag ≡ b
          → (Known (field_no (fields_of w.fields) i).tag → (field_no (fields_of w.fields) i).tag ≢ (field_no (fields_of w.fields) j).tag)
          → (field_no (fields_of w.fields) i).tag ≡ (field_no (fields_of w.fields) j).tag → b ≡ false
      foreign true q n same = absurd (n ((fields_taken.known_exactly _).0 q) same)
      foreign false q n same = refl

pub header_fields : HeaderFields
header_fields = record {
  by_extension = λ b e between time good fits. by_extension b good e between time fits;
  any_order = λ b between time fs gs x d. any_order b fs x gs between time d;
  foreign_more = foreign_more;
  repeat_free = repeat_free;
  falls_exactly = λ e. (never_falls e, falls_back e);
  as_given = as_given;
  rising_written = rising_written;
}
