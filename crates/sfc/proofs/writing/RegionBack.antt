-- The header region that the writer makes says what the caller gave, and which tests 13 to 21 come to on it. Assumes nothing.
use Prim.Native.Nat.{ℕ, zero, suc, ◌+◌, ◌-◌, ◌*◌, ◌^◌, ◌<◌, ◌≤◌}
use mathlib.Core.Path.{◌≡◌, refl, ap, ap₂, ◌∙◌}
use mathlib.Core.Bool.{false}
use mathlib.Core.List.{List, [], ◌∷◌, ◌++◌, append_assoc}
use native.Mathlib.Omega.{arith}
use borrow.Author.Tests.{leb-false, lt-leb}
use lib.Dec.{eqb}
use lib.ListN.{length, drop, length-append, length-replicate}
use Rattle.little.specs.Parts.{part}
use Rattle.little.specs.Fields.{bytes_of}
use Rattle.little.proofs.Laws.{little_laws, test_laws, part_laws}
use Rattle.blake3.specs.Tree.{hash}
use Rattle.blake3.proofs.Laws.{hash_laws}
use Rattle.sfc.specs.format.Bytes.{padded, before_zero}
use Rattle.little.specs.Runs.{any, zeros}
use Rattle.sfc.specs.format.Header.{head_of, indices}
use Rattle.sfc.specs.writing.Writer.{Input, size, blocks, erasure_for, compression, identity_bytes, shape_bytes, index_bytes, body, region, outgrows, outgrown, head_for}
use Rattle.sfc.proofs.format.PlaceLaws.{number_at}
use Rattle.sfc.proofs.writing.LayoutLaws.{length-field, length-padded, length-indices}

-- ---- a list of indices

indices-back : (r list b : List ℕ) (at : ℕ) → drop at r ≡ index_bytes list ++ b → any (outgrows 4) list ≡ false → indices r at (length list) ≡ list
unfolding indices index_bytes any
indices-back r [] b at e h = refl
indices-back r (x ∷ xs) b at e h =
    let o = test_laws.or-false (outgrows 4 x) (any (outgrows 4) xs) h in
    let f : drop at r ≡ bytes_of 4 x ++ (index_bytes xs ++ b) = e ∙ append_assoc (bytes_of 4 x) (index_bytes xs) b in
    ap₂ ◌∷◌ (number_at r (index_bytes xs ++ b) at 4 x f (leb-false (256 ^ 4) x o.0))
    (indices-back r xs b (at + 4) (part_laws.next r (bytes_of 4 x) (index_bytes xs ++ b) at 4 f ((little_laws 4).long x)) o.1)

-- ---- a name with no zero byte

before-zeros : (n : ℕ) → before_zero (zeros n) ≡ []
unfolding before_zero
before-zeros zero = refl
before-zeros (suc n) = refl

before_name : (b : List ℕ) (n : ℕ) → any (eqb 0) b ≡ false → before_zero (b ++ zeros n) ≡ b
unfolding before_zero any
before_name [] n e = before-zeros n
before_name (zero ∷ b) n e = absurd (let z : ◌≡◌ {A = ℕ} 0 1 = cc in omega arith)
before_name (suc x ∷ b) n e = ap (λ (l : List ℕ). suc x ∷ l) (before_name b n (test_laws.or-false (eqb 0 (suc x)) (any (eqb 0) b) e).1)

-- ---- what fits its field

pub record Small (w : Input) : Type 0 where
  pub length_small : length (body w) < 256 ^ 4
  pub size_small : size w < 256 ^ 8
  pub format_small : w.format < 256 ^ 2
  pub blocks_small : blocks w < 256 ^ 4
  pub m_small : w.m < 256 ^ 4
  pub s_small : w.s < 256 ^ 4
  pub flags_small : w.flags < 256 ^ 2
  pub priority_small : length w.priority < 256 ^ 2
  pub indices_small : any (outgrows 4) w.priority ≡ false
  pub time_small : w.time < 256 ^ 8

pub small : (w : Input) → outgrown w ≡ false → Small w
unfolding outgrown
small w e =
    let e₉ = test_laws.or-false _ (outgrows 8 w.time) e in
    let e₈ = test_laws.or-false _ (any (outgrows 4) w.priority) e₉.0 in
    let e₇ = test_laws.or-false _ (outgrows 2 (length w.priority)) e₈.0 in
    let e₆ = test_laws.or-false _ (outgrows 2 w.flags) e₇.0 in
    let e₅ = test_laws.or-false _ (outgrows 4 w.s) e₆.0 in
    let e₄ = test_laws.or-false _ (outgrows 4 w.m) e₅.0 in
    let e₃ = test_laws.or-false _ (outgrows 4 (blocks w)) e₄.0 in
    let e₂ = test_laws.or-false _ (outgrows 2 w.format) e₃.0 in
    let e₁ = test_laws.or-false (outgrows 4 (length (body w))) (outgrows 8 (size w)) e₂.0 in
    record {
      length_small = leb-false _ _ e₁.0;
      size_small = leb-false _ _ e₁.1;
      format_small = leb-false _ _ e₂.1;
      blocks_small = leb-false _ _ e₃.1;
      m_small = leb-false _ _ e₄.1;
      s_small = leb-false _ _ e₅.1;
      flags_small = leb-false _ _ e₆.1;
      priority_small = leb-false _ _ e₇.1;
      indices_small = e₈.1;
      time_small = leb-false _ _ e₉.1;
    }

pub not-outgrown : (w : Input) → Small w → outgrown w ≡ false
unfolding outgrown
not-outgrown w s =
    rw (
      lt-leb (256 ^ 4) (length (body w)) s.length_small,
      lt-leb (256 ^ 8) (size w) s.size_small,
      lt-leb (256 ^ 2) w.format s.format_small,
      lt-leb (256 ^ 4) (blocks w) s.blocks_small,
      lt-leb (256 ^ 4) w.m s.m_small,
      lt-leb (256 ^ 4) w.s s.s_small,
      lt-leb (256 ^ 2) w.flags s.flags_small,
      lt-leb (256 ^ 2) (length w.priority) s.priority_small,
      s.indices_small,
      lt-leb (256 ^ 8) w.time s.time_small,
    )

-- ---- the region, piece by piece

module _ (w : Input) where
  -- the rest of the region from a place on
  abbrev r₃₃₅ : List ℕ
  r₃₃₅ = index_bytes w.priority ++ w.fields

  abbrev r₃₃₃ : List ℕ
  r₃₃₃ = bytes_of 2 (length w.priority) ++ r₃₃₅

  abbrev r₃₃₁ : List ℕ
  r₃₃₁ = bytes_of 2 w.flags ++ r₃₃₃

  abbrev r₃₂₉ : List ℕ
  r₃₂₉ = (erasure_for w.m ∷ compression ∷ []) ++ r₃₃₁

  abbrev r₃₂₅ : List ℕ
  r₃₂₅ = bytes_of 4 w.s ++ r₃₂₉

  abbrev r₃₂₁ : List ℕ
  r₃₂₁ = bytes_of 4 w.m ++ r₃₂₅

  abbrev r₃₁₇ : List ℕ
  r₃₁₇ = bytes_of 4 (blocks w) ++ r₃₂₁

  abbrev r₂₈₅ : List ℕ
  r₂₈₅ = hash w.content ++ r₃₁₇

  abbrev r₃₀ : List ℕ
  r₃₀ = padded 255 w.name ++ r₂₈₅

  abbrev r₂₈ : List ℕ
  r₂₈ = bytes_of 2 w.format ++ r₃₀

  abbrev r₂₀ : List ℕ
  r₂₀ = bytes_of 8 (size w) ++ r₂₈

  abbrev r₄ : List ℕ
  r₄ = w.uuid ++ r₂₀

  abbrev r₀ : List ℕ
  r₀ = bytes_of 4 (length (body w)) ++ r₄

  region_parts : region w ≡ r₀
  unfolding region body identity_bytes shape_bytes
  region_parts = simp append_assoc

  pub length-region : length (region w) ≡ 4 + length (body w)
  unfolding region
  length-region = length-append (bytes_of 4 (length (body w))) (body w) ∙ ap (λ (k : ℕ). k + length (body w)) ((little_laws 4).long (length (body w)))

  module _ (u : length w.uuid ≡ 16) (short : length w.name ≤ 255) where
    pub length-body : length (body w) ≡ 331 + 4 * length w.priority + length w.fields
    unfolding body identity_bytes shape_bytes
    length-body =
        let d : length (hash w.content) ≡ 32 = hash_laws.length-hash w.content in
        simp (length-append, length-field, d, length-indices, length-replicate, u) (omega arith)

    name_long : length (padded 255 w.name) ≡ 255
    name_long = length-padded 255 w.name short

    at₄ : drop 4 (region w) ≡ r₄
    at₄ = part_laws.next (region w) (bytes_of 4 (length (body w))) r₄ 0 4 region_parts ((little_laws 4).long (length (body w)))

    at₂₀ : drop 20 (region w) ≡ r₂₀
    at₂₀ = part_laws.next (region w) w.uuid r₂₀ 4 16 at₄ (u)

    at₂₈ : drop 28 (region w) ≡ r₂₈
    at₂₈ = part_laws.next (region w) (bytes_of 8 (size w)) r₂₈ 20 8 at₂₀ ((little_laws 8).long (size w))

    at₃₀ : drop 30 (region w) ≡ r₃₀
    at₃₀ = part_laws.next (region w) (bytes_of 2 w.format) r₃₀ 28 2 at₂₈ ((little_laws 2).long w.format)

    at₂₈₅ : drop 285 (region w) ≡ r₂₈₅
    at₂₈₅ = part_laws.next (region w) (padded 255 w.name) r₂₈₅ 30 255 at₃₀ (name_long)

    at₃₁₇ : drop 317 (region w) ≡ r₃₁₇
    at₃₁₇ = part_laws.next (region w) (hash w.content) r₃₁₇ 285 32 at₂₈₅ (hash_laws.length-hash w.content)

    at₃₂₁ : drop 321 (region w) ≡ r₃₂₁
    at₃₂₁ = part_laws.next (region w) (bytes_of 4 (blocks w)) r₃₂₁ 317 4 at₃₁₇ ((little_laws 4).long (blocks w))

    at₃₂₅ : drop 325 (region w) ≡ r₃₂₅
    at₃₂₅ = part_laws.next (region w) (bytes_of 4 w.m) r₃₂₅ 321 4 at₃₂₁ ((little_laws 4).long w.m)

    at₃₂₉ : drop 329 (region w) ≡ r₃₂₉
    at₃₂₉ = part_laws.next (region w) (bytes_of 4 w.s) r₃₂₉ 325 4 at₃₂₅ ((little_laws 4).long w.s)

    at₃₃₁ : drop 331 (region w) ≡ r₃₃₁
    at₃₃₁ = part_laws.next (region w) ((erasure_for w.m ∷ compression ∷ [])) r₃₃₁ 329 2 at₃₂₉ (refl)

    at₃₃₃ : drop 333 (region w) ≡ r₃₃₃
    at₃₃₃ = part_laws.next (region w) (bytes_of 2 w.flags) r₃₃₃ 331 2 at₃₃₁ ((little_laws 2).long w.flags)

    at₃₃₅ : drop 335 (region w) ≡ r₃₃₅
    at₃₃₅ = part_laws.next (region w) (bytes_of 2 (length w.priority)) r₃₃₅ 333 2 at₃₃₃ ((little_laws 2).long (length w.priority))

    -- the fields after the priority list
    pub fields_after : drop (335 + 4 * length w.priority) (region w) ≡ w.fields
    fields_after = part_laws.next (region w) (index_bytes w.priority) w.fields 335 (4 * length w.priority) at₃₃₅ (length-indices w.priority)

    module _ (s : Small w) where
      pub priority_back : indices (region w) 335 (length w.priority) ≡ w.priority
      priority_back = indices-back (region w) w.priority w.fields 335 at₃₃₅ s.indices_small

      module _ (whole : any (eqb 0) w.name ≡ false) where
        name_back : before_zero (part (region w) 30 255) ≡ w.name
        name_back = ap before_zero (part_laws.piece (region w) (padded 255 w.name) r₂₈₅ 30 255 at₃₀ name_long) ∙ before_name w.name (255 - length w.name) whole

        -- the region's fields are what the caller gave
        pub head-back : head_of (region w) ≡ head_for w
        head-back = λ i. record {
          header_length = number_at (region w) r₄ 0 4 (length (body w)) region_parts s.length_small i;
          uuid = part_laws.piece (region w) w.uuid r₂₀ 4 16 at₄ u i;
          size = number_at (region w) r₂₈ 20 8 (size w) at₂₀ s.size_small i;
          format = number_at (region w) r₃₀ 28 2 w.format at₂₈ s.format_small i;
          name = padded 255 (name_back i);
          name_length = length (name_back i);
          hash = part_laws.piece (region w) (hash w.content) r₃₁₇ 285 32 at₂₈₅ (hash_laws.length-hash w.content) i;
          n = number_at (region w) r₃₂₁ 317 4 (blocks w) at₃₁₇ s.blocks_small i;
          m = number_at (region w) r₃₂₅ 321 4 w.m at₃₂₁ s.m_small i;
          s = number_at (region w) r₃₂₉ 325 4 w.s at₃₂₅ s.s_small i;
          erasure = part_laws.byte_after (region w) r₃₂₉ 329 0 (erasure_for w.m) at₃₂₉ refl i;
          compression = part_laws.byte_after (region w) r₃₂₉ 329 1 compression at₃₂₉ refl i;
          flags = number_at (region w) r₃₃₃ 331 2 w.flags at₃₃₁ s.flags_small i;
          priorities = number_at (region w) r₃₃₅ 333 2 (length w.priority) at₃₃₃ s.priority_small i;
        }
