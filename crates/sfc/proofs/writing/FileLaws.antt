-- How long a written file is, and what the functions that lay down its region and the whole leave, one equation for each call. Assumes nothing.
use Prim.Native.Nat.{ℕ, ◌+◌, ◌-◌, ◌*◌, ◌<◌, ◌≤◌}
use mathlib.Core.Path.{◌≡◌, sym, ap, ap₂, ◌∙◌}
use mathlib.Core.Bool.{true, false}
use mathlib.Core.List.{List, ◌++◌, append_assoc}
use native.Mathlib.Nat.{mul-le-mul}
use native.Mathlib.Omega.{arith}
use borrow.Author.Tests.{lt-ltb, le-ltb}
use lib.ListN.{length, take, drop, length-append, length-replicate}
use Rattle.little.specs.Parts.{part, put}
use Rattle.little.specs.Fields.{bytes_of, put_le}
use Rattle.little.proofs.Laws.{part_laws, put_laws}
use Rattle.blake3.specs.Tree.{hash}
use Rattle.blake3.proofs.Laws.{hash_laws}
use Rattle.cauchy.specs.Code.{joined}
use Rattle.sfc.specs.format.Bytes.{padded}
use Rattle.sfc.specs.session.Lent.{shape_wrong}
use Rattle.sfc.specs.answer.Numbers.{Answered}
use Rattle.sfc.specs.writing.Writer.{Input, size, blocks, identity_bytes, shape_bytes, index_bytes, body, region, data_of, payload, chunk, preamble, trailer_bytes, trailer, file_of, input_wrong, write_file}
use Rattle.sfc.specs.session.Right.{RightShape}
use Rattle.sfc.specs.declared.answer.reason.Reason.TheVariants.{WriterInput, WriterOutput}
use Rattle.sfc.proofs.session.MarkLaws.{right_shape}
use Rattle.sfc.proofs.writing.FillLaws.{Front, front_start, front_length, front-end, front-le, front_lent, front_copy, front_is, front-first}
use Rattle.sfc.proofs.writing.LayoutLaws.{length-field, length-indices}
use Rattle.sfc.proofs.writing.LengthLaws.{length-chunk, length-joined, length-trailer, length-payload}
use Rattle.sfc.specs.inner.Writing.{code_chunk}
use Rattle.sfc.specs.declared.writing.parts.Plan.{Plan}
use Rattle.sfc.proofs.writing.RegionBack.{length-region, length-body}
use Rattle.sfc.proofs.writing.InputLaws.{RightInput, right_input}
use Rattle.sfc.specs.declared.answer.reason.Reason.{Reason}
use Rattle.std.specs.Prelude.{Result, Ok, Err}

regroup : (a b c d e : List ℕ) → a ++ b ++ c ++ d ++ e ≡ a ++ (b ++ c ++ d ++ e)
regroup a b c d e = simp append_assoc

-- the plan under which its chunks are made, for a count of data blocks
abbrev pub plan_of : Input → ℕ → Plan
plan_of w n = record { uuid = w.uuid; n = n; m = w.m; s = w.s }

-- ---- lengths

length_identity : (uuid name digest : List ℕ) (size format : ℕ) → length uuid ≡ 16 → length name ≤ 255 → length digest ≡ 32
    → length (identity_bytes uuid size format name digest) ≡ 313
unfolding identity_bytes
length_identity uuid name digest size format u n d = simp (length-append, length-field, length-replicate, u, d) (omega arith)

length_shape : (n m s flags p : ℕ) → length (shape_bytes n m s flags p) ≡ 18
unfolding shape_bytes
length_shape n m s flags p = simp (length-append, length-field)

module _ (w : Input) (u : length w.uuid ≡ 16) (ok : input_wrong w ≡ false) where
  r : RightInput w
  r = right_input w u ok

  shape : RightShape (size w) (blocks w) w.m w.s
  shape = right_shape (size w) (blocks w) w.m w.s r.shape

  pub length_written : (i : ℕ) → length (chunk w i) ≡ 84 + w.s
  unfolding chunk
  length_written i = length-chunk w.uuid (blocks w) w.m w.s i (payload w i) u ∙ ap (λ (k : ℕ). 84 + k) (length-payload w r.shape i)

  pub length-chunks : length (joined (chunk w) 0 (blocks w + w.m)) ≡ (blocks w + w.m) * (84 + w.s)
  length-chunks = length-joined (chunk w) 0 (blocks w + w.m) (84 + w.s) (λ i h. length_written (0 + i))

  -- a file has 76 bytes, its region's H, and 84 + S for each of its N + M chunks
  pub file_length : length (file_of w) ≡ 76 + length (body w) + (blocks w + w.m) * (84 + w.s)
  unfolding file_of trailer bytes_of
  file_length =
      length-append (preamble ++ region w ++ joined (chunk w) 0 (blocks w + w.m)) (trailer_bytes (hash (region w)) w.time)
      ∙ omega (
        arith,
        length-append (preamble ++ region w) (joined (chunk w) 0 (blocks w + w.m)),
        length-append preamble (region w),
        length-region w,
        length-chunks,
        length-trailer (hash (region w)) w.time (hash_laws.length-hash (region w)),
      )

  -- and in terms of what the caller gave
  pub body_long : length (body w) ≡ 331 + 4 * length w.priority + length w.fields
  body_long = length-body w u r.name_short

  -- ---- the region

  module _ (d : List ℕ) (hd : length d ≡ length (region w)) where
    pub region_long : length d ≡ 335 + 4 * length w.priority + length w.fields
    region_long = hd ∙ length-region w ∙ omega (arith, body_long)

    pub region_small : (length d < 65541) × (length w.priority ≤ 1024) × (length w.name ≤ 255)
    region_small = (omega (arith, hd, length-region w, r.body_short), omega (arith, r.priority_few, shape.n_most), r.name_short)

    module _ (d₁ : List ℕ) (h : ℕ) (eh : h ≡ length d - 4) (e₁ : d₁ ≡ put_le d 0 4 h) where
      front₁ : Front d (bytes_of 4 h) 4 d₁
      front₁ = front-le (front_start d) 4 h (omega (arith, region_long)) e₁

      pub region₁ : length d₁ ≡ length d
      region₁ = front_length front₁

      pub identity_lent : length (part d₁ 4 313) ≡ 313
      identity_lent = part_laws.length_part d₁ 4 313 (omega (arith, region₁, region_long))

      module _ (digest y₂ d₂ : List ℕ) (ed : digest ≡ hash w.content) (ey : y₂ ≡ identity_bytes w.uuid (size w) w.format w.name digest)
          (e₂ : d₂ ≡ take 4 d₁ ++ (y₂ ++ drop 313 (drop 4 d₁))) where
        front₂ : Front d (bytes_of 4 h ++ identity_bytes w.uuid (size w) w.format w.name (hash w.content)) 317 d₂
        front₂ =
            let g : y₂ ≡ identity_bytes w.uuid (size w) w.format w.name (hash w.content) = ey ∙ ap (identity_bytes w.uuid (size w) w.format w.name) ed in
            front_is (front_lent front₁ y₂ 313 (ap length g ∙ length_identity w.uuid w.name (hash w.content) (size w) w.format u r.name_short (hash_laws.length-hash w.content))
            (omega (arith, region_long))) (ap (λ (x : List ℕ). bytes_of 4 h ++ x) g) (sym e₂)

        pub region₂ : length d₂ ≡ length d
        region₂ = front_length front₂

        module _ (n : ℕ) (en : n ≡ blocks w) (y₃ d₃ : List ℕ) (ey₃ : y₃ ≡ shape_bytes n w.m w.s w.flags (length w.priority))
            (e₃ : d₃ ≡ take 317 d₂ ++ (y₃ ++ drop 18 (drop 317 d₂))) where
          front₃ : Front d (bytes_of 4 h ++ identity_bytes w.uuid (size w) w.format w.name (hash w.content)
              ++ shape_bytes (blocks w) w.m w.s w.flags (length w.priority)) 335 d₃
          front₃ =
              let g : y₃ ≡ shape_bytes (blocks w) w.m w.s w.flags (length w.priority) =
              ey₃ ∙ ap (λ (k : ℕ). shape_bytes k w.m w.s w.flags (length w.priority)) en in
              front_is (front_lent front₂ y₃ 18 (ap length g ∙ length_shape (blocks w) w.m w.s w.flags (length w.priority)) (omega (arith, region_long)))
              (ap (λ (x : List ℕ). bytes_of 4 h ++ identity_bytes w.uuid (size w) w.format w.name (hash w.content) ++ x) g) (sym e₃)

          pub region₃ : length d₃ ≡ length d
          region₃ = front_length front₃

          module _ (end k : ℕ) (ee : end ≡ 335 + 4 * length w.priority) (ek : k ≡ end - 335) (y₄ d₄ : List ℕ) (ey₄ : y₄ ≡ index_bytes w.priority)
              (e₄ : d₄ ≡ take 335 d₃ ++ (y₄ ++ drop k (drop 335 d₃))) where
            front₄ : Front d (bytes_of 4 h ++ identity_bytes w.uuid (size w) w.format w.name (hash w.content)
                ++ shape_bytes (blocks w) w.m w.s w.flags (length w.priority) ++ index_bytes w.priority) end d₄
            front₄ =
                let j : k ≡ 4 * length w.priority = omega arith in
                let q : 335 + k ≡ end = omega arith in
                front_is (rw q at (front_lent front₃ y₄ k (ap length ey₄ ∙ length-indices w.priority ∙ sym j) (omega (arith, region_long))))
                (ap (λ (x : List ℕ). bytes_of 4 h ++ identity_bytes w.uuid (size w) w.format w.name (hash w.content)
                ++ shape_bytes (blocks w) w.m w.s w.flags (length w.priority) ++ x) ey₄) (sym e₄)

            pub region₄ : length d₄ ≡ length d
            region₄ = front_length front₄

            pub fields_lent : (j : ℕ) → j ≡ length d₄ - end → length (part d₄ end j) ≡ length w.fields
            fields_lent j ej = omega (arith, part_laws.length_part d₄ end j (omega (arith, region₄, region_long)), region₄, region_long)

            pub region-made : (y₅ : List ℕ) (j : ℕ) → j ≡ length d₄ - end → y₅ ≡ w.fields
                → take end d₄ ++ (y₅ ++ drop j (drop end d₄)) ≡ region w
            unfolding region body
            region-made y₅ j ej ey₅ =
                let l : length w.fields ≡ j = omega (arith, region₄, region_long) in
                let eq : h ≡ length (body w) = omega (arith, region_long, body_long) in
                front-end (front_copy front₄ w.fields y₅ j l (omega (arith, region₄, region_long)) ey₅) (omega (arith, region₄, region_long))
                ∙ regroup (bytes_of 4 h) (identity_bytes w.uuid (size w) w.format w.name (hash w.content))
                (shape_bytes (blocks w) w.m w.s w.flags (length w.priority)) (index_bytes w.priority) w.fields
                ∙ ap (λ (k : ℕ). bytes_of 4 k ++ (identity_bytes w.uuid (size w) w.format w.name (hash w.content)
                ++ shape_bytes (blocks w) w.m w.s w.flags (length w.priority) ++ index_bytes w.priority ++ w.fields)) eq

  -- ---- the whole

  module _ (out : List ℕ) (ho : length out ≡ length (file_of w)) (start : ℕ) (es : start ≡ 343 + 4 * length w.priority + length w.fields) where
    pub file_room : length out ≡ start + (blocks w + w.m) * (84 + w.s) + 64
    file_room = ho ∙ file_length ∙ omega (arith, body_long)

    pub region-there : start ≡ 8 + length (region w)
    region-there = omega (arith, body_long, length-region w)

    module _ (y₁ o₁ : List ℕ) (ey₁ : y₁ ≡ preamble) (e₁ : o₁ ≡ take 0 out ++ (y₁ ++ drop 8 (drop 0 out))) where
      file₁ : Front out preamble 8 o₁
      unfolding bytes_of
      file₁ = front_is (front-first out y₁ 8 (ap length ey₁) (omega (arith, file_room))) ey₁ (sym e₁)

      pub long₁ : length o₁ ≡ length out
      long₁ = front_length file₁

      pub region_lent : (k : ℕ) → k ≡ start - 8 → length (part o₁ 8 k) ≡ length (region w)
      region_lent k ek = part_laws.length_part o₁ 8 k (omega (arith, long₁, file_room, region-there)) ∙ omega (arith, region-there)

      module _ (k : ℕ) (ek : k ≡ start - 8) (y₂ o₂ : List ℕ) (ey₂ : y₂ ≡ region w) (e₂ : o₂ ≡ take 8 o₁ ++ (y₂ ++ drop k (drop 8 o₁))) where
        file₂ : Front out (preamble ++ region w) start o₂
        file₂ =
            let q : 8 + k ≡ start = omega (arith, region-there) in
            front_is (rw q at (front_lent file₁ y₂ k (ap length ey₂ ∙ omega (arith, region-there)) (omega (arith, file_room, region-there))))
            (ap (λ (x : List ℕ). preamble ++ x) ey₂) (sym e₂)

        pub long₂ : length o₂ ≡ length out
        long₂ = front_length file₂

        -- the region is read where it was put
        pub region_read : part o₂ 8 k ≡ region w
        region_read =
            let l : k ≡ length y₂ = omega (arith, region-there, ap length ey₂) in
            let c : o₂ ≡ put o₁ 8 y₂ = e₂ ∙ put_laws.lent o₁ y₂ 8 k (sym l) in
            ap₂ (λ (x : List ℕ) (j : ℕ). part x 8 j) c l ∙ put_laws.part-put o₁ 8 y₂ (omega (arith, long₁, file_room, region-there)) ∙ ey₂

        pub chunks_lent : (n end j : ℕ) → n ≡ blocks w → end ≡ length out - 64 → j ≡ end - start → length (part o₂ start j) ≡ (n + w.m) * (84 + w.s)
        chunks_lent n end j en ee ej =
            part_laws.length_part o₂ start j (omega (arith, long₂, file_room)) ∙ omega (arith, file_room, ap (λ (k : ℕ). (k + w.m) * (84 + w.s)) en)

        module _ (n end j : ℕ) (en : n ≡ blocks w) (ee : end ≡ length out - 64) (ej : j ≡ end - start) (y₃ o₃ : List ℕ)
            (ey₃ : y₃ ≡ joined (code_chunk (plan_of w n) (padded (n * w.s) w.content)) 0 (n + w.m))
            (e₃ : o₃ ≡ take start o₂ ++ (y₃ ++ drop j (drop start o₂))) where
          are_chunks : y₃ ≡ joined (chunk w) 0 (blocks w + w.m)
          unfolding chunk payload data_of
          are_chunks = ey₃ ∙ ap (λ (k : ℕ). joined (code_chunk (plan_of w k) (padded (k * w.s) w.content)) 0 (k + w.m)) en

          file₃ : Front out (preamble ++ region w ++ joined (chunk w) 0 (blocks w + w.m)) end o₃
          file₃ =
              let q : start + j ≡ end = omega (arith, file_room) in
              front_is (rw q at (front_lent file₂ y₃ j (ap length are_chunks ∙ length-chunks ∙ omega (arith, file_room)) (omega (arith, file_room))))
              (ap (λ (x : List ℕ). preamble ++ region w ++ x) are_chunks) (sym e₃)

          pub long₃ : length o₃ ≡ length out
          long₃ = front_length file₃

          pub trailer_lent : (i : ℕ) → i ≡ length o₃ - end → length (part o₃ end i) ≡ 64
          trailer_lent i ei = part_laws.length_part o₃ end i (omega (arith, long₃, file_room)) ∙ omega (arith, long₃, file_room)

          pub file_made : (digest y₄ : List ℕ) (i : ℕ) → i ≡ length o₃ - end → digest ≡ hash (part o₂ 8 k) → y₄ ≡ trailer_bytes digest w.time
              → take end o₃ ++ (y₄ ++ drop i (drop end o₃)) ≡ file_of w
          unfolding file_of trailer
          file_made digest y₄ i ei ed ey₄ =
              let c : y₄ ≡ trailer_bytes (hash (region w)) w.time = ey₄ ∙ ap (λ (x : List ℕ). trailer_bytes x w.time) (ed ∙ ap hash region_read) in
              let l : length y₄ ≡ i = ap length c ∙ length-trailer (hash (region w)) w.time (hash_laws.length-hash (region w)) ∙ omega (arith, long₃, file_room) in
              front-end (front_lent file₃ y₄ i l (omega (arith, long₃, file_room))) (omega (arith, long₃, file_room))
              ∙ ap (λ (x : List ℕ). preamble ++ region w ++ joined (chunk w) 0 (blocks w + w.m) ++ x) c

-- ---- the answers of the call

module _ (w : Input) (out : List ℕ) where
  pub write_wrong : input_wrong w ≡ true → ◌≡◌ {A = Answered (Result ℕ Reason)} (record { answer = Err WriterInput; output = out }) (write_file w out)
  unfolding write_file
  write_wrong e = rw e

  module _ (u : length w.uuid ≡ 16) (ok : input_wrong w ≡ false) (n count : ℕ) (en : n ≡ blocks w)
      (ec : count ≡ 407 + 4 * length w.priority + length w.fields + (n + w.m) * (84 + w.s)) where
    pub count_is : count ≡ length (file_of w)
    count_is = ec ∙ omega (arith, file_length w u ok, body_long w u ok, ap (λ (k : ℕ). (k + w.m) * (84 + w.s)) en)

    pub write_short : length out < count → ◌≡◌ {A = Answered (Result ℕ Reason)} (record { answer = Err WriterOutput; output = out }) (write_file w out)
    unfolding write_file
    write_short h = rw (ok, lt-ltb (length out) (length (file_of w)) (omega (arith, count_is)))

    pub write_good : count ≤ length out → (y : List ℕ) → y ≡ file_of w
        → ◌≡◌ {A = Answered (Result ℕ Reason)} (record { answer = Ok count; output = y ++ drop count out }) (write_file w out)
    unfolding write_file
    write_good h y ey = rw (ok, le-ltb (length out) (length (file_of w)) (omega (arith, count_is)), ey, count_is)

-- what bounds the sums of the call
pub count_small : (w : Input) → length w.uuid ≡ 16 → input_wrong w ≡ false → (n : ℕ) → n ≡ blocks w
    → (n ≤ 1024) × (w.m ≤ 32) × ((n + w.m) * (84 + w.s) ≤ 4414080) × (4 * length w.priority + length w.fields ≤ 65536)
count_small w u ok n en =
    let g = shape w u ok in
    let k : n ≤ 1024 = omega (arith, g.n_most) in (
      k,
      g.m_most,
      mul-le-mul {n₁ = n + w.m} {m₁ = 84 + w.s} {n₂ = 1056} {m₂ = 4180} (omega (arith, g.m_most)) (omega (arith, g.s_most)),
      omega (arith, body_long w u ok, (r w u ok).body_short),
    )

pub shape_given : (w : Input) → length w.uuid ≡ 16 → input_wrong w ≡ false → (n : ℕ) → n ≡ blocks w → shape_wrong (size w) n w.m w.s ≡ false
shape_given w u ok n en = ap (λ (k : ℕ). shape_wrong (size w) k w.m w.s) en ∙ (r w u ok).shape
