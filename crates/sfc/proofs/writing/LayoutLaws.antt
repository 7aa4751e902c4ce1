-- What the functions that lay down the parts of a file leave, one equation for each call. Assumes nothing.
use Prim.Native.Nat.{ℕ, ◌+◌, ◌-◌, ◌*◌, ◌<◌, ◌≤◌}
use mathlib.Core.Path.{◌≡◌, refl, sym, ap, ◌∙◌}
use mathlib.Core.List.{List, [], ◌∷◌, ◌++◌, append_assoc, append-nil}
use native.Mathlib.Omega.{arith}
use native.Mathlib.Numerals.{add-one}
use lib.ListN.{length, get_or, take, drop, length-append, length-replicate}
use lib.Seq.{take-suc, take_all}
use Rattle.little.specs.Parts.{part}
use Rattle.little.specs.Fields.{bytes_of, put_le}
use Rattle.little.proofs.Laws.{part_laws, little_laws}
use Rattle.blake3.specs.Tree.{hash}
use Rattle.sfc.specs.format.Bytes.{padded}
use Rattle.little.specs.Runs.{zeros}
use Rattle.sfc.specs.format.Header.{magic, trailer_magic}
use Rattle.sfc.specs.format.Chunk.{chunk_magic, end_marker, type_for}
use Rattle.sfc.specs.writing.Writer.{erasure_for, identity_bytes, shape_bytes, index_bytes, preamble, trailer_bytes, chunk_header, sealed, chunk_bytes}
use Rattle.sfc.proofs.writing.FillLaws.{Front, front_start, front_length, front-end, front-le, front_lent, front_copy, front_is, front-taken, front-take}

-- ---- padding

pub length-padded : (width : ℕ) (b : List ℕ) → length b ≤ width → length (padded width b) ≡ width
length-padded width b h = simp (length-append, length-replicate) (omega arith)

-- ---- the preamble and the header region

pub preamble-made : (d y d₂ d₃ : List ℕ) → length d ≡ 8 → y ≡ magic
    → d₂ ≡ put_le (take 0 d ++ (y ++ drop 4 (drop 0 d))) 4 2 0 → d₃ ≡ put_le d₂ 6 2 1 → d₃ ≡ preamble
preamble-made d y d₂ d₃ h ey e₂ e₃ =
    front-end
    (front-le (front-le (front_copy (front_start d) magic y 4 refl (omega arith) ey)
    2 0 (omega arith) e₂)
    2 1 (omega arith) e₃)
    (sym h)

pub identity_made : (uuid name digest d y d₂ d₃ p z : List ℕ) (size format : ℕ) → length d ≡ 313 → length uuid ≡ 16 → length digest ≡ 32 → length name ≤ 255
    → y ≡ uuid
    → d₂ ≡ put_le (take 0 d ++ (y ++ drop 16 (drop 0 d))) 16 8 size
    → d₃ ≡ put_le d₂ 24 2 format
    → p ≡ padded (length (part d₃ 26 255)) name
    → z ≡ digest
    → take 281 (take 26 d₃ ++ (p ++ drop 255 (drop 26 d₃))) ++ (z ++ drop 32 (drop 281 (take 26 d₃ ++ (p ++ drop 255 (drop 26 d₃)))))
    ≡ identity_bytes uuid size format name digest
unfolding identity_bytes
identity_made uuid name digest d y d₂ d₃ p z size format h u g n ey e₂ e₃ ep ez =
    let f₁ = front_copy (front_start d) uuid y 16 u (omega arith) ey in
    let f₂ = front-le f₁ 8 size (omega arith) e₂ in
    let f₃ = front-le f₂ 2 format (omega arith) e₃ in
    let l : length (part d₃ 26 255) ≡ 255 = part_laws.length_part d₃ 26 255 (omega (arith, front_length f₃)) in
    let q : p ≡ padded 255 name = ep ∙ ap (λ (k : ℕ). padded k name) l in
    let f₄ = front_lent f₃ p 255 (ap length q ∙ length-padded 255 name n) (omega arith) in
    let f₅ = front_copy f₄ digest z 32 g (omega arith) ez in
    front-end f₅ (sym h) ∙ ap (λ (x : List ℕ). uuid ++ bytes_of 8 size ++ bytes_of 2 format ++ x ++ digest) q

pub shape_made : (d d₁ d₂ d₃ y d₄ d₅ : List ℕ) (n m s e flags p : ℕ) → length d ≡ 18
    → d₁ ≡ put_le d 0 4 n → d₂ ≡ put_le d₁ 4 4 m → d₃ ≡ put_le d₂ 8 4 s → e ≡ erasure_for m
    → y ≡ e ∷ 0 ∷ []
    → d₄ ≡ put_le (take 12 d₃ ++ (y ++ drop 2 (drop 12 d₃))) 14 2 flags → d₅ ≡ put_le d₄ 16 2 p → d₅ ≡ shape_bytes n m s flags p
unfolding shape_bytes
shape_made d d₁ d₂ d₃ y d₄ d₅ n m s e flags p h e₁ e₂ e₃ ee ey e₄ e₅ =
    let f = front-le (front-le (front-le (front_start d) 4 n (omega arith) e₁) 4 m (omega arith) e₂) 4 s (omega arith) e₃ in
    let g = front_copy f (e ∷ 0 ∷ []) y 2 refl (omega arith) ey in
    front-end (front-le (front-le g 2 flags (omega arith) e₄) 2 p (omega arith) e₅) (sym h)
    ∙ ap (λ (x : ℕ). bytes_of 4 n ++ bytes_of 4 m ++ bytes_of 4 s ++ (x ∷ 0 ∷ []) ++ bytes_of 2 flags ++ bytes_of 2 p) ee

index_append : (xs : List ℕ) (x : ℕ) → index_bytes (xs ++ (x ∷ [])) ≡ index_bytes xs ++ bytes_of 4 x
unfolding index_bytes
index_append [] x = append-nil (bytes_of 4 x)
index_append (y ∷ xs) x = ap (λ (l : List ℕ). bytes_of 4 y ++ l) (index_append xs x) ∙ sym (append_assoc (bytes_of 4 y) (index_bytes xs) (bytes_of 4 x))

-- a number has as many bytes as its field, as a rule for `simp`
pub length-field : (width v : ℕ) → length (bytes_of width v) ≡ width
length-field width v = (little_laws width).long v

pub length-indices : (list : List ℕ) → length (index_bytes list) ≡ 4 * length list
unfolding index_bytes
length-indices [] = refl
length-indices (x ∷ xs) = length-append (bytes_of 4 x) (index_bytes xs) ∙ omega (arith, (little_laws 4).long x, length-indices xs)

-- the indices before i stand there
pub indices_start : (d list : List ℕ) → Front d (index_bytes (take 0 list)) (4 * 0) d
unfolding index_bytes
indices_start d list = front_start d

pub indices-turn : (d list e e' : List ℕ) (i : ℕ) → i < length list → length d ≡ 4 * length list → Front d (index_bytes (take i list)) (4 * i) e
    → e' ≡ put_le e (4 * i) 4 (get_or list i 0) → Front d (index_bytes (take (i + 1) list)) (4 * (i + 1)) e'
indices-turn d list e e' i h l f g =
    let k : 4 * i + 4 ≡ 4 * (i + 1) = omega arith in
    let q : index_bytes (take i list) ++ bytes_of 4 (get_or list i 0) ≡ index_bytes (take (i + 1) list) =
    sym (index_append (take i list) (get_or list i 0)) ∙ ap index_bytes (sym (take-suc list i 0 h) ∙ ap (λ (j : ℕ). take j list) (sym (add-one i))) in
    rw k at (front_is (front-le f 4 (get_or list i 0) (omega arith) g) q refl)

pub indices-end : (d list e : List ℕ) (i : ℕ) → i ≡ length list → length d ≡ 4 * length list → Front d (index_bytes (take i list)) (4 * i) e → e ≡ index_bytes list
indices-end d list e i h l f = front-end f (omega arith) ∙ ap index_bytes (take_all i list (omega arith))

-- ---- a chunk and the trailer

pub length_header : (uuid : List ℕ) (n m s i : ℕ) → length uuid ≡ 16 → length (chunk_header uuid n m s i) ≡ 48
unfolding chunk_header
length_header uuid n m s i u = simp (length-append, length-field, u)

pub header_made : (uuid d y b z d₁ d₂ d₃ x g zs : List ℕ) (n m s i t e : ℕ) → length d ≡ 48 → length uuid ≡ 16
    → y ≡ chunk_magic → b ≡ take 0 d ++ (y ++ drop 4 (drop 0 d))
    → z ≡ uuid
    → d₁ ≡ put_le (take 4 b ++ (z ++ drop 16 (drop 4 b))) 20 4 i
    → t ≡ type_for n i → d₂ ≡ put_le d₁ 24 4 t → d₃ ≡ put_le d₂ 28 4 s → e ≡ erasure_for m
    → x ≡ 0 ∷ e ∷ [] → g ≡ take 32 d₃ ++ (x ++ drop 2 (drop 32 d₃))
    → zs ≡ zeros (length (part g 34 14))
    → take 34 g ++ (zs ++ drop 14 (drop 34 g)) ≡ chunk_header uuid n m s i
unfolding chunk_header
header_made uuid d y b z d₁ d₂ d₃ x g zs n m s i t e h u ey eb ez e₁ et e₂ e₃ ee ex eg es =
    let f₁ = front_is (front_copy (front_start d) chunk_magic y 4 refl (omega arith) ey) refl (sym eb) in
    let f₂ = front_copy f₁ uuid z 16 u (omega arith) ez in
    let f₃ = front-le (front-le (front-le f₂ 4 i (omega arith) e₁) 4 t (omega arith) e₂) 4 s (omega arith) e₃ in
    let f₄ = front_is (front_copy f₃ (0 ∷ e ∷ []) x 2 refl (omega arith) ex) refl (sym eg) in
    let l : length (part g 34 14) ≡ 14 = part_laws.length_part g 34 14 (omega (arith, front_length f₄)) in
    let q : zs ≡ zeros 14 = es ∙ ap (λ (k : ℕ). zeros k) l in
    front-end (front_lent f₄ zs 14 (ap length q) (omega arith)) (sym h)
    ∙ rw (q, et, ee)

pub seal_made : (c digest y z : List ℕ) (at end n k : ℕ) → 36 ≤ length c → at ≡ length c - 36 → end ≡ at + 32 → length digest ≡ 32 → digest ≡ hash (take at c)
    → n ≡ end - at → y ≡ digest
    → k ≡ length (take at c ++ (y ++ drop n (drop at c))) - end
    → z ≡ end_marker
    → take end (take at c ++ (y ++ drop n (drop at c))) ++ (z ++ drop k (drop end (take at c ++ (y ++ drop n (drop at c))))) ≡ sealed (take (length c - 36) c)
unfolding sealed
seal_made c digest y z at end n k h ea ee l ed en ey ek ez =
    let m : n ≡ 32 = omega arith in
    let f₁ = front_copy (front-taken c at (omega arith)) digest y n (l ∙ sym m) (omega arith) ey in
    let j : at + n ≡ end = omega arith in
    let f₂ : Front c (take at c ++ digest) end (take at c ++ (y ++ drop n (drop at c))) = rw j at f₁ in
    let q : k ≡ 4 = omega (arith, front_length f₂) in
    front-end (front_copy f₂ end_marker z k (sym q) (omega arith) ez) (omega arith)
    ∙ rw (← ea, ed)

pub chunk-made : (uuid payload c y z e : List ℕ) (n m s i end k : ℕ) → length c ≡ 84 + length payload
    → length uuid ≡ 16 → y ≡ chunk_header uuid n m s i → end ≡ length (take 0 c ++ (y ++ drop 48 (drop 0 c))) - 36 → k ≡ end - 48
    → z ≡ payload
    → (b : List ℕ) → b ≡ take 48 (take 0 c ++ (y ++ drop 48 (drop 0 c))) ++ (z ++ drop k (drop 48 (take 0 c ++ (y ++ drop 48 (drop 0 c)))))
    → e ≡ sealed (take (length b - 36) b) → e ≡ chunk_bytes uuid n m s i payload
unfolding chunk_bytes
chunk-made uuid payload c y z e n m s i end k h u ey ee ek ez b eb es =
    let f₁ = front_lent (front_start c) y 48 (ap length ey ∙ length_header uuid n m s i u) (omega arith) in
    let j : k ≡ length payload = omega (arith, front_length f₁) in
    let f₂ = front_is (front_copy f₁ payload z k (sym j) (omega arith) ez) refl (sym eb) in
    let q : length b - 36 ≡ 48 + k = omega (arith, front_length f₂) in
    es ∙ ap sealed (ap (λ (x : ℕ). take x b) q ∙ front-take f₂) ∙ ap (λ (x : List ℕ). sealed (x ++ payload)) ey

pub trailer-made : (digest d y z d₁ zs : List ℕ) (time : ℕ) → length d ≡ 64 → length digest ≡ 32
    → y ≡ trailer_magic → z ≡ digest
    → d₁ ≡ put_le (take 8 (take 0 d ++ (y ++ drop 8 (drop 0 d))) ++ (z ++ drop 32 (drop 8 (take 0 d ++ (y ++ drop 8 (drop 0 d)))))) 40 8 time
    → zs ≡ zeros (length (part d₁ 48 16)) → take 48 d₁ ++ (zs ++ drop 16 (drop 48 d₁)) ≡ trailer_bytes digest time
unfolding trailer_bytes
trailer-made digest d y z d₁ zs time h l ey ez e₁ es =
    let f₁ = front_copy (front_start d) trailer_magic y 8 refl (omega arith) ey in
    let f₂ = front-le (front_copy f₁ digest z 32 l (omega arith) ez) 8 time (omega arith) e₁ in
    let n : length (part d₁ 48 16) ≡ 16 = part_laws.length_part d₁ 48 16 (omega (arith, front_length f₂)) in
    let q : zs ≡ zeros 16 = es ∙ ap (λ (k : ℕ). zeros k) n in
    front-end (front_lent f₂ zs 16 (ap length q) (omega arith)) (sym h)
    ∙ ap (λ (x : List ℕ). trailer_magic ++ digest ++ bytes_of 8 time ++ x) q
