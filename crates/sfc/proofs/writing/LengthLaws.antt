-- How long a chunk, lists joined, and the parts of a written file are. Assumes nothing.
use Prim.Native.Nat.{ℕ, zero, suc, ◌+◌, ◌*◌, ◌<◌}
use mathlib.Core.Path.{◌≡◌, refl, sym, ap₂, ◌∙◌}
use mathlib.Core.Bool.{false}
use mathlib.Core.List.{List, ◌++◌}
use native.Mathlib.Nat.{suc-mul, zero-mul}
use native.Mathlib.Omega.{arith}
use lib.ListN.{length, length-append}
use Rattle.blake3.specs.Tree.{hash}
use Rattle.blake3.proofs.Laws.{hash_laws}
use Rattle.cauchy.specs.Code.{joined}
use Rattle.cauchy.proofs.Laws.{code_laws}
use Rattle.sfc.specs.format.Chunk.{end_marker}
use Rattle.sfc.specs.session.Lent.{shape_wrong}
use Rattle.sfc.specs.writing.Writer.{Input, size, blocks, data_of, payload, trailer_bytes, sealed, chunk_header, chunk_bytes}
use Rattle.sfc.specs.session.Right.{RightShape}
use Rattle.sfc.proofs.writing.LayoutLaws.{length-field, length_header, length-padded}
use Rattle.sfc.proofs.format.LimitLaws.{wanted_holds}
use Rattle.sfc.proofs.session.MarkLaws.{right_shape}

pub length-sealed : (b : List ℕ) → length (sealed b) ≡ 36 + length b
unfolding sealed
length-sealed b = omega (arith, length-append (b ++ hash b) end_marker, length-append b (hash b), hash_laws.length-hash b)

pub length-chunk : (uuid : List ℕ) (n m s i : ℕ) (payload : List ℕ) → length uuid ≡ 16 → length (chunk_bytes uuid n m s i payload) ≡ 84 + length payload
unfolding chunk_bytes
length-chunk uuid n m s i payload u =
    length-sealed (chunk_header uuid n m s i ++ payload)
    ∙ omega (arith, length-append (chunk_header uuid n m s i) payload, length_header uuid n m s i u)

-- ---- lists joined

pub joined_same : (f g : ℕ → List ℕ) (c d n : ℕ) → ((k : ℕ) → k < n → f (c + k) ≡ g (d + k)) → joined f c n ≡ joined g d n
unfolding joined
joined_same f g c d zero h = refl
joined_same f g c d (suc n) h =
    let e : c + 0 ≡ c = omega arith in
    let e' : d + 0 ≡ d = omega arith in
    ap₂ ◌++◌ (rw (e, e') at (h 0 (omega arith)))
    (joined_same f g (suc c) (suc d) n (λ k u.
    let p : c + suc k ≡ suc c + k = omega arith in
    let q : d + suc k ≡ suc d + k = omega arith in
    rw (p, q) at (h (suc k) (omega arith))))

pub length-joined : (f : ℕ → List ℕ) (c n k : ℕ) → ((i : ℕ) → i < n → length (f (c + i)) ≡ k) → length (joined f c n) ≡ n * k
unfolding joined
length-joined f c zero k h = sym (zero-mul k)
length-joined f c (suc n) k h =
    let e : c + 0 ≡ c = omega arith in
    let z : length (f c) ≡ k = rw e at (h 0 (omega arith)) in
    let r = length-joined f (suc c) n k (λ i u. let p : c + suc i ≡ suc c + i = omega arith in rw p at (h (suc i) (omega arith))) in
    length-append (f c) (joined f (suc c) n) ∙ omega (arith, z, r, suc-mul n k)

-- ---- the trailer, the data and the payloads of a file

pub length-trailer : (digest : List ℕ) (time : ℕ) → length digest ≡ 32 → length (trailer_bytes digest time) ≡ 64
unfolding trailer_bytes
length-trailer digest time d = simp (length-append, length-field, d)

module _ (w : Input) (right : shape_wrong (size w) (blocks w) w.m w.s ≡ false) where
  shape : RightShape (size w) (blocks w) w.m w.s
  shape = right_shape (size w) (blocks w) w.m w.s right

  pub length_data : length (data_of w) ≡ blocks w * w.s
  unfolding data_of
  length_data = length-padded (blocks w * w.s) w.content (wanted_holds (size w) w.s (omega (arith, shape.s_least))).1

  pub length-payload : (i : ℕ) → length (payload w i) ≡ w.s
  unfolding payload
  length-payload i = code_laws.length_code (blocks w) w.m w.s (data_of w) i shape.s_even length_data
