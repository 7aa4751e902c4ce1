-- A chunk as the writer makes it passes the receiver's checks 30 to 40, whatever lies after it. Assumes nothing.
use Prim.Native.Nat.{ℕ, ◌+◌, ◌*◌, ◌^◌, ◌≤◌, ◌<◌}
use mathlib.Core.Path.{◌≡◌, refl, sym, ap, ap₂, ◌∙◌}
use mathlib.Core.Bool.{Bool, true, false, cond, not, ◌||◌}
use mathlib.Core.List.{List, [], ◌∷◌, ◌++◌, append_assoc}
use native.Mathlib.Omega.{arith}
use borrow.Author.Tests.{eq-eqb, le-ltb, lt-leb}
use lib.Dec.{ltb, lit<}
use lib.ListN.{length, get_or, take, drop, length-append}
use lib.Seq.{take_at, drop_at}
use Rattle.little.specs.Fields.{bytes_of}
use Rattle.little.proofs.Laws.{little_laws, part_laws}
use Rattle.blake3.specs.Tree.{hash}
use Rattle.blake3.proofs.Laws.{hash_laws}
use Rattle.sfc.specs.format.Bytes.{stands_at}
use Rattle.little.specs.Runs.{zeros}
use Rattle.sfc.specs.answer.Numbers.{verdict, Passed}
use Rattle.sfc.specs.format.Chunk.{chunk_magic, end_marker, index_of, type_of, payload_length, payload_of, chunk_length, type_for, length_checks, seal_checks, head_checks, chunk_checks}
use Rattle.sfc.specs.writing.Writer.{compression, erasure_for, chunk_header, sealed, chunk_bytes}
use Rattle.sfc.specs.declared.format.header.Head.{Head}
use Rattle.sfc.proofs.answer.CheckLaws.{all-passed, good_then}
use Rattle.sfc.proofs.writing.LayoutLaws.{length_header}
use Rattle.sfc.proofs.writing.LengthLaws.{length-chunk}
use Rattle.sfc.proofs.format.PlaceLaws.{stands_there, number_at}
use Rattle.std.specs.Prelude.{Ok, Err}

nested : (a b c d e f g p h t r : List ℕ)
    → ((a ++ b ++ c ++ d ++ e ++ f ++ g) ++ p ++ h ++ t) ++ r ≡ a ++ (b ++ (c ++ (d ++ (e ++ (f ++ (g ++ (p ++ (h ++ (t ++ r)))))))))
nested a b c d e f g p h t r = simp append_assoc

type_small : (n i : ℕ) → type_for n i < 256 ^ 4
type_small n i = go (ltb i n)
  where
    go : (b : Bool) → cond b 1 2 < 256 ^ 4
    go true = lit< tt
    go false = lit< tt

-- a head under which a chunk of the index i and the payload p is made, and any bytes after it
pub record Made (h : Head) (i : ℕ) (p : List ℕ) : Type 0 where
  pub uuid_long : length h.uuid ≡ 16
  pub erasure : h.erasure ≡ erasure_for h.m
  pub compression_none : h.compression ≡ compression
  pub s_small : h.s < 256 ^ 4
  pub all_small : h.n + h.m ≤ 256 ^ 4
  pub inside : i < h.n + h.m
  pub payload_long : length p ≡ h.s

module _ (h : Head) (i : ℕ) (p rest : List ℕ) (m : Made h i p) where
  abbrev front : List ℕ
  front = chunk_header h.uuid h.n h.m h.s i ++ p

  abbrev made : List ℕ
  made = chunk_bytes h.uuid h.n h.m h.s i p ++ rest

  -- what it has from each place on
  abbrev at-payload : List ℕ
  at-payload = p ++ (hash front ++ (end_marker ++ rest))

  abbrev at_34 : List ℕ
  at_34 = zeros 14 ++ at-payload

  abbrev at_32 : List ℕ
  at_32 = (compression ∷ erasure_for h.m ∷ []) ++ at_34

  abbrev at_28 : List ℕ
  at_28 = bytes_of 4 h.s ++ at_32

  abbrev at_24 : List ℕ
  at_24 = bytes_of 4 (type_for h.n i) ++ at_28

  abbrev at_20 : List ℕ
  at_20 = bytes_of 4 i ++ at_24

  abbrev at_4 : List ℕ
  at_4 = h.uuid ++ at_20

  from_0 : drop 0 made ≡ chunk_magic ++ at_4
  unfolding chunk_bytes sealed chunk_header
  from_0 = nested chunk_magic h.uuid (bytes_of 4 i) (bytes_of 4 (type_for h.n i)) (bytes_of 4 h.s) (compression ∷ erasure_for h.m ∷ []) (zeros 14) p (hash front) end_marker rest

  from_4 : drop 4 made ≡ at_4
  from_4 = part_laws.next made chunk_magic at_4 0 4 from_0 refl

  from_20 : drop 20 made ≡ at_20
  from_20 = part_laws.next made h.uuid at_20 4 16 from_4 m.uuid_long

  from_24 : drop 24 made ≡ at_24
  from_24 = part_laws.next made (bytes_of 4 i) at_24 20 4 from_20 ((little_laws 4).long i)

  from_28 : drop 28 made ≡ at_28
  from_28 = part_laws.next made (bytes_of 4 (type_for h.n i)) at_28 24 4 from_24 ((little_laws 4).long (type_for h.n i))

  from_32 : drop 32 made ≡ at_32
  from_32 = part_laws.next made (bytes_of 4 h.s) at_32 28 4 from_28 ((little_laws 4).long h.s)

  from_34 : drop 34 made ≡ at_34
  from_34 = part_laws.next made (compression ∷ erasure_for h.m ∷ []) at_34 32 2 from_32 refl

  from_payload : drop 48 made ≡ at-payload
  from_payload = part_laws.next made (zeros 14) at-payload 34 14 from_34 refl

  -- ---- its fields

  pub index_back : index_of made ≡ i
  index_back = number_at made at_24 20 4 i from_20 (omega (arith, m.inside, m.all_small))

  type_back : type_of made ≡ type_for h.n i
  type_back = number_at made at_28 24 4 (type_for h.n i) from_24 (type_small h.n i)

  pub length_back : payload_length made ≡ h.s
  length_back = number_at made at_32 28 4 h.s from_28 m.s_small

  pub payload-back : payload_of made ≡ p
  payload-back = part_laws.piece made p (hash front ++ (end_marker ++ rest)) 48 (payload_length made) from_payload (m.payload_long ∙ sym length_back)

  long : length made ≡ 84 + h.s + length rest
  long =
      length-append (chunk_bytes h.uuid h.n h.m h.s i p) rest
      ∙ omega (arith, length-chunk h.uuid h.n h.m h.s i p m.uuid_long, m.payload_long)

  -- ---- its seal

  length_front : length front ≡ 48 + payload_length made
  length_front =
      length-append (chunk_header h.uuid h.n h.m h.s i) p
      ∙ omega (arith, length_header h.uuid h.n h.m h.s i m.uuid_long, m.payload_long, length_back)

  front-first : made ≡ front ++ (hash front ++ (end_marker ++ rest))
  unfolding chunk_bytes sealed
  front-first = simp append_assoc

  front-back : take (48 + payload_length made) made ≡ front
  front-back = ap (take (48 + payload_length made)) front-first ∙ take_at front (hash front ++ (end_marker ++ rest)) (48 + payload_length made) length_front

  from_hash : drop (48 + payload_length made) made ≡ hash front ++ (end_marker ++ rest)
  from_hash = ap (drop (48 + payload_length made)) front-first ∙ drop_at front (hash front ++ (end_marker ++ rest)) (48 + payload_length made) length_front

  from_end : drop (80 + payload_length made) made ≡ end_marker ++ rest
  from_end =
      let e : 48 + payload_length made + 32 ≡ 80 + payload_length made = omega arith in
      rw e at (part_laws.next made (hash front) (end_marker ++ rest) (48 + payload_length made) 32 from_hash (hash_laws.length-hash front))

  hash-there : stands_at made (48 + payload_length made) (hash (take (48 + payload_length made) made)) ≡ true
  hash-there =
      ap (λ (b : List ℕ). stands_at made (48 + payload_length made) (hash b)) front-back
      ∙ stands_there made (48 + payload_length made) (hash front) (end_marker ++ rest) from_hash

  -- ---- the checks

  pub length-passed : Passed (length_checks h.s made)
  length-passed = (
    le-ltb (length made) 48 (omega (arith, long)),
    (
      ap not (stands_there made 0 chunk_magic at_4 from_0),
      (
        le-ltb (2 * h.s) (payload_length made) (omega (arith, length_back)),
        (le-ltb (length made) (chunk_length made) (omega (arith, long, length_back)), tt),
      ),
    ),
  )

  seal_passed : Passed (seal_checks made)
  seal_passed = (ap not hash-there, (ap not (stands_there made (80 + payload_length made) end_marker rest from_end), tt))

  head_passed : Passed (head_checks h made)
  head_passed = (
    ap not (stands_there made 4 h.uuid at_20 from_4),
    (
      lt-leb (h.n + h.m) (index_of made) (omega (arith, index_back, m.inside)),
      (
        ap not (eq-eqb (type_of made) (type_for h.n (index_of made)) (type_back ∙ ap (type_for h.n) (sym index_back))),
        (
          ap not (stands_there made 34 (zeros 14) at-payload from_34),
          (
            ap₂ (λ (a b : Bool). not a || not b)
                (eq-eqb (get_or made 32 0) h.compression (part_laws.byte_after made at_32 32 0 compression from_32 refl ∙ sym m.compression_none))
                (eq-eqb (get_or made 33 0) h.erasure (part_laws.byte_after made at_32 32 1 (erasure_for h.m) from_32 refl ∙ sym m.erasure)),
            (ap not (eq-eqb (payload_length made) h.s length_back), tt),
          ),
        ),
      ),
    ),
  )

  pub chunk_good : verdict (chunk_checks h made) ≡ Ok tt
  chunk_good =
      good_then Err (length_checks h.s made) (seal_checks made ++ head_checks h made) (Ok tt) (all-passed (length_checks h.s made) length-passed)
      ∙ good_then Err (seal_checks made) (head_checks h made) (Ok tt) (all-passed (seal_checks made) seal_passed)
      ∙ all-passed (head_checks h made) head_passed
