-- The check of a chunk by itself, 71 and 30 to 40 (document 01, "The bytes"; document 001, 5.1 and 5.3), and how long the chunk
-- at the front of some bytes is. Assumes nothing: these are definitions.
use Rattle.std.specs.Prelude.{ℕ, ◌+◌, ◌*◌, cond, not, ◌||◌, List, [], ◌∷◌, ◌++◌, ltb, leb, eqb, length, get_or, take, Result, Ok, Err}
use Rattle.little.specs.Parts.{part}
use Rattle.little.specs.Fields.{le}
use Rattle.blake3.specs.Tree.{hash}
use Rattle.sfc.specs.format.Bytes.{stands_at}
use Rattle.little.specs.Runs.{zeros}
use Rattle.sfc.specs.answer.Numbers.{Check, checked}
use Rattle.sfc.specs.session.Lent.{shape_wrong}
use Rattle.sfc.specs.declared.format.header.Head.{Head}
use Rattle.sfc.specs.declared.answer.reason.Reason.{Reason}

-- a chunk's first four bytes, and its last four
abbrev pub chunk_magic : List ℕ
chunk_magic = 0x43 ∷ 0x48 ∷ 0x4B ∷ 0x00 ∷ []

abbrev pub end_marker : List ℕ
end_marker = 0x2F ∷ 0x43 ∷ 0x48 ∷ 0x4B ∷ []

-- the fields of its header of 48 bytes
abbrev pub index_of : List ℕ → ℕ
index_of c = le c 20 4

abbrev pub type_of : List ℕ → ℕ
type_of c = le c 24 4

abbrev pub payload_length : List ℕ → ℕ
payload_length c = le c 28 4

-- the payload lies after the header; a trailer of 36 bytes lies after the payload
abbrev pub payload_of : List ℕ → List ℕ
payload_of c = part c 48 (payload_length c)

abbrev pub chunk_length : List ℕ → ℕ
chunk_length c = 84 + payload_length c

-- the type that suits an index: 1, data, below N; 2, recovery, from N on
abbrev pub type_for : ℕ → ℕ → ℕ
type_for n i = cond (ltb i n) 1 2

-- what must hold before a next chunk can be found
abbrev pub length_checks : ℕ → List ℕ → List Check
length_checks s c =
    (ltb (length c) 48, 30)
    ∷ (not (stands_at c 0 chunk_magic), 31)
    ∷ (ltb (2 * s) (payload_length c), 32)
    ∷ (ltb (length c) (chunk_length c), 30)
    ∷ []

-- of its trailer: the hash of header and payload, and the end marker
abbrev pub seal_checks : List ℕ → List Check
seal_checks c =
    (not (stands_at c (48 + payload_length c) (hash (take (48 + payload_length c) c))), 33)
    ∷ (not (stands_at c (80 + payload_length c) end_marker), 34)
    ∷ []

-- of its header, against the file's
abbrev pub head_checks : Head → List ℕ → List Check
head_checks h c =
    (not (stands_at c 4 h.uuid), 35)
    ∷ (leb (h.n + h.m) (index_of c), 36)
    ∷ (not (eqb (type_of c) (type_for h.n (index_of c))), 37)
    ∷ (not (stands_at c 34 (zeros 14)), 38)
    ∷ (not (eqb (get_or c 32 0) h.compression) || not (eqb (get_or c 33 0) h.erasure), 39)
    ∷ (not (eqb (payload_length c) h.s), 40)
    ∷ []

abbrev pub chunk_checks : Head → List ℕ → List Check
chunk_checks h c = length_checks h.s c ++ (seal_checks c ++ head_checks h c)

-- the chunk at the front of some bytes, as far as its length: 71 judges the four numbers of the head that is handed in
abbrev pub measure_checks : Head → List ℕ → List Check
measure_checks h b = (shape_wrong h.size h.n h.m h.s, 71) ∷ length_checks h.s b

-- how many bytes it takes up
unfoldable pub measure_chunk : Head → List ℕ → Result ℕ Reason
measure_chunk h b = checked (measure_checks h b) Err (Ok (chunk_length b))

-- of a chunk by itself, whose answer is in Spot; 43, 42 and 41 are a session's
abbrev pub alone_checks : Head → List ℕ → List Check
alone_checks h c = (shape_wrong h.size h.n h.m h.s, 71) ∷ chunk_checks h c
