-- Where a chunk broke (document 02, [4]): for each number of a refusal the place of a byte, counted from the chunk's first; and the
-- check of a chunk by itself, which answers both. Assumes nothing: these are definitions.
use Rattle.std.specs.Prelude.{ℕ, suc, ◌+◌, cond, List, [], ◌∷◌, eqb, length, get_or, Option, Result, Some, None, Ok, Err}
use Rattle.little.specs.Fields.{bytes_of}
use Rattle.little.specs.Runs.{zeros}
use Rattle.sfc.specs.answer.Numbers.{checked, number_of}
use Rattle.sfc.specs.answer.Places.{number, place, broken, whole_at}
use Rattle.sfc.specs.format.Chunk.{chunk_magic, end_marker, index_of, payload_length, type_for, alone_checks}
use Rattle.sfc.specs.declared.format.header.Head.{Head}
use Rattle.sfc.specs.declared.answer.reason.Reason.{Reason}
use Rattle.sfc.specs.declared.format.chunk.BrokenChunk.{BrokenChunk}
use Rattle.sfc.specs.declared.answer.places.BytePlace.{BytePlace}
use Rattle.sfc.specs.declared.format.chunk.WholeChunk.{WholeChunk}

abbrev pub spot_at : ℕ → Option BytePlace
spot_at p = Some (place p)

-- how many of the wanted bytes stand from place `at` on, before the first that does not
unfoldable pub agreeing : List ℕ → ℕ → List ℕ → ℕ
agreeing c at [] = 0
agreeing c at (y ∷ ys) = cond (eqb (get_or c at 0) y) (suc (agreeing c (suc at) ys)) 0

-- the first of them that is another
abbrev pub first_other : List ℕ → ℕ → List ℕ → Option BytePlace
first_other c at wanted = spot_at (at + agreeing c at wanted)

-- the table: where certain bytes are wanted, the first that is another; where a number is wanted within a range, its field; for 33
-- the stored hash, for 30 the end of the input; no other number has a place
unfoldable pub spot_for : Head → List ℕ → ℕ → Option BytePlace
spot_for h c k =
    cond (eqb k 30) (spot_at (length c))
    (cond (eqb k 31) (first_other c 0 chunk_magic)
    (cond (eqb k 32) (spot_at 28)
    (cond (eqb k 33) (spot_at (48 + payload_length c))
    (cond (eqb k 34) (first_other c (80 + payload_length c) end_marker)
    (cond (eqb k 35) (first_other c 4 h.uuid)
    (cond (eqb k 36) (spot_at 20)
    (cond (eqb k 37) (first_other c 24 (bytes_of 4 (type_for h.n (index_of c))))
    (cond (eqb k 38) (first_other c 34 (zeros 14))
    (cond (eqb k 39) (first_other c 32 (h.compression ∷ h.erasure ∷ []))
    (cond (eqb k 40) (first_other c 28 (bytes_of 4 h.s))
    (cond (eqb k 41) (spot_at 20)
    (cond (eqb k 42) (spot_at 20) None))))))))))))

-- a refusal, with where the chunk broke
abbrev pub refused_chunk : Head → List ℕ → Reason → Result WholeChunk BrokenChunk
refused_chunk h c r = Err (broken r (spot_for h c (number_of r)))

-- the chunk's index, and the place in the chunk where its payload begins; or a refusal
unfoldable pub check_chunk : Head → List ℕ → Result WholeChunk BrokenChunk
check_chunk h c = checked (alone_checks h c) (refused_chunk h c) (Ok (whole_at (number (index_of c)) (place 48)))
