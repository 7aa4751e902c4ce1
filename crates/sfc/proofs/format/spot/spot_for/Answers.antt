-- `sfc::format::spot::spot_for` meets its contract, row by row: the reason that is matched has the row's number. Assumes nothing.
use mathlib.Core.Path.{◌≡◌, ap}
use native.Mathlib.Omega.{arith}
use lib.ListN.{length}
use Rattle.sfc.specs.answer.Numbers.{number_of}
use Rattle.sfc.specs.format.Spot.{spot_for}
use Rattle.sfc.proofs.format.SpotLaws.{by_row, not_row, no_row}
use borrow.Author.Rules.{rules}
use Rattle.sfc.proofs.format.spot.spot_for.Goals as goal

pub spot_at-requires : goal.spot_at-requires
spot_at-requires c = omega (arith, c.requires.short (ap number_of c.in-ChunkShort.is))

pub spot_at-requires-in-ChunkHash : goal.spot_at-requires-in-ChunkHash
spot_at-requires-in-ChunkHash c =
    let k = ap number_of c.in-ChunkHash.is in
    omega (arith, c.requires.measured (omega (arith, k)) (omega (arith, k)), c.payload_length-payload.ensures)

pub first_other-requires-in-EndMarker : goal.first_other-requires-in-EndMarker
first_other-requires-in-EndMarker c =
    let k = ap number_of c.in-EndMarker.is in
    omega (arith, c.requires.measured (omega (arith, k)) (omega (arith, k)), c.payload_length-payload.ensures)

pub first_other-requires-in-OtherFile : goal.first_other-requires-in-OtherFile
first_other-requires-in-OtherFile c = let l : length c.args.h.uuid ≡ 16 = search rules in omega (arith, l)

pub returns-in-ChunkShort : goal.returns-in-ChunkShort
unfolding spot_for
returns-in-ChunkShort c = let a = c.args in by_row a.h a.c.now _ _ 30 c.spot_at.ensures (ap number_of c.in-ChunkShort.is)

pub returns-in-ChunkMagic : goal.returns-in-ChunkMagic
unfolding spot_for
returns-in-ChunkMagic c = let a = c.args in by_row a.h a.c.now _ _ 31 c.first_other.ensures (ap number_of c.in-ChunkMagic.is)

pub returns-in-PayloadLong : goal.returns-in-PayloadLong
unfolding spot_for
returns-in-PayloadLong c = let a = c.args in by_row a.h a.c.now _ _ 32 c.spot_at-in-PayloadLong.ensures (ap number_of c.in-PayloadLong.is)

pub returns-in-ChunkHash : goal.returns-in-ChunkHash
unfolding spot_for
returns-in-ChunkHash c = let a = c.args in by_row a.h a.c.now _ _ 33 (rw c.payload_length-payload.ensures at c.spot_at-in-ChunkHash.ensures) (ap number_of c.in-ChunkHash.is)

pub returns-in-EndMarker : goal.returns-in-EndMarker
unfolding spot_for
returns-in-EndMarker c = let a = c.args in by_row a.h a.c.now _ _ 34 (rw c.payload_length-payload.ensures at c.first_other-in-EndMarker.ensures) (ap number_of c.in-EndMarker.is)

pub returns-in-OtherFile : goal.returns-in-OtherFile
unfolding spot_for
returns-in-OtherFile c = let a = c.args in by_row a.h a.c.now _ _ 35 c.first_other-in-OtherFile.ensures (ap number_of c.in-OtherFile.is)

pub returns-in-IndexRange : goal.returns-in-IndexRange
unfolding spot_for
returns-in-IndexRange c = let a = c.args in by_row a.h a.c.now _ _ 36 c.spot_at-in-IndexRange.ensures (ap number_of c.in-IndexRange.is)

pub returns-in-TypeIndex : goal.returns-in-TypeIndex
unfolding spot_for
returns-in-TypeIndex c = let a = c.args in by_row a.h a.c.now _ _ 37 (rw (c.type_for.ensures, c.index_of.ensures) at c.first_other_of.ensures) (ap number_of c.in-TypeIndex.is)

pub returns-in-Reserved : goal.returns-in-Reserved
unfolding spot_for
returns-in-Reserved c = let a = c.args in by_row a.h a.c.now _ _ 38 c.first_other-in-Reserved.ensures (ap number_of c.in-Reserved.is)

pub returns-in-Identifiers : goal.returns-in-Identifiers
unfolding spot_for
returns-in-Identifiers c = let a = c.args in by_row a.h a.c.now _ _ 39 c.first_other-in-Identifiers.ensures (ap number_of c.in-Identifiers.is)

pub returns-in-PayloadLength : goal.returns-in-PayloadLength
unfolding spot_for
returns-in-PayloadLength c = let a = c.args in by_row a.h a.c.now _ _ 40 c.first_other_of-in-PayloadLength.ensures (ap number_of c.in-PayloadLength.is)

pub returns-in-Conflict : goal.returns-in-Conflict
unfolding spot_for
returns-in-Conflict c = let a = c.args in by_row a.h a.c.now _ _ 41 c.spot_at-in-Conflict.ensures (ap number_of c.in-Conflict.is)

pub returns-in-Barred : goal.returns-in-Barred
unfolding spot_for
returns-in-Barred c = let a = c.args in by_row a.h a.c.now _ _ 42 c.spot_at-in-Barred.ensures (ap number_of c.in-Barred.is)

pub returns-in_default : goal.returns-in_default
returns-in_default c =
    let d = c.in_default in
    no_row c.args.h c.args.c.now _ (not_row _ 30 d.not-ChunkShort) (not_row _ 31 d.not-ChunkMagic) (not_row _ 32 d.not-PayloadLong) (not_row _ 33 d.not-ChunkHash)
    (not_row _ 34 d.not-EndMarker) (not_row _ 35 d.not-OtherFile) (not_row _ 36 d.not-IndexRange) (not_row _ 37 d.not-TypeIndex) (not_row _ 38 d.not-Reserved)
    (not_row _ 39 d.not-Identifiers) (not_row _ 40 d.not-PayloadLength) (not_row _ 41 d.not-Conflict) (not_row _ 42 d.not-Barred)
