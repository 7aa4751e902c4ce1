-- Which block, which byte, and how many word columns: a number as the type that a caller sees; and the answers that are made of them.
-- Assumes nothing: these are definitions.
use Rattle.std.specs.Prelude.{ℕ, Option}
use Rattle.sfc.specs.declared.answer.places.BlockNumber.{BlockNumber}
use Rattle.sfc.specs.declared.answer.places.BytePlace.{BytePlace}
use Rattle.sfc.specs.declared.answer.places.ColumnCount.{ColumnCount}
use Rattle.sfc.specs.declared.answer.reason.Reason.{Reason}
use Rattle.sfc.specs.declared.format.lookup.FieldFound.{FieldFound}
use Rattle.sfc.specs.declared.format.chunk.WholeChunk.{WholeChunk}
use Rattle.sfc.specs.declared.format.chunk.BrokenChunk.{BrokenChunk}
use Rattle.sfc.specs.declared.session.marks.MarksCounted.{MarksCounted}
use Rattle.sfc.specs.declared.give.prefix.UnverifiedPrefix.{UnverifiedPrefix}
use Rattle.sfc.specs.declared.give.block.UnverifiedBlock.{UnverifiedBlock}
use Rattle.sfc.specs.declared.give.release.Complete.{Complete}

abbrev pub number : ℕ → BlockNumber
number i = record { 0 = i }

abbrev pub place : ℕ → BytePlace
place p = record { 0 = p }

abbrev pub columns : ℕ → ColumnCount
columns f = record { 0 = f }

-- ---- the answers

abbrev pub field_found : BytePlace → ℕ → FieldFound
field_found at length = record { at = at; length = length }

abbrev pub whole_at : BlockNumber → BytePlace → WholeChunk
whole_at index payload_at = record { index = index; payload_at = payload_at }

abbrev pub broken : Reason → Option BytePlace → BrokenChunk
broken reason spot = record { reason = reason; spot = spot }

abbrev pub counts : ℕ → ℕ → MarksCounted
counts held barred = record { held = held; barred = barred }

abbrev pub unverified_prefix : BlockNumber → BytePlace → UnverifiedPrefix
unverified_prefix blocks end = record { blocks = blocks; end = end }

abbrev pub unverified_block : BlockNumber → BytePlace → UnverifiedBlock
unverified_block number at = record { number = number; at = at }

abbrev pub complete : BytePlace → Complete
complete end = record { end = end }
