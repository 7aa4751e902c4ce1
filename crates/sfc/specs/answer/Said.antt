-- What each answer of the container says, case by case: document 01's number of a refusal, or a word and the values that go with
-- it. What the calls say is in demand/Answers. Assumes nothing: these are definitions.
use Rattle.std.specs.Prelude.{ℕ, Bool, true, cond, ◌&&◌, List, [], ◌∷◌, eqb, Option, Result, Some, None, Ok, Err}
use Rattle.little.specs.Said.{Said, refused, says}
use Rattle.sfc.specs.answer.Numbers.{Check, number_of, reason_of, Checked}
use Rattle.sfc.specs.declared.session.offer.Verdict.{Verdict}
use Rattle.sfc.specs.declared.format.header.Head.{Head}
use Rattle.sfc.specs.declared.answer.places.ColumnCount.{ColumnCount}
use Rattle.sfc.specs.declared.give.release.Complete.{Complete}
use Rattle.sfc.specs.declared.session.marks.MarksCounted.{MarksCounted}
use Rattle.sfc.specs.declared.answer.reason.Reason.{Reason}
use Rattle.sfc.specs.declared.format.chunk.BrokenChunk.{BrokenChunk}
use Rattle.sfc.specs.declared.note.resend.NoteRead.{NoteRead}
use Rattle.sfc.specs.declared.answer.places.BytePlace.{BytePlace}
use Rattle.sfc.specs.declared.give.block.UnverifiedBlock.{UnverifiedBlock}
use Rattle.sfc.specs.declared.format.chunk.WholeChunk.{WholeChunk}
use Rattle.sfc.specs.declared.format.lookup.FieldFound.{FieldFound}
use Rattle.sfc.specs.declared.give.prefix.UnverifiedPrefix.{UnverifiedPrefix}

-- the number of the first check whose test holds, as it stands in the list; where none does, what a good answer says
abbrev pub said_by_number : List Check → Said → Said
said_by_number [] good = good
said_by_number (c ∷ cs) good = cond c.0 (refused c.1) (said_by_number cs good)

-- whether each check's number has a reason that has it: a computed test, since the numbers of a list are literals
abbrev pub tabled : List Check → Bool
tabled [] = true
tabled (c ∷ cs) = eqb (number_of (reason_of c.1)) c.1 && tabled cs

-- the place that goes with a number, where one is said; any other answer has none
abbrev pub spot_said : (ℕ → Option BytePlace) → Said → Option BytePlace
spot_said places (refused k) = places k
spot_said places (says word values) = None

-- ---- what a list of checks came to, alone or before what was read

abbrev pub checked_said : Checked → Said
checked_said (Ok u) = says "good" []
checked_said (Err r) = refused (number_of r)

abbrev pub header_said : Result Head Reason → Said
header_said (Ok h) = says "good" []
header_said (Err r) = refused (number_of r)

abbrev pub note_said : Result NoteRead Reason → Said
note_said (Ok a) = says "good" []
note_said (Err r) = refused (number_of r)

-- ---- header and chunk

-- the place of the field's value, and its length
abbrev pub field_said : Result (Option FieldFound) Reason → Said
field_said (Ok (Some f)) = says "at" (f.at.0 ∷ f.length ∷ [])
field_said (Ok None) = says "nothing" []
field_said (Err r) = refused (number_of r)

-- the chunk's index, and the place of its payload
abbrev pub chunk_said : Result WholeChunk BrokenChunk → Said
chunk_said (Ok w) = says "whole" (w.index.0 ∷ w.payload_at.0 ∷ [])
chunk_said (Err b) = refused (number_of b.reason)

-- where it broke: a whole chunk nowhere
abbrev pub chunk_spot : Result WholeChunk BrokenChunk → Option BytePlace
chunk_spot (Ok w) = None
chunk_spot (Err b) = b.spot

-- how many bytes the chunk takes up
abbrev pub measured_said : Result ℕ Reason → Said
measured_said (Ok long) = says "length" (long ∷ [])
measured_said (Err r) = refused (number_of r)

-- ---- the session

-- the index, and the place of its block in the store
abbrev pub verdict_said : Verdict → Said
verdict_said (Verdict.Fresh i p) = says "fresh" (i.0 ∷ p.0 ∷ [])
verdict_said (Verdict.Repeat i p) = says "repeat" (i.0 ∷ p.0 ∷ [])
verdict_said (Verdict.Refused r) = refused (number_of r)

-- how many are held, and how many barred
abbrev pub counted_said : Result MarksCounted Reason → Said
counted_said (Ok c) = says "counts" (c.held ∷ c.barred ∷ [])
counted_said (Err r) = refused (number_of r)

-- ---- what is given

-- how many word columns were rebuilt
abbrev pub turned_said : Result ColumnCount Reason → Said
turned_said (Ok k) = says "did" (k.0 ∷ [])
turned_said (Err r) = refused (number_of r)

-- the place where the content ends
abbrev pub handed_out_said : Result Complete Reason → Said
handed_out_said (Ok c) = says "complete" (c.end.0 ∷ [])
handed_out_said (Err r) = refused (number_of r)

-- how many blocks, and the place where their bytes end
abbrev pub prefix_said : Result UnverifiedPrefix Reason → Said
prefix_said (Ok p) = says "unverified" (p.blocks.0 ∷ p.end.0 ∷ [])
prefix_said (Err r) = refused (number_of r)

-- the index, and the place of the block in the content
abbrev pub block_said : Result UnverifiedBlock Reason → Said
block_said (Ok b) = says "unverified" (b.number.0 ∷ b.at.0 ∷ [])
block_said (Err r) = refused (number_of r)

-- ---- what is written

-- how many numbers
abbrev pub listed_said : Result ℕ Reason → Said
listed_said (Ok k) = says "count" (k ∷ [])
listed_said (Err r) = refused (number_of r)

-- how many bytes
abbrev pub written_said : Result ℕ Reason → Said
written_said (Ok k) = says "bytes" (k ∷ [])
written_said (Err r) = refused (number_of r)
