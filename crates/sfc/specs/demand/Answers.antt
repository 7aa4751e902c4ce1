-- What each public call that can refuse answers, read by its definition by number (answer/Said): the number of the first of its
-- checks whose test holds and, where none does, a word and its values. Statements, proved in proofs/demand/Answers.antt, for any
-- bytes, any numbers, and lent memory of any length.
use Rattle.std.specs.Prelude.{ℕ, ◌*◌, ◌≡◌, cond, List, [], ◌∷◌, eqb, length, Result, Ok}
use Rattle.little.specs.Said.{says, Apart}
use Rattle.sfc.specs.answer.Said.{said_by_number, checked_said, header_said, note_said, field_said, chunk_said, chunk_spot, spot_said, measured_said, verdict_said, counted_said, turned_said, handed_out_said, prefix_said, block_said, listed_said, written_said}
use Rattle.sfc.specs.format.Header.{header_checks, region_of, read_header}
use Rattle.sfc.specs.format.Extension.{fields_of}
use Rattle.sfc.specs.format.Lookup.{found_among, extension_of, extension_place, find_field}
use Rattle.sfc.specs.format.Chunk.{index_of, chunk_length, measure_checks, measure_chunk, alone_checks}
use Rattle.sfc.specs.format.Spot.{spot_for, check_chunk}
use Rattle.sfc.specs.session.Marks.{held_count, barred_count}
use Rattle.sfc.specs.session.Lent.{Lent, count_checks, count_marks}
use Rattle.sfc.specs.session.Session.{mark}
use Rattle.sfc.specs.session.Offer.{Logged, all_checks, offered}
use Rattle.sfc.specs.give.Turns.{turn_checks, turn_count, turn, release_checks, release}
use Rattle.sfc.specs.give.Block.{block_checks, block_request}
use Rattle.sfc.specs.give.Prefix.{prefix_blocks, prefix_of, prefix_checks, prefix_given}
use Rattle.sfc.specs.note.Missing.{missing, missing_checks, list_missing}
use Rattle.sfc.specs.note.Ranges.{bounds_for, range_checks, list_ranges}
use Rattle.sfc.specs.note.Note.{note_for, note_checks, write_note, read_checks, read_note}
use Rattle.sfc.specs.writing.Writer.{Input, file_of, writer_checks, write_file}
use Rattle.sfc.specs.declared.format.header.Head.{Head}
use Rattle.sfc.specs.declared.format.chunk.BrokenChunk.{BrokenChunk}
use Rattle.sfc.specs.declared.format.chunk.WholeChunk.{WholeChunk}

pub record Answers : Type 0 where
  -- a header, and one of its fields: where its value stands and how long it is, or that there is none
  pub header : (b : List ℕ) → header_said (read_header b) ≡ said_by_number (header_checks b) (says "good" [])
  pub field : (b : List ℕ) (tag : ℕ) → field_said (find_field b tag)
      ≡ said_by_number (header_checks b) (field_said (Ok (found_among tag (extension_place (region_of b)) (fields_of (extension_of (region_of b))))))
  -- a chunk by itself: its index, and the payload's place in it; where it broke, by the number of the refusal; and how long it is
  pub chunk : (h : Head) (c : List ℕ) → chunk_said (check_chunk h c) ≡ said_by_number (alone_checks h c) (says "whole" (index_of c ∷ 48 ∷ []))
  pub chunk-place : (h : Head) (c : List ℕ) → chunk_spot (check_chunk h c) ≡ spot_said (spot_for h c) (chunk_said (check_chunk h c))
  pub measure : (h : Head) (b : List ℕ) → measured_said (measure_chunk h b) ≡ said_by_number (measure_checks h b) (says "length" (chunk_length b ∷ []))
  -- an offer: fresh for an absent index, else a repeat; the index, and its block's place in the store; where it broke
  pub offer : (h : Head) (y : Logged) (c : List ℕ) → verdict_said (offered h y c).verdict
      ≡ said_by_number (all_checks h y c) (says (cond (eqb (mark y.session (index_of c)) 0) "fresh" "repeat") (index_of c ∷ index_of c * h.s ∷ []))
  pub offer_place : (h : Head) (y : Logged) (c : List ℕ)
      → (offered h y c).spot ≡ spot_said (spot_for h c) (verdict_said (offered h y c).verdict)
  pub count : (h : Head) (marks : List ℕ) → counted_said (count_marks h marks)
      ≡ said_by_number (count_checks h marks) (says "counts" (held_count marks ∷ barred_count marks ∷ []))
  -- a turn says how many columns it did; the release alone says complete, with the size; the block with its place in the content,
  -- the prefix with its blocks and bytes
  pub turn : (h : Head) (store marks scratch numbers : List ℕ) (f b : ℕ) → turned_said (turn h store marks scratch numbers f b).answer
      ≡ said_by_number (turn_checks h store marks scratch numbers f) (says "did" (turn_count h marks f b ∷ []))
  pub release : (h : Head) (store marks scratch : List ℕ) (f : ℕ) (out : List ℕ) → handed_out_said (release h store marks scratch f out).answer
      ≡ said_by_number (release_checks h store marks scratch f out) (says "complete" (h.size ∷ []))
  pub block : (h : Head) (store marks : List ℕ) (j : ℕ) (l : Lent) → block_said (block_request h store marks j l).answer
      ≡ said_by_number (block_checks h store marks j l) (says "unverified" (j ∷ j * h.s ∷ []))
  pub prefix : (h : Head) (store marks out : List ℕ) → prefix_said (prefix_given h store marks out).answer
      ≡ said_by_number (prefix_checks h store marks out) (says "unverified" (prefix_blocks h marks ∷ length (prefix_of h store marks) ∷ []))
  -- how many indices are missing, and how many bounds their ranges have
  pub missing_list : (h : Head) (marks out : List ℕ) → listed_said (list_missing h marks out).answer
      ≡ said_by_number (missing_checks h marks out) (says "count" (length (missing h.n marks) ∷ []))
  pub ranges : (h : Head) (marks out : List ℕ) → listed_said (list_ranges h marks out).answer
      ≡ said_by_number (range_checks h marks out) (says "count" (length (bounds_for h marks) ∷ []))
  -- a note written, and one read; a file
  pub note : (h : Head) (marks out : List ℕ) → written_said (write_note h marks out).answer
      ≡ said_by_number (note_checks h marks out) (says "bytes" (length (note_for h marks) ∷ []))
  pub reading : (b out : List ℕ) → note_said (read_note b out).answer ≡ said_by_number (read_checks b out) (says "good" [])
  pub writing : (w : Input) (out : List ℕ) → written_said (write_file w out).answer
      ≡ said_by_number (writer_checks w out) (says "bytes" (length (file_of w) ∷ []))

-- two answers of one enum that say the same are the same: so what is said leaves nothing of the answer out, and what `Answers`
-- says of a call admits a single answer
pub record SaidApart : Type 0 where
  pub checked : Apart checked_said
  pub field : Apart field_said
  -- a chunk's with the place beside
  pub chunk : (v w : Result WholeChunk BrokenChunk) → chunk_said v ≡ chunk_said w → chunk_spot v ≡ chunk_spot w → v ≡ w
  pub measured : Apart measured_said
  pub verdict : Apart verdict_said
  pub counted : Apart counted_said
  pub turned : Apart turned_said
  pub handed_out : Apart handed_out_said
  pub prefix : Apart prefix_said
  pub block : Apart block_said
  pub listed : Apart listed_said
  pub written : Apart written_said
