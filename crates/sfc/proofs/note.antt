-- Laws of the missing list, of ranges, of big-endian fields and notes, and the proofs of NoteTheorems.
pub mod MissingLaws
pub mod BigLaws
pub mod RangeLaws
pub mod PairLaws
pub mod NoteLaws
pub mod MissingExact
pub mod RangesExact
pub mod RangesFew
pub mod NoteBack
pub mod NoteExact
