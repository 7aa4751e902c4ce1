-- What is held decides the data or leaves them open: the theorems of specs/Theorems.antt, each by its own laws; and the laws of
-- scratch that is rebuilt a few columns at a time.
pub mod Known
pub mod BlindLaws
pub mod UsedLaws
pub mod Decoded
pub mod ScratchLaws
