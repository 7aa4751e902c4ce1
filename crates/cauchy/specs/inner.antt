-- What a reader of the promises may skip: how the missing words are found (System), which `used` and `used_one` of
-- specs/Theorems.antt pin down without it, and what the inner functions promise each other (Promises; Packed of four rows at once,
-- Ranges of whole ranges of words).
pub mod System
pub mod Promises
pub mod Packed
pub mod Ranges
