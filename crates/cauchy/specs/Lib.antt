-- The definitions and statements of the crate. To be believed: Code, Decode, Calls, Answers, Theorems, Worked. For the floors
-- above: Laws. To be skipped: inner.
pub mod Code
pub mod Decode
pub mod Calls
pub mod Answers
pub mod Theorems
pub mod Laws
pub mod Worked
pub mod inner
