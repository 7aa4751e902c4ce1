-- The proofs. Another crate sees the answers, the theorems, the worked sums and the laws that specs/Laws.antt states; all else is
-- for this crate alone.
pub mod Answers
pub mod Theorems
pub mod Worked
pub mod Laws
mod algebra
mod blocks
mod decoding
mod CallLaws
