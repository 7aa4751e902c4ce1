-- The laws that other crates cite (Laws) and the proofs of the theorems that specs/Running.antt and specs/Tree.antt state (AnyCut,
-- Refusals, Splits); all else is for this crate alone.
pub mod Laws
mod HashLength
mod CompressLaws
mod Splits
mod StackLaws
mod RunningLaws
mod FeedLaws
mod Heights
mod Waiting
mod Holding
mod AnyCut
mod TwoParts
mod Refusals
