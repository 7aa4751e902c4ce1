-- A customer may skip this room: what inner functions promise one another, in no promise of a public call.
pub mod Steps
pub mod Spots
pub mod Gather
pub mod Writing
pub mod Index
pub mod Fields
