-- The definition that the exported call's contract cites.
pub mod Into
