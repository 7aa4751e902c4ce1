-- The laws of rebuilding as a whole.
pub mod EndLaws
