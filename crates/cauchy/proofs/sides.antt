-- The laws of the right sides.
pub mod HeldLaws
pub mod SideLaws
