-- What a right shape tells.
pub mod ShapeLaws
