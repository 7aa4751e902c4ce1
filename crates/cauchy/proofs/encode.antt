-- The laws of four sums over blocks, and of the rows that come out of them.
pub mod RunLaws
pub mod SumLaws
pub mod FourLaws
