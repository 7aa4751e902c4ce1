-- The laws of packed words, and of tables of their products.
pub mod PackLaws
pub mod TableLaws
pub mod WordLaws
pub mod MixtureLaws
pub mod SummedLaws
