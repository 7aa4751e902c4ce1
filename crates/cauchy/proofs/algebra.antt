-- The algebra: a field of characteristic 2, systems of equations over it, and the code over a field and over the words of ours.
pub mod Field
pub mod SystemLaws
pub mod Kept
pub mod FieldCode
pub mod WordCode
pub mod RowLaws
pub mod GfLaws
