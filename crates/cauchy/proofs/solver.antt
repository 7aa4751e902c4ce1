-- The laws of the two passes that solve the equations in place, for one column and for ranges of words.
pub mod Passes
pub mod ColumnLaws
pub mod StepLaws
