-- The laws of the loops over marks: what is held, what is missing, which recovery blocks are used.
pub mod ListLaws
