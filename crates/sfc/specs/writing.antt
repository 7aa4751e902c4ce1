-- The file that the writer makes (Writer), when it makes none (SixtyTheorems), and what becomes of extension fields (HeaderFields).
pub mod Writer
pub mod SixtyTheorems
pub mod HeaderFields
