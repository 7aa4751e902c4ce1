-- Laws of the written parts (LayoutLaws, LengthLaws, FileLaws), which inputs 60 lets through (InputLaws), and how what is written is read back (HeaderBack, RegionBack, ChunkBack).
pub mod FillLaws
pub mod LayoutLaws
pub mod LengthLaws
pub mod RunOfChunks
pub mod DataLaws
pub mod RegionBack
pub mod InputLaws
pub mod FileLaws
pub mod ChunkBack
pub mod HeaderBack
pub mod SixtyTheorems
pub mod HeaderFields
