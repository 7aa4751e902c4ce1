-- Bytes, words and blocks: words in bytes, columns of words in a store of blocks, the blocks of the code, ranges filled in.
pub mod WordBytes
pub mod Store
pub mod BlockLaws
pub mod CodeLaws
pub mod Filled
pub mod MixLaws
