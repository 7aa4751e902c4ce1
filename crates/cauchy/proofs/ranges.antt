-- The laws of ranges of words: where they lie.
pub mod RangeLaws
