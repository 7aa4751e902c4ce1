-- The numbers under which the answers go out, and that a length is none of a refusal's.
pub mod Answers
pub mod Apart
