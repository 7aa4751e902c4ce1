-- That a length is none of a refusal's numbers; the laws of a call by a header are this crate's own.
pub mod Apart
mod HeaderLaws
