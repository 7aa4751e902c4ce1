-- The laws that other crates cite (Laws) and why an equation admits a single answer (Promise); all else is for this crate alone.
pub mod Laws
pub mod Promise
mod TestLaws
mod PartLaws
mod RunLaws
mod ListLaws
mod FieldLaws
mod SaidLaws
