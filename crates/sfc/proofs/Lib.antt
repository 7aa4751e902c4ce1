-- Another crate sees the theorems and the laws that specs/Laws.antt states; all else is for this crate alone. A room's own laws
-- stand beside its functions.
pub mod Theorems
pub mod Laws
mod demand
