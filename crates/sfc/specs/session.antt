-- A session: tallies, marks, every 71 (Lent) and what is known once it lets something through (Right), what an offer makes of them
-- (Session, and all that is kept beside it, Offer), histories of offers, and what is proved of them (SessionTheorems; of copies,
-- CopyTheorems; of their order, OrderTheorems; of where a chunk broke, SpotTheorems).
pub mod Tallies
pub mod Marks
pub mod Lent
pub mod Right
pub mod Session
pub mod Offer
pub mod History
pub mod SessionTheorems
pub mod CopyTheorems
pub mod OrderTheorems
pub mod SpotTheorems
