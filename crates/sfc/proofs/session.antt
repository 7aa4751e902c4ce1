-- Laws of marks, tallies and offers, and of what is kept beside them (KeptLaws); histories; what a session of an accepted header is
-- (RightLaws); copies, order, and where a chunk broke.
pub mod MarkLaws
pub mod TallyLaws
pub mod SessionLaws
pub mod BlockSteps
pub mod HistoryLaws
pub mod OfferLaws
pub mod CountLaws
pub mod EndLaws
pub mod HeldLaws
pub mod RightLaws
pub mod DifferentLaws
pub mod TallyMarks
pub mod CopyTheorems
pub mod OrderTheorems
pub mod BreakLaws
pub mod KeptLaws
pub mod SpotTheorems
