-- What is missing (Missing), the ranges that it makes (Ranges), the resend note (Note), and what is proved of them
-- (NoteTheorems).
pub mod Missing
pub mod Ranges
pub mod Note
pub mod NoteTheorems
