-- The proofs of the demands, of the way from a written file to its content (RoundTrip), and of each call's answer by number (Answers).
pub mod Unread
pub mod Demand3
pub mod RoundTrip
pub mod Demand2
pub mod Demand1
pub mod Worked
pub mod Answers
