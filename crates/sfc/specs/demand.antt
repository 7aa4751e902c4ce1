-- The customer's demands: what is not read (Unread), the three demands, the table of worked sums (Worked), and each call's answer
-- by number (Answers).
pub mod Unread
pub mod Demand1
pub mod Demand2
pub mod Demand3
pub mod Worked
pub mod Answers
