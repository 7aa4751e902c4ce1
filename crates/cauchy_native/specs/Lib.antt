-- The numbers under which the answers go out, and what the calls leave.
pub mod Number
