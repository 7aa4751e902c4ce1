-- Laws of checks (CheckLaws), of the cases of an enum (CaseLaws), the proof of the table of numbers, and what a refusal leaves
-- (RefusalLaws).
pub mod CheckLaws
pub mod CaseLaws
pub mod Numbered
pub mod RefusalLaws
