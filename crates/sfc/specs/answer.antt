-- Answers: the numbers of the table and lists of checks (Numbers), block and byte (Places), what is proved of the table (Numbered),
-- and what each answer says (Said).
pub mod Numbers
pub mod Places
pub mod Numbered
pub mod Said
