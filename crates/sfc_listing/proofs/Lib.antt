-- The laws that the proofs of the listing's functions cite, and the proofs of the statements in specs/, which alone are public.
mod LineLaws
mod PageLaws
mod TellLaws
mod ReportLaws
mod FileLaws
mod FitLaws
mod LastLine
mod BreakLaws
pub mod Demand1
pub mod ListingTheorems
pub mod RefusedLines
pub mod OwnFile
