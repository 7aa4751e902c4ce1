-- The walk over a file's chunks (Walk), and what is proved of it (WalkTheorems).
pub mod Walk
pub mod WalkTheorems
