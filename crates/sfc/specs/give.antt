-- What is given of a session: the prefix, the whole content (HandOut; in turns and by a release, Turns, with what is proved of them,
-- TurnTheorems), one block.
pub mod Prefix
pub mod HandOut
pub mod Turns
pub mod TurnTheorems
pub mod Block
