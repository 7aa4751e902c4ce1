-- The bytes of a container: the words for them (Bytes), limits, extension fields, header, chunk and where it broke (Spot), where a
-- field stands (Lookup), what the walk over fields finds (FieldTheorems), and which fields are taken (FieldsTaken).
pub mod Bytes
pub mod Limits
pub mod Extension
pub mod Header
pub mod Chunk
pub mod Spot
pub mod Lookup
pub mod FieldTheorems
pub mod FieldsTaken
