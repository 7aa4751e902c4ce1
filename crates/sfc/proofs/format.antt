-- Laws of limits, texts, extension fields, header, lookup and chunk.
pub mod LimitLaws
pub mod TextLaws
pub mod ListLaws
pub mod FieldWalk
pub mod ExtensionLaws
pub mod FieldOrder
pub mod FieldsTaken
pub mod HeaderLaws
pub mod ChunkLaws
pub mod LookupLaws
pub mod FieldInside
pub mod TagLaws
pub mod PlaceLaws
pub mod SpotLaws
pub mod HeaderParts
