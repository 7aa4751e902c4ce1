-- Laws of the prefix, of rebuilding, of the blocks from where they lie (GatherLaws), of turn, release and block request.
pub mod PrefixLaws
pub mod GatherLaws
pub mod RebuildLaws
pub mod TurnLaws
pub mod ReleaseLaws
pub mod ColumnLaws
pub mod TurnTheorems
pub mod BlockLaws
pub mod GivenLaws
pub mod UnseenLaws
