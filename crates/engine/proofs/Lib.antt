-- Laws that the code's proofs share.
pub mod Searches
pub mod Writing
pub mod AddedRecords
pub mod Answering
pub mod ParentEnds
pub mod LastState
pub mod EndOfRun
