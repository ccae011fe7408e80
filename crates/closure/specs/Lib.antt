-- Document 01's graph and its closure steps, as definitions. The theorems about them are in proofs/.
pub mod Graph
pub mod Walks
pub mod Forests
pub mod Steps
pub mod OwnRun
