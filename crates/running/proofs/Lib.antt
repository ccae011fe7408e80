-- How the code's arrays show a state of a run: laws that the code's proofs share.
pub mod Agreeing
pub mod Arrays
pub mod BasicSteps
pub mod Beginning
pub mod Candidates
pub mod Choices
pub mod DerivedSteps
pub mod Ends
pub mod EqualVertex
pub mod FirstPair
pub mod OnRuns
pub mod OwnTurns
pub mod PairTest
pub mod Showing
pub mod Tying
