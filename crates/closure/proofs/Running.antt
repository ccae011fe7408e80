-- Runs: their invariants, their length, and the library's own.
pub mod Congruent
pub mod Larger
pub mod Vertices
pub mod States
pub mod MiddleStep
pub mod Runs
pub mod EdgesAndSteps
pub mod FewSteps
pub mod SharedTerm
pub mod OwnSteps
pub mod OwnRun
