-- Theorems about the definitions of specs/.
pub mod Computing
pub mod Bench
pub mod Applied
pub mod Choices
pub mod AddedTerms
pub mod Partition
pub mod Ways
pub mod AddedFit
pub mod Promises
