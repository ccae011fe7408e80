-- Theorems about the definitions of specs/.
pub mod Computing
pub mod Applied
pub mod Factors
pub mod Members
pub mod Truths
pub mod Shared
pub mod Stretches
pub mod Interpolation
pub mod Meaning
pub mod Order
pub mod Records
pub mod Backwards
pub mod OneClause
pub mod Pieces
pub mod Critical
