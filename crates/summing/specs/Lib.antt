-- What the clause layer's code writes, for its contracts.
pub mod Writing
pub mod Cutting
pub mod Written
