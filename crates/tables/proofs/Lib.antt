-- Theorems about the definitions of specs/.
pub mod Computing
pub mod Applied
pub mod Words
pub mod WordBytes
pub mod Terms
pub mod Colours
pub mod Tests
pub mod Records
pub mod Searches
pub mod Filled
pub mod Sound
pub mod Rows
pub mod Faults
