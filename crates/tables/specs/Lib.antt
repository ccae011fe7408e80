-- Document 01 as definitions, its first half: the two tables and their checks, symbols, terms in use and colours,
-- and what an interpretation is. Definitions only; the theorems about them are in proofs/.
pub mod Words
pub mod Bytes
pub mod TermTable
pub mod LiteralTable
pub mod Rows
pub mod Tests
pub mod Checks
pub mod Terms
pub mod Parts
pub mod Colours
pub mod Interpretations
pub mod Read
