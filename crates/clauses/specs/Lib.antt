-- Document 01's "Reading the clauses", as definitions. The theorems about them are in proofs/.
pub mod Clauses
pub mod Factors
pub mod Premises
pub mod Meaning
pub mod Reading
pub mod Records
pub mod ReadBack
pub mod Truth
