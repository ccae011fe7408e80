-- Document 01's "What comes back", as definitions over the bytes of the two tables and of the three lent buffers, and the demands on it. The theorems are in proofs/.
pub mod Answers
pub mod Buffers
pub mod Verdicts
pub mod Refusals
pub mod Call
pub mod Demands
