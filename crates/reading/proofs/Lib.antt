-- Laws of the marks, columns and keys, which the code's proofs share.
pub mod Marks
pub mod Columns
pub mod Keys
pub mod Sides
