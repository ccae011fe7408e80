-- Laws that the code's proofs share.
pub mod Reached
pub mod Squares
pub mod Trails
pub mod Wanting
pub mod Owing
pub mod Filling
