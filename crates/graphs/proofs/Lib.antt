-- Laws of the arrays of a graph, which the code's proofs share.
pub mod Changing
pub mod LabelArray
pub mod Numbered
pub mod Rooted
pub mod Climbs
