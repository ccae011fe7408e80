-- What the arrays of a graph mean, for the contracts of the code.
pub mod Layout
pub mod Rooting
pub mod Trails
