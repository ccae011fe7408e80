-- What the arrays and marks of the clause layer's code mean, for its contracts.
pub mod Marks
pub mod Drawn
