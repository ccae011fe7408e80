-- What the reading of the tables works on: the fields of a literal, marks, columns and keys, for the contracts between its functions.
pub mod Fields
pub mod Marks
pub mod Keys
