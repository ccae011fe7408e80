-- What the arrays of a run mean, for the contracts of the code.
pub mod Shown
pub mod Keys
pub mod Opening
pub mod Stepping
