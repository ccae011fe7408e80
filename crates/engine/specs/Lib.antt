-- What the call's functions between layers speak of. What the call answers is defined in the crate `demands`.
pub mod Ending
pub mod Refusals
