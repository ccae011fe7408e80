-- Theorems about the definitions of specs/.
pub mod Computing
pub mod Applied
pub mod Choices
pub mod Walking
pub mod Running
pub mod Entailing
