-- Laws of the page and of the text; the proofs of the functions cite them.
pub mod Pages
pub mod Digits
pub mod Lines
pub mod ClauseLines
pub mod Examples
pub mod Room
