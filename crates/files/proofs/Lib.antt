-- Laws of what follows a call, which the proofs of the code share.
pub mod Following
pub mod Moving
