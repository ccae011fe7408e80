pub mod Calls
pub mod Moved
pub mod Within
