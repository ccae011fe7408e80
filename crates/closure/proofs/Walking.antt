-- Walks and paths of a graph.
pub mod Joined
pub mod Walks
pub mod Invariant
pub mod OnePath
pub mod Parents
pub mod Places
pub mod ParentPaths
pub mod Count
