-- What joined means: soundness, the finite model, and classes of all runs.
pub mod Values
pub mod Model
pub mod Classes
pub mod AllRuns
