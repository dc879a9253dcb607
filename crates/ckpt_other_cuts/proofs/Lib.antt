-- The lemmas that the proofs use.
pub mod Ending
pub mod KeyRuns
pub mod Losing
mod Names
pub mod Redistributing
pub mod Reshaping
pub mod Resumed
pub mod Resuming
pub mod Snapping
pub mod Stopping
pub mod WorkedRestarting
pub mod WorkedResuming
pub mod WorkedShaping
