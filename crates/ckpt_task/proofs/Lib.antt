-- The lemmas that the proofs use.
pub mod Doing
pub mod Failing
pub mod LoopLaws
pub mod Looping
mod Names
pub mod Restores
pub mod Seaming
pub mod SinkGiving
pub mod SinkLooping
pub mod Sinking
pub mod Snapping
pub mod Stopping
pub mod Turning
pub mod Working
pub mod WorkedLooping
