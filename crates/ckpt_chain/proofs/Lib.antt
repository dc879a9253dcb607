-- The lemmas that the proofs use.
pub mod Barriers
pub mod Calls
pub mod Chain
pub mod Choosing
pub mod Cutting
pub mod Durably
pub mod Like
pub mod Named
mod Names
pub mod ReadingBack
pub mod SameStates
pub mod Seamless
pub mod SinkFailing
pub mod Storing
pub mod Telling
pub mod Terms
pub mod ToldResumes
pub mod Triggering
pub mod WaysBack
pub mod Worked
pub mod WorkedEngines
pub mod WorkedProgressing
pub mod WorkedSinking
pub mod WorkedStoring
pub mod WorkedTriggering
