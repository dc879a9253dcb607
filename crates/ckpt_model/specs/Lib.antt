-- The definitions that contracts cite.
pub mod Coordinator
pub mod FaultTexts
pub mod Histories
pub mod Images
pub mod Interleavings
pub mod Keeping
pub mod Laws
pub mod Memory
pub mod Opening
pub mod Progress
pub mod Reads
pub mod Refusals
pub mod Settings
pub mod Soundness
pub mod State
pub mod Steps
pub mod WorkedExamples
