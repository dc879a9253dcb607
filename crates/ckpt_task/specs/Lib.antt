-- The definitions that contracts cite.
pub mod Deeds
pub mod Engines
pub mod Faults
pub mod Laws
pub mod Loops
pub mod Restores
pub mod Runs
pub mod Saving
pub mod SinkLoops
pub mod SinkTurns
pub mod Turns
pub mod WorkedExamples
pub mod WorkedLoops
