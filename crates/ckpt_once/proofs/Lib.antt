-- The lemmas, and the proofs of functions.
pub mod ActionLemmas
mod Names
pub mod TurnLemmas
pub mod Running
pub mod Joining
pub mod Sealing
pub mod Publishing
pub mod Newer
pub mod Chosen
pub mod Restarting
pub mod PlainRuns
pub mod Choosing
pub mod Snapping
