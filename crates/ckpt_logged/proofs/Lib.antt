-- The lemmas that the proofs use.
pub mod Asked
pub mod Crossings
pub mod Entering
mod Names
pub mod Shows
pub mod Since
