-- The lemmas that the proofs use.
mod Imports
pub mod InputBytes
