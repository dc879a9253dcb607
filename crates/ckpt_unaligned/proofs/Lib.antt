-- The lemmas that the proofs use.
pub mod Fitting
pub mod Parts
