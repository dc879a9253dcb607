-- The lemmas that the proofs use.
pub mod Answering
pub mod Due
pub mod Histories
pub mod Images
pub mod Keeping
mod Names
pub mod Records
pub mod Reordering
pub mod Soundness
pub mod Stepping
