-- The lemmas that the proofs use.
pub mod FirstWords
mod Names
pub mod NoMemoryLemmas
pub mod TermReadBack
