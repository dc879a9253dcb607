-- The lemmas that the proofs use.
pub mod SplitLemmas
