-- The lemmas that the proofs use.
pub mod AscendingLemmas
pub mod ComparisonLemmas
pub mod CountLemmas
pub mod LimitLemmas
mod Names
pub mod OrderLemmas
pub mod OrderedLemmas
pub mod PlaceLemmas
pub mod ResultLemmas
pub mod SetLemmas
pub mod ShapeLemmas
