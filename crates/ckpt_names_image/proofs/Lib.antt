-- The lemmas that the proofs use.
mod Names
pub mod Placed
pub mod RoundTrips
pub mod Spans
