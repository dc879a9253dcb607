-- The lemmas that the proofs use.
mod Names
pub mod RowLemmas
pub mod StoreLemmas
pub use Names.*
pub use RowLemmas.*
pub use StoreLemmas.*
