-- The lemmas that the proofs use.
pub mod AckLemmas
pub mod FileLemmas
pub mod FullLemmas
mod Names
pub mod PendingLemmas
pub mod PlaceLemmas
pub mod SubtaskLemmas
pub use AckLemmas.*
pub use FileLemmas.*
pub use FullLemmas.*
pub use Names.*
pub use PendingLemmas.*
pub use PlaceLemmas.*
pub use SubtaskLemmas.*
