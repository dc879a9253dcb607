-- The lemmas that the proofs use.
pub mod AckOrder
pub mod Items
mod Names
pub mod OutcomeLemmas
pub mod Plain
pub mod RoundTrip
pub mod TakenLemmas
pub use AckOrder.*
pub use Items.*
unfoldable pub use Names.*
pub use OutcomeLemmas.*
pub use Plain.*
pub use RoundTrip.*
pub use TakenLemmas.*
