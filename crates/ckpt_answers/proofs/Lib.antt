-- The lemmas that the proofs use.
pub mod ListLemmas
pub mod MissingLemmas
mod Names
pub mod NoFloats
pub mod ValueLists
pub use ListLemmas.*
pub use MissingLemmas.*
unfoldable pub use Names.*
pub use NoFloats.*
pub use ValueLists.*
