-- The lemmas that the proofs use.
pub mod AckLists
pub mod AckSearch
pub mod BookLemmas
pub mod CallLemmas
pub mod KeepLemmas
mod Names
pub mod SeatingLemmas
pub mod ShownLemmas
pub mod Teamwork
pub use AckLists.*
pub use AckSearch.*
pub use BookLemmas.*
pub use CallLemmas.*
pub use KeepLemmas.*
unfoldable pub use Names.*
pub use SeatingLemmas.*
pub use ShownLemmas.*
pub use Teamwork.*
