-- The lemmas that the proofs use.
pub mod CounterLemmas
pub mod CutLemmas
pub mod HoldingLemmas
pub mod ListLemmas
mod Names
pub mod PartLemmas
pub mod PinLemmas
pub mod PinnedLemmas
pub mod PlaceLemmas
pub mod RegistryLemmas
pub mod SoundLemmas
pub use CounterLemmas.*
pub use CutLemmas.*
pub use HoldingLemmas.*
pub use ListLemmas.*
pub use Names.*
pub use PartLemmas.*
pub use PinLemmas.*
pub use PinnedLemmas.*
pub use PlaceLemmas.*
pub use RegistryLemmas.*
pub use SoundLemmas.*
