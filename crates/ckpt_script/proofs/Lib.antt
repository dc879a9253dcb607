-- The lemmas that the proofs use.
pub mod CauseLemmas
pub mod KnownLemmas
pub mod LineLemmas
mod Names
pub mod NextLemmas
pub mod OutputLemmas
pub mod PassesLemmas
pub mod StopLemmas
pub mod TellingLemmas
pub use CauseLemmas.*
pub use KnownLemmas.*
pub use LineLemmas.*
pub use Names.*
pub use NextLemmas.*
pub use PassesLemmas.*
pub use StopLemmas.*
