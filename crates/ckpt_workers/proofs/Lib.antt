-- The lemmas that the proofs use.
pub mod Crossings
pub mod DealLemmas
pub mod Dealing
mod Names
pub mod RoundLemmas
pub mod SeatLemmas
pub mod SequenceLemmas
pub mod ShareLemmas
pub mod ShiftLemmas
pub mod TallyLemmas
pub mod TaskLemmas
pub mod TeamLemmas
pub mod ThreadLemmas
pub mod TimerLemmas
pub use Crossings.*
pub use DealLemmas.*
pub use Dealing.*
pub use Names.*
pub use RoundLemmas.*
pub use SeatLemmas.*
pub use ShareLemmas.*
pub use ShiftLemmas.*
pub use TallyLemmas.*
pub use TaskLemmas.*
pub use TeamLemmas.*
pub use ThreadLemmas.*
pub use TimerLemmas.*
