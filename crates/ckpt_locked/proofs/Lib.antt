-- The lemmas that the proofs use.
pub mod AcceptedOnce
pub mod Crossings
pub mod Keeps
pub mod LockCalls
pub mod Moves
mod Names
pub mod Openings
pub mod Replays
pub mod SeatLists
pub use AcceptedOnce.*
pub use Crossings.*
pub use Keeps.*
pub use LockCalls.*
pub use Moves.*
pub use Names.*
pub use Openings.*
pub use Replays.*
pub use SeatLists.*
