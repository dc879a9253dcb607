-- The lemmas that the proofs use. What `Names` passes on and the lemmas can be taken from here too.
mod Names
pub mod QueueLemmas
pub mod TakenLemmas
pub mod TicketLemmas
pub use Names.*
pub use QueueLemmas.*
pub use TakenLemmas.*
pub use TicketLemmas.*
