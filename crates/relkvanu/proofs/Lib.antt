-- The lemmas that the proofs use.
pub mod AsEvents
pub mod BoxWords
pub mod Given
pub mod GivenEvents
pub mod GroupCalls
pub mod GroupPrograms
mod Imports
pub mod Openings
pub mod Saves
pub mod SayingLemmas
pub mod Takes
pub mod Unmade
pub mod Words
