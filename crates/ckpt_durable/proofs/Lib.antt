-- The lemmas that the proofs use.
pub mod Alike
pub mod GroupWorlds
pub mod Lists
mod Names
pub mod NamesOnce
pub mod Operating
pub mod Reading
pub mod Standing
pub mod TermsOnce
pub mod Worlds
