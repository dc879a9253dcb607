-- The lemmas that the proofs use.
pub mod Absent
pub mod Advancing
pub mod Classes
pub mod Counted
pub mod Crossings
pub mod Fences
pub mod Imaged
mod Imports
pub mod JoinLemmas
pub mod KnownFiles
pub mod MachineLemmas
pub mod Known
pub mod Modes
pub mod NamedProgress
pub mod OnceIssued
pub mod OneTerm
pub mod RangeLemmas
pub mod SpanLemmas
pub mod Stepping
pub mod Resuming
pub mod TermLemmas
pub mod Zombies
