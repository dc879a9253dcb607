-- The definitions that contracts cite.
pub mod Advancing
pub mod FencedExamples
pub mod Fencing
pub mod FencedLaws
pub mod Machines
pub mod NamedProgress
pub mod Spans
pub mod Spent
pub mod TermsImages
pub mod TermsOpening
pub mod Wants
