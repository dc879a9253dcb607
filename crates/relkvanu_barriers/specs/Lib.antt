-- The definitions that contracts cite.
pub mod Aligning
pub mod Recording
