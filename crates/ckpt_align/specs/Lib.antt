-- The definitions that contracts cite.
pub mod Alignment
pub mod Counts
pub mod Histories
pub mod Laws
pub mod Steps
pub mod WorkedExamples
