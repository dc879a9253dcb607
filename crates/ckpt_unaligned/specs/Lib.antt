-- The definitions that contracts cite.
pub mod Histories
pub mod Laws
pub mod Recording
pub mod Steps
pub mod WorkedExamples
