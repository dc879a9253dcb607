-- The definitions that contracts cite.
pub mod Crashes
pub mod Groups
pub mod Operations
pub mod WorkedExamples
