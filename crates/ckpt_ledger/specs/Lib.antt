-- The definitions that contracts cite.
pub mod Laws
pub mod Ledgers
pub mod Restarts
pub mod WorkedExamples
pub mod WorkedRestarts
