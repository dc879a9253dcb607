-- The definitions that contracts cite.
pub mod Choices
pub mod Jobs
pub mod Laws
pub mod Newest
pub mod PlainHistories
pub mod Programs
pub mod Restarts
pub mod Sinks
pub mod Snapshots
pub mod WorkedExamples
