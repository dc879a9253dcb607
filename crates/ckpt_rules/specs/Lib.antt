-- The definitions that contracts cite.
pub mod FailureCount
pub mod Moments
pub mod Trigger
