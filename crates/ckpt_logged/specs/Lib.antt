-- The definitions that contracts cite.
pub mod Chronicles
pub mod Events
pub mod Promises
