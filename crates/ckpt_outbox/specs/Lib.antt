-- The definitions that contracts cite.
pub mod Changes
pub mod Places
pub mod Queues
