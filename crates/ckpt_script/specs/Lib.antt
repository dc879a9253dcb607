-- The definitions that contracts cite.
pub mod Devices
pub mod Faults
pub mod Flushes
pub mod Known
pub mod Lines
pub mod Outputs
pub mod Reads
pub mod Runs
pub mod Telling
pub mod Unread
