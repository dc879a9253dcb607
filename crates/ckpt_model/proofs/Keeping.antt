-- What becomes of a checkpoint that is done: a restart takes the newest, a completion leaves its record, and each is kept until it may end.
pub mod Completed
pub mod Configured
pub mod Kept
pub mod Latest
pub mod Restored
pub mod Triggered
