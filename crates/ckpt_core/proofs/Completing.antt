-- The acknowledgement that completes a record: what it supersedes, and its answer.
pub mod Agrees
pub mod Answers
pub mod Calls
pub mod Finish
pub mod Lists
pub mod Moves
pub mod Parts
pub mod Taken
