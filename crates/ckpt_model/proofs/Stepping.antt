-- What one call changes, by one walk over all calls of `step`; the laws over lists of calls are read off it.
pub mod Acknowledged
pub mod Changes
pub mod Files
pub mod Walk
