-- The definitions that contracts cite.
pub mod Books
pub mod Lists
pub mod Promises
pub mod Seats
pub mod Turns
pub mod Locks
