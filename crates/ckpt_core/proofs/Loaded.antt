-- What is made from an image.
pub mod Bounds
pub mod Groups
pub mod Joining
pub mod Loads
pub mod Reopened
pub mod Saving
pub mod Uses
