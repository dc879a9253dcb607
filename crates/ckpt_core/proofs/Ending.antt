-- Records that end: drops by number, failing over, restores and cancels, and the files handed out.
pub mod Counts
pub mod DropDone
pub mod Drops
pub mod HandOut
pub mod Moves
pub mod Past
pub mod Settings
