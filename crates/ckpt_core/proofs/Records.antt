-- Records as one list in rising number, as the definitions see them, from the groups that the code keeps.
pub mod GroupLookups
pub mod GroupMoves
pub mod Grouped
pub mod Lookups
pub mod Pending
