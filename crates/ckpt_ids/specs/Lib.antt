-- The definitions that contracts cite.
pub mod Acknowledged
pub mod Ascending
pub mod Configuration
pub mod ConfigurationValues
pub mod Counting
pub mod Ordered
pub mod Places
pub mod Records
pub mod RefusalTexts
pub mod Shapes
pub mod SubtaskOrder
