-- The definitions that contracts cite.
pub mod Counters
pub mod Ends
pub mod Holdings
pub mod Pins
pub mod RecordParts
pub mod Sound
pub mod Uses
