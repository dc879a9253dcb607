-- The definitions that contracts cite.
pub mod Deals
pub mod Orders
pub mod Rounds
pub mod Sequences
pub mod Shifts
pub mod Spreads
pub mod Tasks
pub mod Teams
pub mod Timers
