-- The laws over all lists of calls, each after its name, and what one step does to records and files.
pub mod Acknowledgements
pub mod Balance
pub mod Balances
pub mod Choice
pub mod Examples
pub mod Moves
pub mod Numbers
pub mod Pinned
pub mod Replays
pub mod Savepoints
pub mod Spreads
pub mod StepBalances
pub mod Takings
