-- What keeps a coordinator sound, one file for each kind of change; and that each call does, read off `Stepping`.
pub mod Acks
pub mod Calls
pub mod Completions
pub mod Drops
pub mod Histories
pub mod Opening
pub mod Outbox
pub mod Settings
pub mod Triggers
pub use Acks.*
pub use Completions.*
pub use Drops.*
pub use Outbox.*
pub use Settings.*
pub use Triggers.*
