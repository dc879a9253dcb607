-- Acknowledgements, of pending records and late ones: what they do to records, uses and parts.
pub mod Late
pub mod Moves
pub mod States
pub mod Takes
pub mod Uses
