-- Uses of files by records: their order, and how high a count can be.
pub mod CountBound
pub mod Order
