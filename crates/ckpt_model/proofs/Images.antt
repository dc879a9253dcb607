-- The order in which files were fetched, which images leave out.
pub mod Alike
pub mod Settled
