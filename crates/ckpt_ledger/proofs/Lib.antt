-- The lemmas that the proofs use.
pub mod Counting
pub mod Publishing
pub mod Restarting
pub mod Timely
pub mod WorkedTelling
