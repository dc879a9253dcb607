-- The lemmas, and the proofs of functions.
pub mod Names
pub mod CountLemmas
pub mod ReleaseLemmas
pub mod ItemLemmas
pub mod InputLemmas
pub mod Fitting
pub mod Cutting
pub mod Carrying
pub mod Completing
pub mod GoingOn
