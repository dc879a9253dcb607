-- Acknowledgements of one record go in any order: two of them, and all that are missing.
pub mod DealtCalls
pub mod Exchange
pub mod ExchangeLemmas
pub mod Interleavings
pub mod MissingFiles
pub mod NewFiles
pub mod Progress
pub mod Rearranged
