-- The definitions that contracts cite.
pub mod Fits
pub mod Images
pub mod Members
pub mod Written
