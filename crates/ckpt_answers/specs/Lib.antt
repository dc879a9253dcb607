-- The definitions that contracts cite.
pub mod Fronts
pub mod MetadataTexts
pub mod Texts
