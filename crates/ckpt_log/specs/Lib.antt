-- The definitions that contracts cite.
pub mod LogOutputs
pub mod LogTexts
pub mod Logs
