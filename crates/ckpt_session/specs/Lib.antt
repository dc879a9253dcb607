-- The definitions that contracts cite.
pub mod AllLines
pub mod ScriptTexts
pub mod Seating
pub mod Sessions
