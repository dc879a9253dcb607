-- The definitions that contracts cite.
pub mod AnswerTexts
pub mod TermKeywords
pub mod TermReading
pub mod TermTexts
pub mod WorkedTermLines
