-- The definitions that contracts cite.
pub mod Bytes
pub mod CallTexts
pub mod Keywords
pub mod Reading
pub mod Usual
pub mod Values
pub mod Words
pub mod WorkedLines
