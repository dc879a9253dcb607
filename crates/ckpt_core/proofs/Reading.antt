-- What is read without a call: when a record expires, the live records by place and by number.
pub mod Expiry
pub mod Live
pub mod Numbers
