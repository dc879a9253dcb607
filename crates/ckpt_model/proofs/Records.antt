-- Records in rising number, and the uses of files by them: what filtering, changing and one more leave, and what is released.
pub mod Acknowledged
pub mod Counts
pub mod Held
pub mod Lists
pub mod Once
pub mod Pins
pub mod Present
pub mod Released
pub mod Replacing
pub use Acknowledged.*
pub use Counts.*
pub use Held.*
pub use Lists.*
pub use Once.*
pub use Present.*
pub use Released.*
pub use Replacing.*
