pub mod Order
pub mod Entries
pub mod Lines
pub mod Answers
pub mod Listed
pub mod Statements
pub mod Samples
pub mod Answer
