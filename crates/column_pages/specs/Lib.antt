pub mod ColumnPages
pub mod Answers
