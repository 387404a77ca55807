pub mod Pages
pub mod Answers
