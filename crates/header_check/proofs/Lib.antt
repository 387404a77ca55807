pub mod Words
pub mod Parents
pub mod Whole
