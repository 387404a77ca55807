pub mod Parents
pub mod Dark
pub mod Marks
