pub mod Turn
pub mod Split
