pub mod Blocks
pub mod Passes
pub mod Split
