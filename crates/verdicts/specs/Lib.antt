pub mod Length
pub mod Refusals
