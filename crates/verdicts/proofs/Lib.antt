pub mod Parts
pub mod Capped
pub mod FirstRefused
