pub mod Bits
pub mod Counting
pub mod Samples
