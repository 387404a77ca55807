pub mod Report
pub mod Samples
pub mod Answer
