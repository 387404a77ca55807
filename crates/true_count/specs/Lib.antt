pub mod True
pub mod Samples
pub mod Answer
