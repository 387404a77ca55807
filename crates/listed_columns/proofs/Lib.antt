pub mod Due
pub mod Listed
pub mod Samples
