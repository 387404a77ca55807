pub mod Samples
pub mod Vectors
pub mod Extensible
pub mod Raised
pub mod Applied
pub mod AppliedListing
