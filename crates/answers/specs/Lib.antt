pub mod Results
pub mod Handed
