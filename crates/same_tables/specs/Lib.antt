pub mod Same
pub mod Means
