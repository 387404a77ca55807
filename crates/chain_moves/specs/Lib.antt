pub mod Moves
pub mod Distances
pub mod Followed
