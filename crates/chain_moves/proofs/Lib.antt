pub mod MovesLaws
pub mod Climbing
pub mod Summing
pub mod Distances
